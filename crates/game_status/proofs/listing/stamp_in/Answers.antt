use Rattle.std.proofs.Common.{◌∙◌, ap, List, ℕ, ◌++◌}
use Rattle.std.proofs.lemmas.Bool.Decides.{Decides-eqb}
use Rattle.std.proofs.lemmas.Option.{IfSome_then}
use Rattle.std.proofs.lemmas.Slice.Eq.{strip_suffix_is}
use Rattle.game_status.proofs.ListingLaws.{no_front, some_front}
use Rattle.game_status.proofs.listing.stamp_in.Goals as goal

pub returns-in-Some-clause-some : goal.returns-in-Some-clause-some
returns-in-Some-clause-some c =
    let front = some_front c.args.name.now c.args.ending.now c.strip_suffix.result c.in-Some.digits c.in-Some.is (strip_suffix_is Decides-eqb c.args.name.now c.args.ending.now c.strip_suffix.result c.strip_suffix.ensures.cases) in
    IfSome_then c.stamp_of.result c.stamp_of.ensures.some (λ stamp h. (h.0, front ∙ ap (λ (t : List ℕ). t ++ c.args.ending.now) h.1))

pub returns-in-None-clause-none : goal.returns-in-None-clause-none
returns-in-None-clause-none c = λ stamp is e.
    no_front c.args.name.now c.args.ending.now c.strip_suffix.result c.in-None.is (strip_suffix_is Decides-eqb c.args.name.now c.args.ending.now c.strip_suffix.result c.strip_suffix.ensures.cases) _ e
