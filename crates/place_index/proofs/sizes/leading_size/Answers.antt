use Rattle.std.proofs.Common.{◌≡◌, ◌+◌, false, refl, sym, ap, ◌∙◌}
use Rattle.std.proofs.lemmas.Bool.{false≢true}
use Rattle.place_index.specs.Material.{white_pawns, black_pawns}
use Rattle.place_index.specs.Shape.{has_pawns, lead_size}
use Rattle.place_index.proofs.Shapes.Beginning.{some_pawns, no_pawns, unique_by_three, none_by_two}
use Rattle.place_index.proofs.Shapes.Greatest.{pawns_lead, three_lead, kings_lead}
use Rattle.place_index.proofs.sizes.leading_size.Goals as goal

pub returns-then-has_pawns-clause-is : goal.returns-then-has_pawns-clause-is
returns-then-has_pawns-clause-is c =
    rw c.leading_men-lead.ensures.is
    (pawns_lead c.args.material c.number-file.result c.leading_men-lead.ensures.known c.number-file.ensures.left (some_pawns (white_pawns c.args.material + black_pawns c.args.material) (c.if-has_pawns.ensures.0 refl))
    ∙ ap (lead_size c.args.material) c.number-file.ensures.is)

pub returns-then-lead-eq3-clause-is : goal.returns-then-lead-eq3-clause-is
returns-then-lead-eq3-clause-is c =
    let none : has_pawns c.args.material ≡ false =
    no_pawns (white_pawns c.args.material + black_pawns c.args.material) (λ some. false≢true (c.if-has_pawns.ensures.1 some)) in
    sym (three_lead c.args.material c.args.file none (unique_by_three c.args.material none (sym c.leading_men-lead.ensures.is ∙ c.if-lead-eq3.true)))

pub returns-else-lead-eq3-clause-is : goal.returns-else-lead-eq3-clause-is
returns-else-lead-eq3-clause-is c =
    let none : has_pawns c.args.material ≡ false =
    no_pawns (white_pawns c.args.material + black_pawns c.args.material) (λ some. false≢true (c.if-has_pawns.ensures.1 some)) in
    sym (kings_lead c.args.material c.args.file none (none_by_two c.args.material none (λ e. c.if-lead-eq3.false (c.leading_men-lead.ensures.is ∙ e))))
