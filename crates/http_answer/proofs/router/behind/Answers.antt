use Rattle.std.proofs.lemmas.Bool.Decides.{Decides-eqb}
use Rattle.std.proofs.lemmas.Slice.Eq.{strip_prefix_is}
use Rattle.game_status.proofs.StoredLaws.{after_front, not_after}
use Rattle.http_answer.proofs.router.behind.Goals as goal

pub returns-in-Some-clause-some : goal.returns-in-Some-clause-some
returns-in-Some-clause-some c = after_front c.args.path.now c.args.front.now c.strip_prefix.result c.in-Some.rest c.in-Some.is (strip_prefix_is Decides-eqb c.args.path.now c.args.front.now c.strip_prefix.result c.strip_prefix.ensures.cases)

pub returns-in-None-clause-none : goal.returns-in-None-clause-none
returns-in-None-clause-none c = not_after c.args.path.now c.args.front.now c.strip_prefix.result c.in-None.is (strip_prefix_is Decides-eqb c.args.path.now c.args.front.now c.strip_prefix.result c.strip_prefix.ensures.cases)
