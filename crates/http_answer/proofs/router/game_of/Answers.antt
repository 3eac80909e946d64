use Rattle.std.proofs.Common.{refl}
use Rattle.http_answer.specs.Games.{OfStamp}
use Rattle.http_answer.proofs.router.game_of.Goals as goal

pub returns-in-Some : goal.returns-in-Some
returns-in-Some c = OfStamp c.in-Some.stamp c.in-Some.ensures.some.0 c.in-Some.ensures.some.1 refl
