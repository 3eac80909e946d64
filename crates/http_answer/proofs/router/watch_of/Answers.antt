use Rattle.std.proofs.Common.{refl}
use Rattle.http_answer.specs.Games.{PageOfStamp}
use Rattle.http_answer.proofs.router.watch_of.Goals as goal

pub returns-in-Some : goal.returns-in-Some
returns-in-Some c = PageOfStamp c.in-Some.field-0 c.in-Some.ensures.some.0 c.in-Some.ensures.some.1 refl
