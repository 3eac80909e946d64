use Rattle.http_answer.specs.Games.{ForGame, ForPage}
use Rattle.http_answer.proofs.router.topic_below.Goals as goal

pub returns-in-Some-clause-some : goal.returns-in-Some-clause-some
returns-in-Some-clause-some c = ForGame c.in-Some.digits.now c.in-Some.ensures.some c.game_of.ensures

pub returns-in-Some-behind-clause-some : goal.returns-in-Some-behind-clause-some
returns-in-Some-behind-clause-some c = ForPage c.in-Some-behind.digits.now c.in-Some-behind.ensures.some c.watch_of.ensures
