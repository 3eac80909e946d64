use Rattle.game_server.proofs.EarnLaws.{acks_are_earned}
use Rattle.game_server.proofs.laws.acks_are_earned.Goals as goal

pub returns : goal.returns
returns g c = acks_are_earned (g.S.System.outside c.args._system.now) (g.G.Games.facts c.args._system.now)
