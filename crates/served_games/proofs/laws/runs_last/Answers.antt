use Rattle.served_games.proofs.Enduring.{runs_last}
use Rattle.served_games.proofs.laws.runs_last.Goals as goal

pub returns : goal.returns
returns g c = λ at_once. runs_last (g.S.System.outside c.args._system.now) (g.G.Games.facts c.args._system.now) at_once
