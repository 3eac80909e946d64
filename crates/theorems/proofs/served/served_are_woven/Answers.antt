use Rattle.theorems.proofs.ServedWeaving.{served_are_woven}
use Rattle.theorems.proofs.served.served_are_woven.Goals as goal

pub returns : goal.returns
returns g c = served_are_woven (g.G.Games.facts c.args._system.now) (g.H.Games.facts c.args._other.now)
