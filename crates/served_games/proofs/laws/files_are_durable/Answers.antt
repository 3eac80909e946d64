use Rattle.served_games.proofs.FileHistories.{files_are_durable}
use Rattle.served_games.proofs.laws.files_are_durable.Goals as goal

pub returns : goal.returns
returns g c = files_are_durable (g.S.System.outside c.args._system.now) (g.met.S.System.one c.args._system.now)
