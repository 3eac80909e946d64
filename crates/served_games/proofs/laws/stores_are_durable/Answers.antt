use Rattle.served_games.proofs.StoreHistories.{stores_are_durable}
use Rattle.served_games.proofs.laws.stores_are_durable.Goals as goal

pub returns : goal.returns
returns g c = stores_are_durable (g.S.System.outside c.args._system.now)
