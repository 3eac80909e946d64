use Rattle.served_games.proofs.InOrder.{store_keeps_in_order}
use Rattle.served_games.proofs.laws.store_games_keep_in_order.Goals as goal

pub returns : goal.returns
returns g c = store_keeps_in_order (g.S.System.outside c.args._system.now)
