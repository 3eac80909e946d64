use Rattle.served_games.proofs.StoreHistories.{open_calls}
use Rattle.served_games.proofs.stores.open.Goals as goal

pub returns : goal.returns
returns g c = open_calls (g.S.System.outside c.args.system.now) c.args.path.now c.store.result c.store.ensures.settled
