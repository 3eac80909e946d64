use Rattle.served_games.proofs.StoreHistories.{find_calls}
use Rattle.timeline.specs.Events.{bytes_found}
use Rattle.served_games.proofs.stores.find.Goals as goal

pub returns : goal.returns
returns g c =
    let o = g.S.System.outside c.args.system.now in
    find_calls o (o.store_path c.args.store.now) c.args.store.now c.args.stamp.now (bytes_found c.find.result) c.find.ensures.found
