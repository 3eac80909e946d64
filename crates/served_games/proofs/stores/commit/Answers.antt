use Rattle.served_games.proofs.StoreHistories.{commit_calls}
use Rattle.served_games.proofs.stores.commit.Goals as goal

pub returns : goal.returns
returns g c =
    let o = g.S.System.outside c.args.system.now in
    commit_calls o (o.store_path c.args.store.now) c.args.store.now c.commit.new.store c.args.entries.items c.commit.result
    c.commit.ensures.all c.commit.ensures.kept c.commit.ensures.same c.commit.ensures.stops c.commit.ensures.refused
