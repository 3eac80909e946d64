use Rattle.theorems.proofs.ServedStoring.{store_beside_files, stores_are_woven}
use Rattle.theorems.proofs.served_stores.served_stores_are_woven.Goals as goal

pub returns : goal.returns
returns g c =
    let o = g.S.System.outside c.args._system.now in
    let its = g.R.System.outside c.args._other.now in
    record { stores = stores_are_woven o its; files = λ at_once. store_beside_files o its (g.H.Games.facts c.args._other.now) at_once }
