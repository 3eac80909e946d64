use Rattle.sqlite.specs.Files.{over_files}
use Rattle.sqlite_wal.specs.Files.{image_at}
use Rattle.game_store.specs.Shelves.{committed, remembered}
use Rattle.game_store.proofs.PlaceLemmas.{finds_same, settled}
use Rattle.game_store.proofs.sqlite_stores.SqliteStoresStores.open.Goals as goal

pub returns-in-Ok-open_at-clause-at : goal.returns-in-Ok-open_at-clause-at
returns-in-Ok-open_at-clause-at g c trusted =
    let store = c.in-Ok-open_at.store in
    finds_same (image_at g.S.Start) (committed over_files store) (remembered store) (c.in-Ok-open_at.ensures.has trusted) (c.in-Ok-open_at.ensures.found trusted)

pub returns-in-Ok-open_at-clause-settled : goal.returns-in-Ok-open_at-clause-settled
returns-in-Ok-open_at-clause-settled g c = settled over_files c.in-Ok-open_at.store c.in-Ok-open_at.ensures.open c.in-Ok-open_at.ensures.lasts c.in-Ok-open_at.ensures.has
