use Rattle.std.proofs.Common.{List, ap, sym}
use Rattle.system_io.specs.declared.record_store.Entry.{Entry}
use Rattle.game_folder.specs.StoreGames.{StoredGames}
use Rattle.game_folder.proofs.store_games.StoreGames.add.Goals as goal

pub returns : goal.returns
returns g c =
    let inside = c.self.inside in
    let with_entries : List Entry → StoredGames g.row.S-Store.Denot = λ es. record { folder = inside.folder.now; store = inside.store; noted = es; left = inside.left.items; loss = inside.loss } in
    rw (sym c.self.view_is) (c.in-Ok.entry, c.in-Ok.ensures, ap with_entries c.in-Ok-push.ensures.items)
