use Rattle.std.proofs.Common.{map, subst, sym}
use Rattle.game_store.specs.Listing.{ListsGames, as_listed}
use Rattle.game_store.specs.Shelves.{Shelf, remembered}
use Rattle.game_store.specs.Slots.{game_at}
use Rattle.game_store.proofs.EntryLemmas.{if_ok, records_listed}
use Rattle.game_store.proofs.store.Store.entries.Goals as goal

pub returns : goal.returns
returns g c =
    let games = c.deref.result.now in
    let inside = subst (λ all. ListsGames (map as_listed all) (game_at c.self.inside.memory)) (sym c.deref.ensures.value) c.in_ok-games.ensures in
    let lists = subst (λ (v : Shelf _). ListsGames (map as_listed games) (remembered v)) c.self.view_is inside in
    if_ok c.entries_of.result (λ entries same. records_listed entries.items (map as_listed games) (remembered c.args.self.now) same lists) c.entries_of.ensures
