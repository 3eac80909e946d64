-- A database that is opened holds the games that it held.
use Rattle.std.specs.List.{filter}
use Rattle.std.proofs.Common.{◌≡◌, inl, inr, ℕ, List, [], ◌∷◌, None, sym, ap, subst, ◌∙◌}
use Rattle.std.specs.List.{AllZip}
use Rattle.sqlite.specs.Order.{Row}
use Rattle.sqlite_trees.specs.Tree.{Trees}
use Rattle.sqlite_trees.specs.Objects.{catalog_tree}
use Rattle.sqlite.specs.Effect.{Database}
use Rattle.sqlite.specs.State.{State}
use Rattle.sqlite_catalog.specs.Listing.{IsSound, IsTableRow, is_table_row}
use Rattle.system_io.specs.Records.{Records}
use Rattle.game_store.specs.Rows.{AreRows, Numbers, game_schema, games_in, no_schema, table}
use Rattle.game_store.specs.Slots.{Slots, game_at, number_at}
use Rattle.game_store.specs.Shelves.{HoldsGames, IsReady, KeepsGames, Mirrors}

one_list : (rows : List Row) → AllZip IsTableRow rows (table ∷ []) → AllZip IsTableRow rows [] → ⊥
one_list [] one none = one
one_list (r ∷ rows) one none = none

-- a database has the table of the games, or it has nothing
pub apart : (db : Trees) → IsSound game_schema db → IsSound no_schema db → ⊥
apart db some none = one_list (filter is_table_row (db catalog_tree)) some.lists.listed.tables none.lists.listed.tables

pub holds_none : (db : Trees) (games : Records) → IsSound game_schema db → db 0 ≡ [] → ((stamp : List ℕ) → games stamp ≡ None) → HoldsGames db games
holds_none db games sound empty none =
    let numbers : Numbers = λ stamp. None in
    inl (sound, (numbers, subst (AreRows numbers) (sym empty) tt), λ stamp. ap (λ rows. games_in rows stamp) empty ∙ sym (none stamp))

pub keeps_none : (old new : Trees) → IsSound no_schema old → IsSound game_schema new → new 0 ≡ [] → KeepsGames old new
keeps_none old new none sound empty games (inl some) = absurd (apart old some.0 none)
keeps_none old new none sound empty games (inr nothing) = holds_none new games sound empty nothing.1

pub holds : (slots : Slots) (db : Database) → Mirrors slots db → HoldsGames db.trees (game_at slots)
holds slots db m = inl (m.has.sound, (number_at slots, m.has.rows), λ stamp. sym (m.games stamp))

pub found : (slots : Slots) (old mid : State) → IsReady old mid → Mirrors slots mid.now → HoldsGames old.committed.trees (game_at slots)
found slots old mid ready m = elim ready.from [
  | inl same ↦ subst (λ (d : Database). HoldsGames d.trees (game_at slots)) (sym ready.done ∙ same) (holds slots mid.now m)
  | inr new ↦ inr (new.0, λ stamp. m.games stamp ∙ ap (λ rows. games_in rows stamp) new.1)
]
