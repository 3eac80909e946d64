-- What a store holds (this project's own).
use Rattle.std.specs.Prelude.{◌≡◌, ◌<◌, ◌^◌, ◌⊎◌, ℕ, pos, false, List, [], length, map, All, IsPermutation, None, Some, IsTrue, refl}
use Rattle.sqlite.specs.declared.types.Value.TheVariants.{Int, Blob as Bytes}
use Rattle.sqlite.specs.Order.{Row, column}
use Rattle.sqlite_trees.specs.Tree.{Trees}
use Rattle.sqlite.specs.Effect.{Database}
use Rattle.sqlite.specs.State.{State, HasCleanDisk, IsUnchanged}
use Rattle.sqlite.specs.Held.{Held, held_code, state}
use Rattle.sqlite.specs.Store.{Ghosts}
use Rattle.std.specs.Coded.{Coded, code_by, coded×, coded_ℕ, coded_list}
use Rattle.game_store.specs.contracts.memory.Slot as slot
use Rattle.sqlite_catalog.specs.Listing.{IsSound}
use Rattle.system_io.specs.declared.record_store.Entry.{Entry}
use Rattle.system_io.specs.Records.{StoreFacts, Records, entry_record, with_all}
use Rattle.game_store.specs.Rows.{AreRows, Numbers, game_schema, games_in, is_stamp_value, list_row, no_schema}
use Rattle.game_store.specs.Slots.{Slots, Takes, game_at, number_at}
use Rattle.game_store.specs.Batches.{HasRows}

-- memory has the games of a database, under their numbers
pub record Mirrors (slots : Slots) (db : Database) : Type 0 where
  pub has : HasRows (number_at slots) db
  pub games : (stamp : List ℕ) → game_at slots stamp ≡ games_in (db.trees 0) stamp

-- the database has the table of the games with these games, or nothing at all and there is no game
abbrev pub HoldsGames : Trees → Records → Type 0
HoldsGames db games =
    (IsSound game_schema db × ((numbers : Numbers) × AreRows numbers (db 0)) × ((stamp : List ℕ) → games_in (db 0) stamp ≡ games stamp))
    ⊎ (IsSound no_schema db × ((stamp : List ℕ) → games stamp ≡ None))

-- ---- reading

-- the columns of a row that is listed are those of an entry, under a number
pub record TellsEntry (r : Row) (number : ℕ) (e : Entry) : Type 0 where
  pub low : number < 2 ^ 32
  pub few : e.count < 2 ^ 32
  pub whole : length e.stamp ≡ 16
  pub id_is : column r 0 ≡ Int (pos number)
  pub stamp_is : column r 1 ≡ Bytes e.stamp
  pub count_is : column r 2 ≡ Int (pos e.count)
  pub text_is : column r 3 ≡ Bytes e.record.items

-- memory has a row that was listed
pub record TakesRow (r : Row) (old new : Slots) : Type 0 where
  pub number : ℕ
  pub entry : Entry
  pub told : TellsEntry r number entry
  pub taken : Takes number entry old new

-- memory has what this row that was listed tells
pub record HasRow (slots : Slots) (r : Row) : Type 0 where
  pub number : ℕ
  pub entry : Entry
  pub told : TellsEntry r number entry
  pub numbered : number_at slots entry.stamp ≡ Some number
  pub kept : game_at slots entry.stamp ≡ Some (entry_record entry)

-- memory has what these rows tell, and no other game
pub record HasRead (rows : List Row) (slots : Slots) : Type 0 where
  pub each : All (HasRow slots) rows
  pub only : (stamp : List ℕ) → All (λ (r : Row). is_stamp_value stamp (column r 1) ≡ false) rows → number_at slots stamp ≡ None

-- all rows of the table of the games were read, and nothing changed
abbrev pub ReadsRows : List Row → State → State → Type 0
ReadsRows rows old new = IsPermutation (map list_row (old.now.trees 0)) rows × IsUnchanged old new

-- memory has the games of a sound database, and nothing changed
abbrev pub ReadsGames : Slots → State → State → Type 0
ReadsGames slots old new = IsUnchanged old new × (IsSound game_schema old.now.trees → Mirrors slots old.now)

-- a table of games was made in a database that had none, with no row
pub record MakesTable (old new : State) : Type 0 where
  pub was_open : IsTrue old.is_open
  pub is_open : IsTrue new.is_open
  pub schema : new.now.schema ≡ game_schema
  pub sound : IsSound game_schema new.now.trees
  pub empty : new.now.trees 0 ≡ []
  pub done : old.in_transaction ≡ false → new.committed ≡ new.now

-- each game that a database holds, or that it has none, holds of another too
abbrev pub KeepsGames : Trees → Trees → Type 0
KeepsGames old new = (games : Records) → HoldsGames old games → HoldsGames new games

-- each game that is committed, where the database is open
abbrev pub KeepsCommitted : State → Trees → Type 0
KeepsCommitted old db = IsTrue old.is_open → KeepsGames old.committed.trees db

-- these games, or all with the whole batch
abbrev pub HoldsBatchOrNot : Records → List Entry → Trees → Type 0
HoldsBatchOrNot games entries db = HoldsGames db games ⊎ HoldsGames db (with_all games entries)

-- The database has the table of the games and is committed. It is as before, or it had nothing and has no row.
pub record IsReady (old new : State) : Type 0 where
  pub sound : IsSound game_schema new.now.trees
  pub done : new.committed ≡ new.now
  pub from : (new.committed ≡ old.committed) ⊎ (IsSound no_schema old.committed.trees × (new.now.trees 0 ≡ []))

-- ---- a store

-- its connection, and the games in memory
pub record Shelf (S : Type 0) : Type 0 where
  pub conn : Held S
  pub slots : Slots

abbrev pub slots_code : Coded Slots
slots_code = coded_list (coded× (coded_list coded_ℕ) slot.the_row.coded)

abbrev pub shelf_code : {S : Type 0} → Coded S → Coded (Shelf S)
shelf_code {S} store = code_by (Held S × Slots) (coded× (held_code store) slots_code) (λ s. (s.conn, s.slots)) (λ p. record { conn = p.0; slots = p.1 }) (λ _. refl)

-- no transaction is open, and memory has the games that are committed
pub record HasCommittedGames {S : Type 0} (g : Ghosts S) (conn : Held S) (slots : Slots) : Type 0 where
  pub outside : conn.in_transaction ≡ false
  pub mirrors : HasCleanDisk (state g conn) → IsTrue (state g conn).is_open → Mirrors slots (state g conn).committed

module _ {S : Type 0} (g : Ghosts S) where
  -- what the database shows
  abbrev pub database : Shelf S → State
  database s = state g s.conn

  -- so far the disk has returned what was written
  abbrev pub IsTrusted : Shelf S → Type 0
  IsTrusted s = HasCleanDisk (database s)

  -- no failure has shut it
  abbrev pub IsOpen : Shelf S → Type 0
  IsOpen s = IsTrue (database s).is_open

  -- the games that the last commit left
  abbrev pub committed : Shelf S → Records
  committed s = games_in ((database s).committed.trees 0)

  -- each database that a stop or a loss of power may leave now has these games
  abbrev pub Leaves : Shelf S → (Trees → Type 0) → Type 0
  Leaves s Holds = (db : Trees) → (database s).may_leave db → Holds db

-- the games in memory
abbrev pub remembered : {S : Type 0} → Shelf S → Records
remembered s = game_at s.slots

-- what is known of it as of any store of records
abbrev pub store_facts : {S : Type 0} → Ghosts S → Shelf S → StoreFacts
store_facts g s = record {
  has = remembered s;
  starts = λ found. (db : Trees) × (database g s).may_leave db × HoldsGames db found;
  trusted = IsTrusted g s;
  works = IsOpen g s;
}
