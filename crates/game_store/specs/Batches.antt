-- What a batch makes of a database (this project's own).
use Rattle.std.specs.Prelude.{◌≡◌, ℕ, List, Result, OnOk}
use Rattle.sqlite.specs.Effect.{Database}
use Rattle.sqlite_trees.specs.Tree.{Trees}
use Rattle.sqlite.specs.State.{State}
use Rattle.sqlite_catalog.specs.Listing.{IsSound}
use Rattle.system_io.specs.declared.record_store.Entry.{Entry}
use Rattle.system_io.specs.Records.{with_all}
use Rattle.game_store.specs.Rows.{AreRows, HasPut, Numbers, game_schema, games_in, stored_row}

-- the database has the table of the games alone, and rows of games under their numbers
pub record HasRows (numbers : Numbers) (db : Database) : Type 0 where
  pub schema : db.schema ≡ game_schema
  pub sound : IsSound game_schema db.trees
  pub rows : AreRows numbers (db.trees 0)

-- one database became another where each entry of a batch was put in turn
pub record Becomes (numbers : Numbers) (entries : List Entry) (old new : Database) : Type 0 where
  pub has : HasRows numbers new
  pub games : (stamp : List ℕ) → games_in (new.trees 0) stamp ≡ with_all (games_in (old.trees 0)) entries stamp

-- so it is where a batch is put into a database of games, with this result
abbrev pub PutsBatch : {A E : Type 0} → Numbers → List Entry → Result A E → Database → Database → Type 0
PutsBatch numbers entries r old new = HasRows numbers old → OnOk r (Becomes numbers entries old new)

-- the trees of what a batch makes of a database of games
abbrev pub AreOfBatch : Numbers → List Entry → Database → Trees → Type 0
AreOfBatch numbers entries old trees = HasRows numbers old → (db : Database) × Becomes numbers entries old db × (trees ≡ db.trees)

-- a row was put
pub record PutsRow (number : ℕ) (e : Entry) (old new : State) : Type 0 where
  pub schema : new.now.schema ≡ game_schema
  pub sound : IsSound game_schema new.now.trees
  pub put : HasPut (stored_row number e) (old.now.trees 0) (new.now.trees 0)
