-- The games that two files hold (this project's own).
use Rattle.std.specs.Prelude.{List, Result, Ok, Err}
use Rattle.sqlite_disk.specs.declared.Disk.{Ghosts}
use Rattle.sqlite_disk.specs.declared.Files.{Files}
use Rattle.sqlite_wal.specs.Recovery.{Image}
use Rattle.sqlite_trees.specs.Tree.{Trees}
use Rattle.sqlite_store.specs.declared.store.FileStore.{FileStore}
use Rattle.sqlite_store.specs.FileStore as store
use Rattle.sqlite.specs.declared.file.Leftover.{Leftover}
use Rattle.sqlite.specs.declared.file.Leftover.TheVariants as left
use Rattle.sqlite.specs.Files.{AreFoundIn, HoldsDatabase, LeavesFiles, image_of}
use Rattle.sqlite.specs.Closing.{HoldsAlone}
use Rattle.system_io.specs.declared.record_store.Entry.{Entry}
use Rattle.system_io.specs.Records.{Records, with_all, AreSame}
use Rattle.game_store.specs.Shelves.{HoldsBatchOrNot, HoldsGames, KeepsGames}

-- these are the games of what two files recover to, a database or nothing yet, and of each database that they hold
pub record FindsGames (image : Image) (games : Records) : Type 0 where
  pub trees : Trees
  pub reads : AreFoundIn image trees
  pub holds : HoldsGames trees games
  pub same : (db : Trees) (other : Records) → ∥ HoldsDatabase image db ∥₁ → HoldsGames db other → AreSame games other

-- the database file alone holds a database with these games, and so do the two files
pub record HoldsGamesAlone (image : Image) (games : Records) : Type 0 where
  pub trees : Trees
  pub alone : HoldsAlone image trees
  pub holds : HoldsGames trees games

-- a batch is there, or it was not acknowledged and the games are as they were
abbrev pub FindsBatch : {E : Type 0} → Records → List Entry → Result (Unit {0}) E → Trees → Type 0
FindsBatch games entries (Ok done) db = HoldsGames db (with_all games entries)
FindsBatch games entries (Err e) db = HoldsBatchOrNot games entries db

module _ {D : Type 0} {g : Ghosts D} where
  -- whatever of the two files a stop or a loss of power leaves, they hold such a database
  abbrev pub NextOpenFinds : FileStore D g → (Trees → Type 0) → Type 0
  NextOpenFinds last Finds = (left : Image) → (store.state last).may_leave left → ∥ ((db : Trees) × HoldsDatabase left db × Finds db) ∥₁

  -- what is left of the files after an opening that failed has the games that they held
  abbrev pub LeavesGames : Files D → Leftover D g → Type 0
  LeavesGames files (left.Files now) = LeavesFiles {g = g} files (left.Files now)
  LeavesGames files (left.Unopened now) = LeavesFiles {g = g} files (left.Unopened now)
  LeavesGames files (left.Store now) = (found : Trees) → store.recovers now found → (db : Trees) → HoldsDatabase (image_of g files) db → KeepsGames db found
