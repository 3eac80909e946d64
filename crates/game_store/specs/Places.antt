-- Where stores are opened, and which games two files hold (this project's own).
use Rattle.std.specs.Prelude.{◌≡◌, ℕ, Bool, true, false, List, Vec, IsTrue, ⊤}
use Rattle.std.specs.Global.{Global}
use Rattle.sqlite.specs.declared.error.Error.TheVariants.{SqliteFailure}
use Rattle.sqlite.specs.declared.error.ErrorCode.TheVariants as code
use Rattle.sqlite.specs.Files.{over_files}
use Rattle.sqlite_disk.specs.declared.Disk.{Ghosts}
use Rattle.sqlite_disk.specs.declared.Files.{Files}
use Rattle.sqlite_disk.specs.declared.memory.Memory.{Memory}
use Rattle.sqlite_disk.specs.Memory.{memory_bytes, memory_is_usable}
use Rattle.sqlite_store.specs.declared.store.FileStore.{FileStore}
use Rattle.sqlite_wal.specs.Recovery.{Image}
use Rattle.system_io.specs.declared.record_store.StoreFault.{StoreFault}
use Rattle.system_io.specs.declared.record_store.StoreFault.TheVariants.{OutOfMemory, Unreadable}
use Rattle.system_io.specs.declared.record_store.Entry.{Entry}
use Rattle.system_io.specs.declared.record_store.PutFault.{PutFault}
use Rattle.system_io.specs.declared.record_store.PutFault.TheVariants as put
use Rattle.system_io.specs.Records.{StorePlaces}
use Rattle.game_store.specs.declared.fault.DatabaseFault.{DatabaseFault}
use Rattle.game_store.specs.declared.fault.DatabaseFault.TheVariants.{Sqlite}
use Rattle.game_store.specs.Files.{FindsGames}
use Rattle.game_store.specs.Shelves.{IsTrusted, Shelf, remembered}

-- what is known of where stores are opened whose files, as they are opened, are these two
abbrev pub store_places : {D : Type 0} {g : Ghosts D} → Image → StorePlaces (Shelf (FileStore D g))
store_places first = record {
  -- it has the games of the two files, where its disk has returned what was written; which path they are at isn't said
  is_at = λ path store. IsTrusted over_files store → FindsGames first (remembered store);
  refuses = λ path fault. ⊤;
  -- these are the games that the two files recover to
  holds = λ db log records. FindsGames (record { log = log; db = db }) records;
  withholds = λ db log fault. ⊤;
}

-- so it is where each store is within another value
abbrev pub stores_within : {S T : Type 0} → (T → S) → StorePlaces S → StorePlaces T
stores_within inner places = record {
  is_at = λ path store. places.is_at path (inner store);
  refuses = places.refuses;
  holds = places.holds;
  withholds = places.withholds;
}

-- refused memory is told as that
abbrev pub store_fault_of : DatabaseFault → StoreFault
store_fault_of (Sqlite (SqliteFailure code.OutOfMemory)) = OutOfMemory
store_fault_of _ = Unreadable

-- of files in memory a failed call, and that the database is closed after one, is refused memory too
abbrev pub copies_fault_of : DatabaseFault → StoreFault
copies_fault_of (Sqlite (SqliteFailure code.SystemIoFailure)) = OutOfMemory
copies_fault_of (Sqlite (SqliteFailure code.DiskFull)) = OutOfMemory
copies_fault_of (Sqlite (SqliteFailure code.Closed)) = OutOfMemory
copies_fault_of fault = store_fault_of fault

-- a batch is not put for want of memory where that was the fault, and the store goes on
abbrev pub put_fault_of : StoreFault → Bool → Vec Entry Global → PutFault
put_fault_of OutOfMemory true batch = put.OutOfMemory batch
put_fault_of OutOfMemory false batch = put.Failed
put_fault_of Unreadable goes_on batch = put.Failed

-- a database file and its log in memory, with these bytes
pub record HaveBytes (db log : List ℕ) (files : Files Memory) : Type 0 where
  pub db_bytes : memory_bytes files.db ≡ db
  pub log_bytes : memory_bytes files.log ≡ log
  pub db_usable : IsTrue (memory_is_usable files.db)
  pub log_usable : IsTrue (memory_is_usable files.log)
