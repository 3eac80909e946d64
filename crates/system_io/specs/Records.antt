-- Stores of records (this project's own): of each game its record, under the game's stamp. What is put together is kept all or not at all.
use Rattle.std.specs.Prelude.{◌≡◌, ◌⊎◌, ℕ, List, Option, Some, None, if◌then◌else◌, fold}
use Rattle.std.specs.Str.{bytes_eq}
use Rattle.system_io.specs.declared.record_store.Entry.{Entry}
use Rattle.system_io.specs.declared.record_store.PutFault.{PutFault}
use Rattle.system_io.specs.declared.record_store.PutFault.TheVariants.{Failed, OutOfMemory}
use Rattle.system_io.specs.declared.record_store.StoreFault.{StoreFault}

-- how many moves the record of a game has, and its bytes
pub record StoredRecord : Type 0 where
  pub count : ℕ
  pub bytes : List ℕ

-- what is kept of each game, by its stamp
abbrev pub Records : Type 0
Records = List ℕ → Option StoredRecord

abbrev pub entry_record : Entry → StoredRecord
entry_record e = record { count = e.count; bytes = e.record.items }

-- the records, with this entry in place of what was kept of its game
abbrev pub with_entry : Records → Entry → Records
with_entry records e stamp = if bytes_eq e.stamp stamp then Some (entry_record e) else records stamp

-- the records, with each entry put in turn
abbrev pub with_all : Records → List Entry → Records
with_all = fold with_entry

-- the same is kept of each game
abbrev pub AreSame : Records → Records → Type 0
AreSame now was = (stamp : List ℕ) → now stamp ≡ was stamp

-- what is known of a store
pub record StoreFacts : Type 1 where
  -- what it has
  pub has : Records
  -- what a start may find, were it left as it is now
  pub starts : Records → Type 0
  -- so far its disk has returned what was written
  pub trusted : Type 0
  -- no failure has made it useless
  pub works : Type 0

-- it works, and a start finds what it has
pub record IsAtRest (s : StoreFacts) : Type 0 where
  pub works : s.works
  pub found : (found : Records) → s.starts found → AreSame found s.has

abbrev pub IsSettled : StoreFacts → Type 0
IsSettled s = s.trusted → IsAtRest s

-- a start finds these records, or all with the whole batch
abbrev pub FindsBatchOrNot : StoreFacts → Records → List Entry → Type 0
FindsBatchOrNot s records entries = s.trusted → (found : Records) → s.starts found → AreSame found records ⊎ AreSame found (with_all records entries)

-- after a batch that wasn't put for want of memory a start finds what the store has, and the batch comes back
abbrev pub GivesBack : StoreFacts → List Entry → PutFault → Type 0
GivesBack s entries Failed = Unit {0}
GivesBack s entries (OutOfMemory batch) = IsSettled s × (batch.items ≡ entries)

-- ---- where stores are

-- the records of a list alone
abbrev pub records_of : List Entry → Records
records_of = with_all (λ _. None)

-- what is known of where stores are opened and read
pub record StorePlaces (S : Type 0) : Type 1 where
  -- the store is the one at this path
  pub is_at : List ℕ → S → Type 0
  -- no store is opened at this path, for this reason
  pub refuses : List ℕ → StoreFault → Type 0
  -- two files of these bytes, of a database and the log beside it, hold these records
  pub holds : List ℕ → List ℕ → Records → Type 0
  -- what they hold isn't told, for this reason
  pub withholds : List ℕ → List ℕ → StoreFault → Type 0
