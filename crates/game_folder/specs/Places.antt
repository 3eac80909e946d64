-- Where the records of games are kept, and what was kept there so far (this project's own).
use Rattle.std.specs.Prelude.{◌≡◌, ◌⊎◌, ℕ, true, List, Some, Ok}
use Rattle.std.specs.List.{Contains}
use Rattle.system_io.specs.Records.{StoredRecord}
use Rattle.timeline.specs.Events.{Event, Committed, Found, Put, RecordSought}

-- in the file at this path, or in the store at this path
pub data KeptAt : Type 0 where
  InFile : (path : List ℕ) → KeptAt
  InStore : (path : List ℕ) → KeptAt

-- so far these bytes were put at a path, or found there by a start
abbrev pub WasPut : List ℕ → List Event → List ℕ → Type 0
WasPut path before bytes = Contains before (Put path bytes true) ⊎ Contains before (Found path (Ok (Some bytes)))

-- so far they were committed of the game with this stamp to the store at a path
pub record WasCommitted (path : List ℕ) (before : List Event) (stamp bytes : List ℕ) : Type 0 where
  pub records : List (List ℕ × StoredRecord)
  pub its : StoredRecord
  pub done : Contains before (Committed path records true)
  pub among : Contains records (stamp, its)
  pub bytes_are : its.bytes ≡ bytes

-- so far they were kept of the game with this stamp, or found where its record is kept
abbrev pub WasKept : KeptAt → List Event → List ℕ → List ℕ → Type 0
WasKept (InFile path) before stamp bytes = WasPut path before bytes
WasKept (InStore path) before stamp bytes = WasCommitted path before stamp bytes ⊎ Contains before (RecordSought path stamp (Some bytes))

-- which bytes, of the game with which stamp
abbrev pub Held : Type 1
Held = List ℕ → List ℕ → Type 0

-- where the record of each game is kept, by its stamp
abbrev pub Places : Type 0
Places = List ℕ → KeptAt

-- that of one game is in a file
abbrev pub one_file : List ℕ → Places
one_file path = λ stamp. InFile path

-- what was kept so far
abbrev pub kept_by : Places → List Event → Held
kept_by places before = λ stamp bytes. WasKept (places stamp) before stamp bytes
