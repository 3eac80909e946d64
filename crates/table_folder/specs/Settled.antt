-- Positions at which no table of a folder is missing, and what is refused (this project's own).
use Rattle.std.specs.Prelude.{◌≡◌, ◌<◌, ◌⊎◌, ℕ, false, List, [], ◌∷◌, take, Some, None, IsSome, Err}
use Rattle.std.specs.List.{Contains}
use Rattle.board_core.specs.declared.moves.Move.{Move}
use Rattle.board_core.specs.ComputedMoves.{legal_moves, position_after}
use Rattle.board_core.specs.declared.parts.Parts.{Parts}
use Rattle.system_io.specs.Disks.{DiskFacts}
use Rattle.table_file.specs.declared.kind.TableKind.{TableKind}
use Rattle.table_file.specs.declared.kind.TableKind.TheVariants.{Wdl, Dtz}
use Rattle.table_file.specs.Names.{file_name}
use Rattle.judge_core.specs.declared.fault.ValueFault.TheVariants.{NotCovered}
use Rattle.judge_core.specs.Distances.{dtz_of}
use Rattle.judge_core.specs.Games.{IsUnruled, Rules, position_after_all}
use Rattle.judge_core.specs.MoreTables.{HasAll}
use Rattle.judge_core.specs.Probing.{wdl_of}
use Rattle.judge_core.specs.Ruling.{is_out_of_scope}
use Rattle.judge_core.specs.Tables.{Tables, table_at}
use Rattle.table_folder.specs.declared.fault.FileRefusal.{FileRefusal}
use Rattle.table_folder.specs.Folders.{AreOf, Folder, HasTable, Says}

-- at a position in scope the value misses this table, or the distance does
abbrev pub Misses : Tables → Parts → TableKind → ℕ → Type 0
Misses tables p kind key =
    (is_out_of_scope p ≡ false) × (table_at tables kind key ≡ None)
    × ((kind ≡ Wdl) × (wdl_of tables p ≡ Err (NotCovered key)) ⊎ (dtz_of tables p ≡ Err (NotCovered key)))

-- of a material the WDL table comes first: it is open, or the folder has none
abbrev pub ComesInTurn : Folder → Tables → TableKind → ℕ → Type 0
ComesInTurn folder tables kind key = kind ≡ Dtz → table_at tables Wdl key ≡ None → HasTable folder Wdl key → ⊥

-- of the tables that a position misses the folder has none
abbrev pub IsSettled : Folder → Tables → Parts → Type 0
IsSettled folder tables p = (kind : TableKind) (key : ℕ) → Misses tables p kind key → HasTable folder kind key → ⊥

-- so it is of each position that is needed by these tables
abbrev pub AreSettled : Folder → Tables → (Tables → Parts → Type 0) → Type 0
AreSettled folder tables IsNeeded = (p : Parts) → IsNeeded tables p → IsSettled folder tables p

-- the position at some ply of a game: at its start, or after a move that is legal in its turn
abbrev pub IsPly : Parts → List Move → Parts → Type 0
IsPly start [] p = p ≡ start
IsPly start (m ∷ moves) p = (p ≡ start) ⊎ ((next : Parts) × (position_after start m ≡ Some next) × IsPly next moves p)

-- The position at a ply of a game is in play: no ply before it has a verdict.
pub record IsInPlay (rules : Rules) (moves : List Move) (p : Parts) : Type 0 where
  pub ply : ℕ
  pub at : position_after_all rules.start (take ply moves) ≡ Some p
  pub unruled : IsUnruled rules moves ply

-- by these tables
abbrev pub IsInPlayBy : Parts → List Move → ℕ → Tables → Parts → Type 0
IsInPlayBy start moves delay tables p = IsInPlay (record { start = start; tables = tables; delay = delay }) moves p

-- a position alone, by whatever tables
abbrev pub IsAlone : Parts → Tables → Parts → Type 0
IsAlone position tables p = p ≡ position

-- a position, or the one after a legal move of it, by whatever tables
abbrev pub IsWithMoves : Parts → Tables → Parts → Type 0
IsWithMoves position tables p = (p ≡ position) ⊎ ((m : Move) × Contains (legal_moves position) m × (position_after position m ≡ Some p))

-- a position misses a table of the folder, by tables of this, whose file says why it is none
pub record IsRefusedAt (disk : DiskFacts) (folder : Folder) (p : Parts) (refusal : FileRefusal) : Type 0 where
  pub tables : Tables
  pub opened : AreOf disk folder tables
  pub kind : TableKind
  pub key : ℕ
  pub known : key < 145
  pub misses : Misses tables p kind key
  pub has : HasTable folder kind key
  pub in_turn : ComesInTurn folder tables kind key
  pub name : refusal.name.bytes ≡ file_name kind key
  pub says : Says disk folder (file_name kind key) (Err refusal.fault)

-- by these tables of the folder, and by all of it that have more, a position is needed
abbrev pub IsNeededFrom : DiskFacts → Folder → Tables → (Tables → Parts → Type 0) → Parts → Type 0
IsNeededFrom disk folder tables IsNeeded p = (more : Tables) → AreOf disk folder more → HasAll tables more → IsNeeded more p

-- a needed position misses this table, by tables of the folder that have at least those that were open first
pub record IsMissedFor (disk : DiskFacts) (folder : Folder) (IsNeeded : Tables → Parts → Type 0) (first : Tables) (kind : TableKind) (key : ℕ) : Type 0 where
  pub position : Parts
  pub tables : Tables
  pub kept : HasAll first tables
  pub opened : AreOf disk folder tables
  pub needed : IsNeededFrom disk folder tables IsNeeded position
  pub misses : Misses tables position kind key
  pub in_turn : ComesInTurn folder tables kind key

-- each table that the second set has and the first lacks is missed at a needed position
abbrev pub AddsOnlyMissed : DiskFacts → Folder → (Tables → Parts → Type 0) → Tables → Tables → Type 0
AddsOnlyMissed disk folder IsNeeded old new =
    (kind : TableKind) (key : ℕ) → key < 145 → table_at old kind key ≡ None → IsSome (table_at new kind key) → IsMissedFor disk folder IsNeeded old kind key

-- answers by tables of the folder, of which none is missing at the positions that are needed
pub record AnswersBy (disk : DiskFacts) (folder : Folder) (IsNeeded : Tables → Parts → Type 0) (Answers : Tables → Type 0) : Type 0 where
  pub tables : Tables
  pub opened : AreOf disk folder tables
  pub settled : AreSettled folder tables IsNeeded
  pub answers : Answers tables

-- a needed position is refused
pub record IsRefusedFor (disk : DiskFacts) (folder : Folder) (IsNeeded : Tables → Parts → Type 0) (refusal : FileRefusal) : Type 0 where
  pub position : Parts
  pub tables : Tables
  pub opened : AreOf disk folder tables
  pub needed : IsNeededFrom disk folder tables IsNeeded position
  pub refused : IsRefusedAt disk folder position refusal
