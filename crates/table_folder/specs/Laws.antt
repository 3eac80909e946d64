-- Laws of folders: what is answered by tables that are opened as positions ask for them is answered by the whole folder. Functions of
-- src/laws.rt carry these laws, each over any disk.
use Rattle.std.specs.Prelude.{◌≡◌, ◌<◌, ℕ, IsFalse, List, take, Some}
use Rattle.board_core.specs.declared.moves.Move.{Move}
use Rattle.board_core.specs.declared.parts.Parts.{Parts}
use Rattle.board_core.specs.Position.{IsPosition}
use Rattle.system_io.specs.Disks.{DiskFacts, HoldsOne}
use Rattle.table_file.specs.declared.kind.TableKind.{TableKind}
use Rattle.table_file.specs.Names.{file_name}
use Rattle.table_file.specs.Tables.{Contents}
use Rattle.judge_core.specs.declared.game.GameOutcome.{GameOutcome}
use Rattle.judge_core.specs.declared.probe_result.ProbeResult.{ProbeResult}
use Rattle.judge_core.specs.declared.root_move.RootMove.{RootMove}
use Rattle.judge_core.specs.Distances.{dtz_of}
use Rattle.judge_core.specs.Games.{IsOutcome, Rules, plies_to}
use Rattle.judge_core.specs.MoreTables.{HasAll}
use Rattle.judge_core.specs.ProbeResult.{IsProbed}
use Rattle.judge_core.specs.Probing.{wdl_of}
use Rattle.judge_core.specs.Root.{IsRoot}
use Rattle.judge_core.specs.Ruling.{is_out_of_scope, ruling}
use Rattle.judge_core.specs.Standings.{IsAt, Reached}
use Rattle.judge_core.specs.Tables.{Tables, table_at}
use Rattle.table_folder.specs.declared.fault.FileRefusal.{FileRefusal}
use Rattle.table_folder.specs.Folders.{AreOf, Folder, Found, HasTable, IsTableOf, Says}
use Rattle.table_folder.specs.Settled.{AreSettled, IsInPlay, IsInPlayBy, IsPly, IsRefusedAt, IsSettled, IsWithMoves, Misses}

-- the set of the whole folder: each table of the folder, as its file says it, and no other
pub record IsWhole (disk : DiskFacts) (folder : Folder) (whole : Tables) : Type 0 where
  pub opened : AreOf disk folder whole
  pub all : (kind : TableKind) (key : ℕ) (t : Contents) → key < 145 → IsTableOf disk folder kind key t → table_at whole kind key ≡ Some t

-- a folder has such a set on a disk that holds one thing at each path, where each file of a table says something, be it why it is none
abbrev pub WholeIsThere : DiskFacts → Type 0
WholeIsThere disk =
    HoldsOne disk → (folder : Folder) → ((kind : TableKind) (key : ℕ) → key < 145 → (found : Found) × Says disk folder (file_name kind key) found)
    → (whole : Tables) × IsWhole disk folder whole

-- a folder has one such set at most
abbrev pub WholeIsOne : DiskFacts → Type 0
WholeIsOne disk = (folder : Folder) (a b : Tables) → IsWhole disk folder a → IsWhole disk folder b → a ≡ b

-- ---- one position

-- both sets answer the same on a position
pub record AnswersAlike (tables whole : Tables) (p : Parts) : Type 0 where
  pub value : IsFalse (is_out_of_scope p) → wdl_of whole p ≡ wdl_of tables p
  pub distance : IsFalse (is_out_of_scope p) → dtz_of whole p ≡ dtz_of tables p
  pub verdict : ruling whole p ≡ ruling tables p
  pub probed : (probed : ProbeResult) → IsProbed tables p probed → IsProbed whole p probed

-- where no table of the folder is missing, the answers are those of the whole folder
abbrev pub SettledIsAsWhole : DiskFacts → Type 0
SettledIsAsWhole disk =
    (folder : Folder) (tables whole : Tables) (p : Parts) → AreOf disk folder tables → IsWhole disk folder whole → IsSettled folder tables p
    → AnswersAlike tables whole p

-- ---- root moves, and games

-- the root moves of a position in scope
abbrev pub SettledMovesAreAsWhole : DiskFacts → Type 0
SettledMovesAreAsWhole disk =
    (folder : Folder) (tables whole : Tables) (p : Parts) (moves : List RootMove) → AreOf disk folder tables → IsWhole disk folder whole
    → IsPosition p → IsFalse (is_out_of_scope p) → AreSettled folder tables (IsWithMoves p) → IsRoot tables p moves → IsRoot whole p moves

-- Where no table of the folder is missing at the positions in play, the game comes to the same by the whole folder.
abbrev pub SettledGamesAreAsWhole : DiskFacts → Type 0
SettledGamesAreAsWhole disk =
    (folder : Folder) (tables whole : Tables) (start : Parts) (moves : List Move) (delay : ℕ) (outcome : GameOutcome) → AreOf disk folder tables
    → IsWhole disk folder whole → AreSettled folder tables (IsInPlayBy start moves delay)
    → IsOutcome (record { start = start; tables = tables; delay = delay }) moves outcome
    → IsOutcome (record { start = start; tables = whole; delay = delay }) moves outcome

-- The positions in play are among those of the plies up to that of the outcome.
abbrev pub PositionsInPlayArePlayed : Type 0
PositionsInPlayArePlayed =
    (rules : Rules) (moves : List Move) (outcome : GameOutcome) (p : Parts) → IsOutcome rules moves outcome → IsInPlay rules moves p
    → IsPly rules.start (take (plies_to moves outcome) moves) p

-- by both sets a game comes to the same, and stands the same
pub record JudgesAlike (tables whole : Tables) (start : Parts) (moves : List Move) (delay : ℕ) : Type 0 where
  pub outcome :
      (outcome : GameOutcome) → IsOutcome (record { start = start; tables = tables; delay = delay }) moves outcome
      → IsOutcome (record { start = start; tables = whole; delay = delay }) moves outcome
  pub standing :
      (s : Reached) → IsAt (record { start = start; tables = tables; delay = delay }) moves s
      → IsAt (record { start = start; tables = whole; delay = delay }) moves s

-- A game at whose plies no table of the folder is missing comes to the same, and stands the same, when more tables of the folder are there;
-- and none is missing then.
abbrev pub SettledGamesStay : DiskFacts → Type 0
SettledGamesStay disk =
    (folder : Folder) (tables more : Tables) (start : Parts) (moves : List Move) → AreOf disk folder tables → AreOf disk folder more → HasAll tables more
    → AreSettled folder tables (λ _. IsPly start moves)
    → ((delay : ℕ) → JudgesAlike tables more start moves delay) × AreSettled folder more (λ _. IsPly start moves)

-- ---- refusals

-- a refused file is needed: it is that of a table of the folder which a position misses even by the whole folder
pub record IsNeeded (folder : Folder) (whole : Tables) (p : Parts) (refusal : FileRefusal) : Type 0 where
  pub kind : TableKind
  pub key : ℕ
  pub known : key < 145
  pub name : refusal.name.bytes ≡ file_name kind key
  pub has : HasTable folder kind key
  pub misses : Misses whole p kind key

-- a position is refused rightly, on a disk whose files hold one thing
abbrev pub RefusedIsNeeded : DiskFacts → Type 0
RefusedIsNeeded disk =
    HoldsOne disk → (folder : Folder) (whole : Tables) (p : Parts) (refusal : FileRefusal) → IsWhole disk folder whole → IsRefusedAt disk folder p refusal
    → IsNeeded folder whole p refusal
