-- What judges the plies of a game (this project's own).
use Rattle.std.specs.Prelude.{◌≡◌, ◌++◌, ℕ, List, [], ◌∷◌, Option, Some, Result}
use Rattle.std.specs.declared.alloc.AllocError.{AllocError}
use Rattle.board_core.specs.declared.parts.Parts.{Parts}
use Rattle.board_core.specs.declared.moves.Move.{Move as Moves}
use Rattle.board_core.specs.ComputedMoves.{position_after}
use Rattle.judge_core.specs.Answers.{ListsMovesForVerdict}
use Rattle.judge_core.specs.Games.{Rules}
use Rattle.judge_core.specs.MoreTables.{HasAll}
use Rattle.judge_core.specs.Standings.{IsAt, Reached}
use Rattle.judge_core.specs.Tables.{Tables}
use Rattle.table_folder.specs.Reads.{refusal_of}
use Rattle.table_folder.specs.declared.fault.FileRefusal.{FileRefusal}
use Rattle.timeline.specs.Events.{Event}
use Rattle.timeline.specs.Outsides.{AddsSome, Outside}

-- what is known of a judge: the tables that are open; by which tables a game may be judged, which are these or have more; where games
-- stand by the open ones, whatever more come; what is read so that some open tables become others, as a position asks for them, and
-- which file is refused on the way, or that memory is; at which positions a verdict takes memory; and which file is refused where a
-- position needs it
pub record JudgeFacts : Type 1 where
  pub opened : Tables
  pub is_by : Tables → Type 0
  pub stands : Parts → List Moves → Reached → Type 0
  pub reads : Tables → Parts → Tables → Result (Option FileRefusal) AllocError → List Event → Type 0
  pub takes_memory : Parts → Type 0
  pub refuses : Parts → FileRefusal → Type 0

-- by a set of tables that stays; nothing is read
abbrev pub by_set : Tables → JudgeFacts
by_set tables = record {
  opened = tables;
  is_by = λ t. t ≡ tables;
  stands = λ start moves s. (delay : ℕ) → IsAt (record { start = start; tables = tables; delay = delay }) moves s;
  reads = λ old p new refused events. (new ≡ old) × (events ≡ []);
  takes_memory = ListsMovesForVerdict tables;
  refuses = λ p refusal. ⊥;
}

-- a judge later, which has kept its tables: whatever holds of it then held before, and what held before of tables that have those holds
-- then
pub record IsLater (was now : JudgeFacts) : Type 0 where
  pub kept : HasAll was.opened now.opened
  pub is_by : (tables : Tables) → now.is_by tables → was.is_by tables
  pub back : (tables : Tables) → was.is_by tables → HasAll now.opened tables → now.is_by tables
  pub reads : (old new : Tables) (p : Parts) (refused : Result (Option FileRefusal) AllocError) (events : List Event) → now.reads old p new refused events → was.reads old p new refused events
  pub takes_memory : (p : Parts) → now.takes_memory p → was.takes_memory p
  pub refuses : (p : Parts) (refusal : FileRefusal) → now.refuses p refusal → was.refuses p refusal

-- a game stands so after these moves, by what is open, and by whatever more is
pub record StandsBy (now : JudgeFacts) (start : Parts) (moves : List Moves) (s : Reached) : Type 0 where
  pub there : now.is_by now.opened
  pub stands : now.stands start moves s
  pub at : (rules : Rules) → rules.start ≡ start → now.is_by rules.tables → IsAt rules moves s

-- a game that stood so stands so after one legal move more, which leads to this position
abbrev pub JudgesOn : JudgeFacts → JudgeFacts → Reached → Parts → Reached → Type 0
JudgesOn was now s q t =
    (start : Parts) (moves : List Moves) (m : Moves) → was.stands start moves s → position_after s.position m ≡ Some q → StandsBy now start (moves ++ m ∷ []) t

-- from one moment to another nothing happened but that a judge read what a position asks for, and this came of it
abbrev pub ReadsAt : {T P F K S L A : Type 0} → Outside T P F K S L → JudgeFacts → JudgeFacts → Parts → T → T → Result (Result A FileRefusal) AllocError → Type 0
ReadsAt o was now p t t' result = AddsSome o t t' (was.reads was.opened p now.opened (refusal_of result))
