-- A game that is followed ply by ply as its moves come, as events: each ply has gone out before the next move is awaited (this project's own).
use Rattle.std.specs.Prelude.{◌≡◌, ◌≤◌, ◌+◌, ◌-◌, ◌^◌, ◌++◌, ℕ, Bool, true, false, List, [], ◌∷◌, length, map, take, slice_get, Option, Some, None, Result, Ok, Err}
use Rattle.std.specs.Io.KnownBytes.{IsAtEnd}
use Rattle.std.specs.List.{flat_map}
use Rattle.std.specs.declared.alloc.AllocError.{AllocError}
use Rattle.board_core.specs.ComputedMoves.{position_after}
use Rattle.board_core.specs.declared.parts.Parts.{Parts}
use Rattle.board_core.specs.declared.moves.Move.{Move as Moves}
use Rattle.board_core.specs.declared.verdict.Verdict.{Verdict}
use Rattle.judge_core.specs.declared.game.GameOutcome.{GameOutcome}
use Rattle.judge_core.specs.declared.game.GameOutcome.TheVariants as outcome
use Rattle.judge_core.specs.Games.{IsOutcome, Rules, position_after_all, verdict_after}
use Rattle.judge_core.specs.MoreTables.{HasAll}
use Rattle.judge_core.specs.Tables.{Tables}
use Rattle.line_events.specs.LineEvents.{AreLinesOf, IsLeftOf, input_stops}
use Rattle.answer_parts.specs.Printing.{Performs, printed}
use Rattle.line_teller.specs.ToldLines.{refused_memory}
use Rattle.move_msg.specs.TextLines.{ended}
use Rattle.move_notation.specs.Notations.{AreMovesIn, Spells}
use Rattle.system_io.specs.Inputs.{InputFacts}
use Rattle.system_io.specs.LineReaders.{ReadsLine}
use Rattle.system_io.specs.declared.output.WriteFault.{WriteFault}
use Rattle.system_io.specs.declared.reading.ReadFault.{ReadFault}
use Rattle.system_io.specs.declared.reading.ReadFault.TheVariants as read
use Rattle.timeline.specs.Events.{Event, Flushed, FromInput, LineRead, LinesOpened, Wrote}
use Rattle.timeline.specs.Outsides.{AddsSome, Outside}
use Rattle.timeline.specs.declared.stream.Stream.TheVariants.{Output}
use Rattle.table_folder.specs.declared.fault.FileRefusal.{FileRefusal}
use Rattle.game_teller.specs.declared.following.FollowedGame.{FollowedGame}
use Rattle.game_teller.specs.declared.lines.Stop.{Stop}
use Rattle.game_teller.specs.declared.lines.Stop.TheVariants as stop
use Rattle.game_teller.specs.Judges.{JudgeFacts}
use Rattle.game_teller.specs.Plies.{ply_words, stop_words}

-- the rules of the game by these tables
abbrev pub rules_by : FollowedGame → Tables → Rules
rules_by game tables = record { start = game.start; tables = tables; delay = game.delay }

-- so it is by all tables by which the judge may judge that have these
abbrev pub ByAll : JudgeFacts → Tables → (Tables → Type 0) → Type 0
ByAll judge opened Is = (tables : Tables) → judge.is_by tables → HasAll opened tables → Is tables

-- ---- plies

-- the line of the ply after these moves
abbrev pub IsPlyLine : Rules → List Moves → List ℕ → Type 0
IsPlyLine rules moves words = (p : Parts) × (position_after_all rules.start moves ≡ Some p) × (words ≡ ply_words (length moves) (verdict_after rules moves) p)

-- a line for each ply, from the start to the last of these moves
pub record ArePlyLines (rules : Rules) (moves : List Moves) (lines : List (List ℕ)) : Type 0 where
  pub count : length lines ≡ length moves + 1
  pub each : (ply : ℕ) (words : List ℕ) → slice_get lines ply ≡ Some words → IsPlyLine rules (take ply moves) words

-- a ply that is printed: what is read for its verdict, and its line
pub record Ply : Type 0 where
  pub reading : List Event
  pub words : List ℕ

-- a line is written, and goes out
abbrev pub goes_out : List ℕ → List Event
goes_out words = Wrote Output (ended words) ∷ Flushed Output ∷ []

abbrev pub ply_events : Ply → List Event
ply_events ply = ply.reading ++ goes_out ply.words

-- a move that came, by its line, and whether all of that had come before it was awaited; and then the ply after it
pub record Turn : Type 0 where
  pub line : List ℕ
  pub had_come : Bool
  pub ply : Ply

abbrev pub turn_events : Turn → List Event
turn_events t = LineRead (Ok (Some t.line)) t.had_come ∷ ply_events t.ply

abbrev pub moves_read : List Turn → List (List ℕ)
moves_read turns = map (λ t. t.line) turns

-- the lines of the first ply and of those after the moves
abbrev pub lines_printed : Ply → List Turn → List (List ℕ)
lines_printed first turns = first.words ∷ map (λ t. t.ply.words) turns

-- tables are opened that a position asks for, and then those that the position after each of these moves asks for, up to the last ones
abbrev pub OpensInTurn : JudgeFacts → Tables → Parts → Ply → List Moves → List Turn → Tables → Type 0
OpensInTurn judge old p ply [] [] last = judge.reads old p last (Ok None) ply.reading
OpensInTurn judge old p ply [] (t ∷ turns) last = ⊥
OpensInTurn judge old p ply (m ∷ moves) [] last = ⊥
OpensInTurn judge old p ply (m ∷ moves) (t ∷ turns) last =
    (mid : Tables) × (q : Parts) × judge.reads old p mid (Ok None) ply.reading × (position_after p m ≡ Some q) × OpensInTurn judge mid q t.ply moves turns last

-- The plies to the last of these moves were printed: the start was judged, and its line went out; then, move by move, a line was read that
-- names it, the tables were opened that its ply asks for, and the line of that went out. By the tables that are open then, and by all that
-- have more, each line is that of its ply.
pub record HasFollowed (game : FollowedGame) (judge : JudgeFacts) (left now : Option (List ℕ)) (moves : List Moves) (opened : Tables) (events : List Event) : Type 0 where
  pub first : Ply
  pub turns : List Turn
  pub read : AreLinesOf left (moves_read turns) now
  pub spelled : AreMovesIn game.notation game.start (moves_read turns) moves
  pub opens : OpensInTurn judge judge.opened game.start first moves turns opened
  pub there : judge.is_by opened
  pub plies : ByAll judge opened (λ tables. ArePlyLines (rules_by game tables) moves (lines_printed first turns))
  pub made : events ≡ ply_events first ++ flat_map turn_events turns

-- by these tables, and by all that have more, the moves come to this outcome
abbrev pub ComesTo : FollowedGame → JudgeFacts → List Moves → Tables → GameOutcome → Type 0
ComesTo game judge moves opened outcome = ByAll judge opened (λ tables. IsOutcome (rules_by game tables) moves outcome)

-- ---- the end

-- what an input says of why no line is read
abbrev pub stop_by : ReadFault → Stop
stop_by read.Unreadable = stop.Unread
stop_by read.OutOfMemory = stop.OutOfMemory

-- a line is read next, in this position after the moves
pub record ReadsNext (game : FollowedGame) (now : Option (List ℕ)) (moves : List Moves) (line : List ℕ) (p : Parts) : Type 0 where
  pub after : Option (List ℕ)
  pub read : ReadsLine now after line
  pub at : position_after_all game.start moves ≡ Some p

-- it names a legal move there, which leads to this position
abbrev pub LeadsTo : FollowedGame → Option (List ℕ) → List Moves → List ℕ → Parts → Type 0
LeadsTo game now moves line q = (p : Parts) × (m : Moves) × ReadsNext game now moves line p × Spells game.notation p line m × (position_after p m ≡ Some q)

-- Why no more is printed after these moves, by what is read: the next line names no move there; or its move isn't legal; or the position
-- after it needs a table whose file is refused, or memory is refused for its verdict; or the input fails; or 2^64 - 1 moves were read.
pub data StopsAfter (game : FollowedGame) (judge : JudgeFacts) (Stops : ReadFault → Type 0) (now : Option (List ℕ)) (moves : List Moves) (opened : Tables) (why : Stop) (events : List Event) : Type 0 where
  NamesNoMove : (line : List ℕ) (p : Parts) (had_come : Bool) → ReadsNext game now moves line p → ((m : Moves) → Spells game.notation p line m → ⊥) → why ≡ stop.NotAMove (length moves) → events ≡ LineRead (Ok (Some line)) had_come ∷ [] → StopsAfter game judge Stops now moves opened why events
  NamesIllegal : (line : List ℕ) (p : Parts) (m : Moves) (had_come : Bool) → ReadsNext game now moves line p → Spells game.notation p line m → position_after p m ≡ None → why ≡ stop.Illegal (length moves) → events ≡ LineRead (Ok (Some line)) had_come ∷ [] → StopsAfter game judge Stops now moves opened why events
  NeedsBadFile : (line : List ℕ) (q : Parts) (had_come : Bool) (reading : List Event) (last : Tables) (refusal : FileRefusal) → LeadsTo game now moves line q → judge.reads opened q last (Ok (Some refusal)) reading → judge.refuses q refusal → why ≡ stop.BadFile refusal → events ≡ LineRead (Ok (Some line)) had_come ∷ reading → StopsAfter game judge Stops now moves opened why events
  NeedsMemory : (line : List ℕ) (q : Parts) (had_come : Bool) (reading : List Event) (last : Tables) (refused : AllocError) → LeadsTo game now moves line q → judge.reads opened q last (Err refused) reading → judge.takes_memory q → why ≡ stop.OutOfMemory → events ≡ LineRead (Ok (Some line)) had_come ∷ reading → StopsAfter game judge Stops now moves opened why events
  ReadsNone : (fault : ReadFault) (had_come : Bool) → Stops fault → why ≡ stop_by fault → events ≡ LineRead (Err fault) had_come ∷ [] → StopsAfter game judge Stops now moves opened why events
  CountsNone : 2 ^ 64 - 1 ≤ length moves → why ≡ stop.Unread → events ≡ [] → StopsAfter game judge Stops now moves opened why events

-- why a game isn't begun, by what is read: the start needs a table whose file is refused; or memory is refused for its verdict
pub data IsNotBegun (game : FollowedGame) (judge : JudgeFacts) (why : Stop) (events : List Event) : Type 0 where
  StartNeedsBadFile : (last : Tables) (refusal : FileRefusal) → judge.reads judge.opened game.start last (Ok (Some refusal)) events → judge.refuses game.start refusal → why ≡ stop.BadFile refusal → IsNotBegun game judge why events
  StartNeedsMemory : (last : Tables) (refused : AllocError) → judge.reads judge.opened game.start last (Err refused) events → judge.takes_memory game.start → why ≡ stop.OutOfMemory → IsNotBegun game judge why events

-- Plies were printed up to the first verdict, and no more is read; or the input has ended, and there is none; or there is none, and why no
-- more is printed follows; or the game isn't begun, and why follows. Or so far there is none, and it goes on.
pub data Follows (game : FollowedGame) (judge : JudgeFacts) (Stops : ReadFault → Type 0) (left : Option (List ℕ)) (events : List Event) (status : Option ℕ) : Type 0 where
  Ruled : (now : Option (List ℕ)) (moves : List Moves) (opened : Tables) → HasFollowed game judge left now moves opened events → (verdict : Verdict) → ComesTo game judge moves opened (outcome.Ruled (length moves) verdict) → status ≡ Some 0 → Follows game judge Stops left events status
  Open : (now : Option (List ℕ)) (moves : List Moves) (opened : Tables) (before : List Event) → HasFollowed game judge left now moves opened before → ComesTo game judge moves opened outcome.Going → IsAtEnd now → (had_come : Bool) → events ≡ before ++ LineRead (Ok None) had_come ∷ [] → status ≡ Some 0 → Follows game judge Stops left events status
  Stopped : (now : Option (List ℕ)) (moves : List Moves) (opened : Tables) (before asking : List Event) → HasFollowed game judge left now moves opened before → ComesTo game judge moves opened outcome.Going → (why : Stop) → StopsAfter game judge Stops now moves opened why asking → events ≡ before ++ (asking ++ printed (stop_words why ∷ [])) → status ≡ Some 1 → Follows game judge Stops left events status
  NotBegun : (why : Stop) (reading : List Event) → IsNotBegun game judge why reading → events ≡ reading ++ printed (stop_words why ∷ []) → status ≡ Some 1 → Follows game judge Stops left events status
  GoesOn : (now : Option (List ℕ)) (moves : List Moves) (opened : Tables) → HasFollowed game judge left now moves opened events → ComesTo game judge moves opened outcome.Going → status ≡ None → Follows game judge Stops left events status

-- ---- the input

-- its lines are opened, and then the game of these is followed; or memory was refused for that, which is printed
pub data FollowsInput (game : FollowedGame) (judge : JudgeFacts) (input : InputFacts) (events : List Event) (status : Option ℕ) : Type 0 where
  LinesFollowed : (left : Option (List ℕ)) (then : List Event) → IsLeftOf input left → Follows game judge (input_stops input) left then status → events ≡ LinesOpened FromInput true ∷ then → FollowsInput game judge input events status
  NoLines : input.takes_memory → events ≡ LinesOpened FromInput false ∷ printed (refused_memory ∷ []) → status ≡ Some 1 → FollowsInput game judge input events status

-- from one moment to another a game is followed whose moves come on the input, and nothing else happens; where the output failed, a front of that
-- does
abbrev pub FollowsInputMoves : {T P F K S L : Type 0} → Outside T P F K S L → JudgeFacts → FollowedGame → T → T → Result ℕ WriteFault → Type 0
FollowsInputMoves o judge game t t' result = AddsSome o t t' (Performs (FollowsInput game judge o.input) result)
