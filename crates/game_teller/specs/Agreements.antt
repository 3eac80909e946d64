-- What is printed ply by ply and what is told of the whole game are one (this project's own).
use Rattle.std.specs.Prelude.{◌≡◌, ◌⊎◌, ◌++◌, ℕ, Bool, List, [], ◌∷◌, length, take, Some, None, Ok}
use Rattle.board_core.specs.declared.parts.Parts.{Parts}
use Rattle.board_core.specs.declared.moves.Move.{Move as Moves}
use Rattle.judge_core.specs.declared.game.GameOutcome.{GameOutcome}
use Rattle.judge_core.specs.declared.game.GameOutcome.TheVariants.{Ruled, Illegal, Going}
use Rattle.judge_core.specs.Games.{IsOutcome, Rules, position_after_all}
use Rattle.judge_core.specs.Tables.{Tables}
use Rattle.judge_core.specs.Words.{outcome_words}
use Rattle.line_events.specs.LineEvents.{input_stops}
use Rattle.move_msg.specs.TextLines.{ended, lines_in}
use Rattle.move_notation.specs.Notations.{AreMovesIn}
use Rattle.system_io.specs.Inputs.{InputFacts}
use Rattle.table_folder.specs.declared.fault.FileRefusal.{FileRefusal}
use Rattle.timeline.specs.Events.{Event, Flushed, LineRead, Wrote}
use Rattle.timeline.specs.declared.stream.Stream.TheVariants.{Output}
use Rattle.game_teller.specs.declared.following.FollowedGame.{FollowedGame}
use Rattle.game_teller.specs.declared.lines.Stop.TheVariants.{BadFile, OutOfMemory, Unread}
use Rattle.game_teller.specs.Followings.{ByAll, Follows, rules_by}
use Rattle.game_teller.specs.Judges.{JudgeFacts}
use Rattle.game_teller.specs.Plies.{ply_words, stop_words}

-- the last line of a game with this outcome that is followed ply by ply: of a verdict its ply; where a move isn't legal, the same line as
-- of the whole game; and else the last ply
abbrev pub IsLastLine : Rules → List Moves → GameOutcome → List ℕ → Type 0
IsLastLine rules moves (Ruled ply verdict) words = (p : Parts) × (position_after_all rules.start (take ply moves) ≡ Some p) × (words ≡ ply_words ply (Some verdict) p)
IsLastLine rules moves (Illegal place) words = words ≡ outcome_words (Illegal place) (length moves)
IsLastLine rules moves Going words = (p : Parts) × (position_after_all rules.start moves ≡ Some p) × (words ≡ ply_words (length moves) None p)

-- no line is written: at most what was written goes out, and then the input has ended
abbrev pub WritesNoMore : List Event → Type 0
WritesNoMore events = (events ≡ []) ⊎ (events ≡ Flushed Output ∷ []) ⊎ ((had_come : Bool) × (events ≡ Flushed Output ∷ LineRead (Ok None) had_come ∷ []))

-- the last line that was written is one of these
pub record EndsWithLine (events : List Event) (IsLine : List ℕ → Type 0) : Type 0 where
  pub before : List Event
  pub words : List ℕ
  pub after : List Event
  pub made : events ≡ before ++ Wrote Output (ended words) ∷ after
  pub last : WritesNoMore after
  pub is_line : IsLine words

-- the input couldn't be read to its end, or memory was refused, or the file of a table
abbrev pub IsCutShort : List ℕ → Type 0
IsCutShort words = (words ≡ stop_words Unread) ⊎ (words ≡ stop_words OutOfMemory) ⊎ ((refusal : FileRefusal) × (words ≡ stop_words (BadFile refusal)))

-- of an input whose lines all name moves in turn the last line is that of the outcome of all of its moves
abbrev pub EndsAsGame : FollowedGame → List ℕ → List Event → Tables → Type 0
EndsAsGame game text events tables =
    (moves : List Moves) (outcome : GameOutcome) → AreMovesIn game.notation game.start (lines_in text) moves → IsOutcome (rules_by game tables) moves outcome
    → EndsWithLine events (IsLastLine (rules_by game tables) moves outcome)

-- A game that is followed to its end ends as the whole game does, by the tables that are open at last and by all that have more, unless it
-- is cut short.
abbrev pub FollowedAsGame : JudgeFacts → InputFacts → Type 0
FollowedAsGame judge input =
    (game : FollowedGame) (text : List ℕ) (events : List Event) (status : ℕ) → Follows game judge (input_stops input) (Some text) events (Some status)
    → EndsWithLine events IsCutShort ⊎ ((opened : Tables) × judge.is_by opened × ByAll judge opened (EndsAsGame game text events))
