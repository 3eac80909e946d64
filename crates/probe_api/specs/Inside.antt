-- What no public contract cites: boards that are looked up side by side, and men who are sought.
use Rattle.std.specs.Prelude.{◌≡◌, Bool, List, Option, Result, map, All}
use Rattle.board_core.specs.declared.parts.Parts.{Parts}
use Rattle.board_core.specs.declared.position.PositionFault.{PositionFault}
use Rattle.board_core.specs.Position.{IsPosition, IsFirstFault, is_of}
use Rattle.judge_core.specs.declared.wdl.Wdl.{Wdl}
use Rattle.judge_core.specs.declared.fault.ProbeFault.{ProbeFault}
use Rattle.judge_core.specs.Answers.{IsWdlProbe, wdl_answer}
use Rattle.judge_core.specs.Known.{IsKnownProbe, known_answer}
use Rattle.judge_core.specs.Tables.{Tables}
use Rattle.board_core.specs.declared.piece.Piece.{Piece}
use Rattle.probe_api.specs.Afters.{is_kind}
use Rattle.probe_api.specs.Boards.{shown}
use Rattle.probe_api.specs.declared.after.Sought.{Sought}
use Rattle.probe_api.specs.declared.after.Sought.TheVariants.{Side as OfSide, Kind as OfKind}
use Rattle.probe_api.specs.declared.asking.Question.{Question}
use Rattle.probe_api.specs.declared.asking.Question.TheVariants.{Wdl as AsksWdl, KnownWdl as AsksKnownWdl}
use Rattle.probe_api.specs.declared.batch.Search.{Search}
use Rattle.probe_api.specs.declared.batch.Search.TheVariants.{Whole, ToAWin}
use Rattle.probe_api.specs.declared.board.Board.{Board}

-- the board shows a position, and none of the faults
abbrev pub IsSound : Board → Type 0
IsSound b = IsPosition (shown b) × ((fault : PositionFault) → IsFirstFault (shown b) fault → ⊥)

-- each board shows a position, and these are they
pub record AreShown (boards : List Board) (positions : List Parts) : Type 0 where
  pub are : map shown boards ≡ positions
  pub sound : All IsSound boards

-- what is asked by a search, and what answers it
abbrev pub question_of : Search → Question
question_of Whole = AsksWdl
question_of ToAWin = AsksKnownWdl

abbrev pub answer_by : Search → Tables → Parts → Result Wdl ProbeFault
answer_by Whole = wdl_answer
answer_by ToAWin = known_answer

abbrev pub IsAnswerBy : Search → Tables → Parts → Result Wdl ProbeFault → Type 0
IsAnswerBy Whole = IsWdlProbe
IsAnswerBy ToAWin = IsKnownProbe

-- each board shows a position, and these are the values of all
pub record AreValues (search : Search) (tables : Tables) (boards : List Board) (values : List (Result Wdl ProbeFault)) : Type 0 where
  pub probe : (p : Parts) → IsAnswerBy search tables p (answer_by search tables p)
  pub are : values ≡ map (λ (b : Board). answer_by search tables (shown b)) boards
  pub sound : All IsSound boards

-- a man who is sought stands there
abbrev pub shows : Sought → Option Piece → Bool
shows (OfSide side) man = is_of side man
shows (OfKind sought) man = is_kind sought man
