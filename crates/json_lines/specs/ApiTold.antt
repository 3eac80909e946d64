-- What is told of a position for the tablebase API: what tables tell of it and of its legal moves, and which distances are precise.
use Rattle.std.specs.Prelude.{◌≡◌, ℕ, ℤ, zero, suc, pos, Bool, true, false, ◌||◌, List, [], ◌∷◌, Option, Some, None, Result, Ok, Err, map, if◌then◌else◌, int_lt}
use Rattle.std.specs.List.{All}
use Rattle.board_core.specs.declared.parts.Parts.{Parts}
use Rattle.board_core.specs.declared.piece.Side.{Side}
use Rattle.board_core.specs.declared.moves.Move.{Move}
use Rattle.board_core.specs.Position.{IsPosition}
use Rattle.board_core.specs.Side.{other}
use Rattle.fen_text.specs.declared.fault.FenFault.{FenFault}
use Rattle.fen_text.specs.Fen.{SpellsPosition, IsFirstFenFault}
use Rattle.judge_core.specs.declared.ask.Ask.TheVariants.{Strict}
use Rattle.judge_core.specs.declared.fault.ProbeFault.{ProbeFault}
use Rattle.judge_core.specs.Precision.{is_precise}
use Rattle.judge_core.specs.Root.{is_checkmate, zeroes_clock}
use Rattle.judge_core.specs.Tables.{Tables}
use Rattle.json_lines.specs.declared.api_told.ApiLine.{ApiLine}
use Rattle.json_lines.specs.declared.api_told.ApiLine.TheVariants as line
use Rattle.json_lines.specs.declared.api_told.ApiMove.{ApiMove}
use Rattle.json_lines.specs.declared.api_told.ApiPosition.{ApiPosition}
use Rattle.json_lines.specs.declared.told.MoveTold.{MoveTold}
use Rattle.json_lines.specs.Told.{AreOrdered, IsMoveTold, IsPositionTold, IsRootTold}

-- the position, and whether its distance is precise
pub record IsApiPosition (tables : Tables) (p : Parts) (t : ApiPosition) : Type 0 where
  pub told : IsPositionTold Strict tables p t.told
  pub precise : t.precise ≡ is_precise tables p

-- whether the distance after the move is precise
abbrev pub IsPrecisionAfter : Tables → ApiMove → Type 0
IsPrecisionAfter tables t = t.precise ≡ is_precise tables t.told.after

abbrev pub told_in : ApiMove → MoveTold
told_in t = t.told

-- all legal moves in their order
pub record IsApiRoot (tables : Tables) (p : Parts) (ts : List ApiMove) : Type 0 where
  pub told : IsRootTold Strict tables p (map told_in ts)
  pub precise : All (IsPrecisionAfter tables) ts

-- the line of a position, with its moves
abbrev pub IsApiLineOf : Tables → Parts → ApiLine → Type 0
IsApiLineOf tables p (line.Fault fault) = ⊥
IsApiLineOf tables p (line.Refused words) = ⊥
IsApiLineOf tables p (line.Values t moves) = IsApiPosition tables p t × IsApiRoot tables p moves.items
IsApiLineOf tables p (line.Mainline t plies) = ⊥

-- the line of the position that a text spells, or that of the text's fault
pub data IsApiLineFor (text : List ℕ) (IsLine : Parts → ApiLine → Type 0) (l : ApiLine) : Type 0 where
  ForPosition : (p : Parts) → SpellsPosition text p → IsPosition p → IsLine p l → IsApiLineFor text IsLine l
  ForNone : (fault : FenFault) → IsFirstFenFault text fault → l ≡ line.Fault fault → IsApiLineFor text IsLine l

-- ---- best play

-- the side that wins by this distance of a position, with this side to move
abbrev pub winner_of : Side → Result ℤ ProbeFault → Option Side
winner_of side (Ok dtz) = if int_lt (pos 0) dtz then Some side else if int_lt dtz (pos 0) then Some (other side) else None
winner_of side (Err fault) = None

-- the first root move, and what is told of the position after it
pub record IsFirstMove (tables : Tables) (p : Parts) (t : ApiMove) : Type 0 where
  pub others : List Move
  pub ordered : AreOrdered Strict tables p (t.told.played ∷ others)
  pub told : IsMoveTold Strict tables p t.told.played t.told
  pub precise : IsPrecisionAfter tables t

-- the move with which a position is played on; none where no move is legal
abbrev pub IsBestMove : Tables → Parts → Option ApiMove → Type 0
IsBestMove tables p (Some t) = IsFirstMove tables p t
IsBestMove tables p None = AreOrdered Strict tables p []

-- it takes a man, moves a pawn or mates
abbrev pub ends_line : ApiMove → Bool
ends_line t = zeroes_clock t.told.effect || is_checkmate t.told.state

abbrev pub IsEmptyOr : Bool → List ApiMove → Type 0 → Type 0
IsEmptyOr true plies otherwise = plies ≡ []
IsEmptyOr false plies otherwise = otherwise

-- A line of best play from a position, of at most so many plies, where `IsBest` says with which move a position is played on. It ends
-- with the first move that takes a man, moves a pawn or mates, or where no move is legal.
abbrev pub IsMainline : (Parts → Option ApiMove → Type 0) → ℕ → Parts → List ApiMove → Type 0
IsMainline IsBest zero p plies = plies ≡ []
IsMainline IsBest (suc n) p [] = IsBest p None
IsMainline IsBest (suc n) p (t ∷ plies) = IsBest p (Some t) × IsEmptyOr (ends_line t) plies (IsMainline IsBest n t.told.after plies)
