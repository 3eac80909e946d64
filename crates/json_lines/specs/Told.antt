-- What is told of a position and of its legal moves (this project's own).
use Rattle.std.specs.Prelude.{◌≡◌, ◌⊎◌, ◌&&◌, ℕ, negsuc, Bool, true, false, List, [], ◌∷◌, Some, Ok, map}
use Rattle.std.specs.List.{list_all}
use Rattle.board_core.specs.declared.parts.Parts.{Parts}
use Rattle.board_core.specs.Position.{IsPosition}
use Rattle.board_core.specs.declared.moves.Move.{Move}
use Rattle.board_core.specs.ComputedMoves.{legal_moves, position_after}
use Rattle.fen_text.specs.declared.fault.FenFault.{FenFault}
use Rattle.fen_text.specs.Fen.{SpellsPosition, IsFirstFenFault}
use Rattle.judge_core.specs.declared.probe_result.ProbeResult.{ProbeResult}
use Rattle.judge_core.specs.declared.root_move.RootMove.{RootMove}
use Rattle.judge_core.specs.ProbeResult.{has_both}
use Rattle.judge_core.specs.Root.{effect_of, is_checkmate, state_of}
use Rattle.judge_core.specs.Ruling.{is_out_of_scope, ruling}
use Rattle.judge_core.specs.Tables.{Tables}
use Rattle.judge_core.specs.Ask.{IsAnswered, IsRanked, MayLack}
use Rattle.judge_core.specs.declared.ask.Ask.{Ask}
use Rattle.san_text.specs.Written.{san_of}
use Rattle.json_lines.specs.declared.told.JsonLine.{JsonLine}
use Rattle.json_lines.specs.declared.told.JsonLine.TheVariants as line
use Rattle.json_lines.specs.declared.told.MoveTold.{MoveTold}
use Rattle.json_lines.specs.declared.told.PositionTold.{PositionTold}

-- both probes of the position, and the verdict on it
pub record IsPositionTold (ask : Ask) (tables : Tables) (p : Parts) (t : PositionTold) : Type 0 where
  pub position : t.position ≡ p
  pub probed : IsAnswered ask tables p t.columns.probed
  pub verdict : t.columns.verdict ≡ ruling tables p

-- the move of a root move
abbrev pub played_in : RootMove → Move
played_in root = root.played

-- the legal moves by value; where the position is out of scope, in the order of moves
abbrev pub AreOrdered : Ask → Tables → Parts → List Move → Type 0
AreOrdered ask tables p moves =
    ((is_out_of_scope p ≡ true) × (moves ≡ legal_moves p))
    ⊎ ((is_out_of_scope p ≡ false) × ((roots : List RootMove) × IsRanked ask tables p roots × (moves ≡ map played_in roots)))

-- a side that is mated has lost, and needs no table
abbrev pub mated : ProbeResult
mated = record { wdl = Ok (negsuc 1); dtz = Ok (negsuc 0) }

-- what both probes tell of the position after a move; a mated side has lost without a table
abbrev pub IsProbedAfter : Ask → Tables → Bool → Parts → ProbeResult → Type 0
IsProbedAfter ask tables true q probed = probed ≡ mated
IsProbedAfter ask tables false q probed = IsAnswered ask tables q probed

-- a legal move, and what is told of the position after it
pub record IsMoveTold (ask : Ask) (tables : Tables) (p : Parts) (m : Move) (t : MoveTold) : Type 0 where
  pub played : t.played ≡ m
  pub effect : t.effect ≡ effect_of p m
  pub after : position_after p m ≡ Some t.after
  pub state : t.state ≡ state_of t.after
  pub probed : IsProbedAfter ask tables (is_checkmate t.state) t.after t.probed
  pub san : t.san.bytes ≡ san_of p m

abbrev pub AreMovesTold : Ask → Tables → Parts → List Move → List MoveTold → Type 0
AreMovesTold ask tables p [] [] = Unit {0}
AreMovesTold ask tables p [] (t ∷ ts) = ⊥
AreMovesTold ask tables p (m ∷ ms) [] = ⊥
AreMovesTold ask tables p (m ∷ ms) (t ∷ ts) = IsMoveTold ask tables p m t × AreMovesTold ask tables p ms ts

-- all legal moves in their order
pub record IsRootTold (ask : Ask) (tables : Tables) (p : Parts) (ts : List MoveTold) : Type 0 where
  pub moves : List Move
  pub ordered : AreOrdered ask tables p moves
  pub told : AreMovesTold ask tables p moves ts

-- the line of a position, with its moves or without
abbrev pub IsLineOf : Ask → Bool → Tables → Parts → JsonLine → Type 0
IsLineOf ask with_moves tables p (line.Fault fault) = ⊥
IsLineOf ask with_moves tables p (line.Refused words) = ⊥
IsLineOf ask false tables p (line.Position t) = IsPositionTold ask tables p t
IsLineOf ask true tables p (line.Position t) = ⊥
IsLineOf ask false tables p (line.Root t moves) = ⊥
IsLineOf ask true tables p (line.Root t moves) = IsPositionTold ask tables p t × IsRootTold ask tables p moves.items

-- where memory may be refused for the line of a position: for its moves, and without them only where its values list moves
abbrev pub MayLackLine : Ask → Bool → Tables → Parts → Type 0
MayLackLine ask with_moves tables p = with_moves ≡ false → MayLack ask tables p

-- the line of the position that a text spells, or that of the text's fault
pub data IsLineFor (text : List ℕ) (IsLine : Parts → JsonLine → Type 0) (l : JsonLine) : Type 0 where
  ForPosition : (p : Parts) → SpellsPosition text p → IsPosition p → IsLine p l → IsLineFor text IsLine l
  ForNone : (fault : FenFault) → IsFirstFenFault text fault → l ≡ line.Fault fault → IsLineFor text IsLine l

-- all that is told of is there
abbrev pub is_done : JsonLine → Bool
is_done (line.Fault fault) = false
is_done (line.Refused words) = false
is_done (line.Position t) = has_both t.columns.probed
is_done (line.Root t moves) = has_both t.columns.probed && list_all (λ m. has_both m.probed) moves.items

-- the text spells a position
abbrev pub IsText : List ℕ → Type 0
IsText text = (p : Parts) × SpellsPosition text p × IsPosition p

-- this holds of the position that the text spells
abbrev pub OfText : List ℕ → (Parts → Type 0) → Type 0
OfText text holds = (p : Parts) → IsPosition p → SpellsPosition text p → holds p
