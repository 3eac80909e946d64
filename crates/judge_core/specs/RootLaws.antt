-- Laws of root moves. Functions of src/laws.rt carry these.
use Rattle.std.specs.Prelude.{◌≡◌, ◌≤◌, ◌+◌, ◌≤ℤ◌, ℕ, zero, suc, ℤ, pos, negsuc, IsTrue, IsFalse, true, false, List, ◌∷◌, fold, filter_map, Option, Some, None, Result, Ok, Err, if◌then◌else◌}
use Rattle.std.specs.List.{Contains}
use Rattle.board_core.specs.declared.parts.Parts.{Parts}
use Rattle.board_core.specs.Position.{IsPosition}
use Rattle.table_file.specs.declared.outcome.Outcome.{Outcome}
use Rattle.judge_core.specs.declared.root_move.RootMove.{RootMove}
use Rattle.judge_core.specs.declared.distance.Distance.TheVariants.{Win as WonIn}
use Rattle.judge_core.specs.declared.fault.ValueFault.{ValueFault}
use Rattle.judge_core.specs.declared.wdl.Wdl.{Wdl}
use Rattle.judge_core.specs.declared.wdl.Wdl.TheVariants.{Win}
use Rattle.judge_core.specs.Values.{points}
use Rattle.judge_core.specs.Tables.{Tables, AreFiled}
use Rattle.judge_core.specs.Probing.{wdl_of}
use Rattle.judge_core.specs.Distances.{is_won, lesser, dtz_of}
use Rattle.judge_core.specs.FiveRules.{IsLeftToMoves}
use Rattle.judge_core.specs.Ruling.{is_out_of_scope}
use Rattle.judge_core.specs.Root.{IsRoot, captures, is_checkmate, root_moves, zeroes_clock}

-- The first move has a value wherever some move has one, and no move has a better one.
abbrev pub FirstMoveIsBest : Type 0
FirstMoveIsBest =
    (tables : Tables) (p : Parts) (first : RootMove) (rest : List RootMove) (m : RootMove) (v : Wdl)
    → IsRoot tables p (first ∷ rest) → Contains (root_moves tables p) m → m.wdl ≡ Ok v
    → (u : Wdl) × (first.wdl ≡ Ok u) × (points v ≤ points u)

-- the move wins, and within the rule of fifty moves as a verdict counts it: a stored distance may be one ply too small
pub record IsWithinRule (p : Parts) (m : RootMove) : Type 0 where
  pub won : m.wdl ≡ Ok Win
  pub distance : ℕ
  pub is : m.dtz ≡ Ok (pos distance)
  pub soon : p.halfmove + distance ≤ 99

-- Where some move wins within the rule of fifty moves, the first move wins, and its distance is no greater number.
abbrev pub FirstMoveWinsWithinRule : Type 0
FirstMoveWinsWithinRule =
    (tables : Tables) (p : Parts) (first : RootMove) (rest : List RootMove) (m : RootMove)
    → IsRoot tables p (first ∷ rest) → Contains (root_moves tables p) m → (within : IsWithinRule p m)
    → (distance : ℤ) × (first.wdl ≡ Ok Win) × (first.dtz ≡ Ok distance) × (distance ≤ℤ pos within.distance)

-- the best value of some moves: one of them has it, and none has a better one
pub record IsBestValue (moves : List RootMove) (v : Wdl) : Type 0 where
  pub best : RootMove
  pub there : Contains moves best
  pub reached : best.wdl ≡ Ok v
  pub most : (m : RootMove) (u : Wdl) → Contains moves m → m.wdl ≡ Ok u → points u ≤ points v

-- The tables agree with one another at the position: its value is the best one of its moves.
pub record AreConsistent (tables : Tables) (p : Parts) : Type 0 where
  pub value : Wdl
  pub is : wdl_of tables p ≡ Ok value
  pub best : IsBestValue (root_moves tables p) value

-- Where the tables agree, the first move keeps the position's value, and so a win.
abbrev pub FirstMoveKeepsTheValue : Type 0
FirstMoveKeepsTheValue =
    (tables : Tables) (p : Parts) (first : RootMove) (rest : List RootMove)
    → IsRoot tables p (first ∷ rest) → AreConsistent tables p → first.wdl ≡ wdl_of tables p

-- No capture but a mate is worth more than the position, whatever the bytes of the tables are. (A mate wins without a table.)
abbrev pub NoCaptureIsBetter : Type 0
NoCaptureIsBetter =
    (tables : Tables) (p : Parts) (m : RootMove) (u v : Wdl) → IsPosition p → Contains (root_moves tables p) m
    → captures m.effect ≡ true → is_checkmate m.state ≡ false → m.wdl ≡ Ok u → wdl_of tables p ≡ Ok v → points u ≤ points v

-- the plies in which a move wins
abbrev pub plies_won : Result ℤ ValueFault → Option ℕ
plies_won (Ok (pos zero)) = None
plies_won (Ok (pos (suc n))) = Some (suc n)
plies_won (Ok (negsuc n)) = None
plies_won (Err fault) = None

-- the plies in which a move wins that neither takes a man nor moves a pawn
abbrev pub quiet_win : RootMove → Option ℕ
quiet_win m = if zeroes_clock m.effect then None else plies_won m.dtz

-- A win whose distance comes from the moves, since no capture or pawn move has its value and the table of distances stores
-- the other side alone, is as far as the nearest win by a move that neither takes a man nor moves a pawn.
abbrev pub NearestWinIsTheDistance : Type 0
NearestWinIsTheDistance =
    (tables : Tables) (p : Parts) (outcome : Outcome) (key n : ℕ) → AreFiled tables → IsPosition p → IsFalse (is_out_of_scope p)
    → IsLeftToMoves tables p outcome key → IsTrue (is_won outcome) → dtz_of tables p ≡ Ok (WonIn n)
    → fold lesser None (filter_map quiet_win (root_moves tables p)) ≡ Some n
