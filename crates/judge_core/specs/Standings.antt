-- Where a game stands after its moves, as it is carried from ply to ply.
use Rattle.std.specs.Prelude.{◌≡◌, ℕ, ◌+◌, ◌≤◌, nat_le, nat_lt, cond, ◌&&◌, ◌||◌, List, [], ◌∷◌, ◌++◌, length, take, Option, Some, None, Result, IfOk}
use Rattle.board_core.specs.declared.parts.Parts.{Parts}
use Rattle.board_core.specs.declared.moves.Move.{Move}
use Rattle.board_core.specs.declared.verdict.Verdict.{Verdict}
use Rattle.board_core.specs.ComputedMoves.{position_after}
use Rattle.judge_core.specs.Answers.{ListsMovesForVerdict}
use Rattle.judge_core.specs.Ruling.{ruling}
use Rattle.judge_core.specs.Tables.{Tables}
use Rattle.board_core.specs.Delays.{most_delay}
use Rattle.judge_core.specs.Games.{Rules, position_after_all, has_stood, is_judged, is_end}

-- the position, its ruling, and how many plies before it had the same ruling, counted up to the greatest delay
pub record Reached : Type 0 where
  pub position : Parts
  pub judged : Option Verdict
  pub plies : ℕ

-- the ruling has stood for as many plies as are counted
abbrev pub HasStood : Rules → List Move → Reached → Type 0
HasStood rules moves s =
    (v : Verdict) (n : ℕ) → s.judged ≡ Some v → n ≤ most_delay → (nat_le n (length moves) && has_stood rules moves v n) ≡ nat_le n s.plies

-- a game stands so after these moves
pub record IsAt (rules : Rules) (moves : List Move) (s : Reached) : Type 0 where
  pub position : position_after_all rules.start moves ≡ Some s.position
  pub judged : s.judged ≡ ruling rules.tables s.position
  pub stood : HasStood rules moves s

-- where a game that stands so stands one legal move later, which leads to this position
abbrev pub MovesOn : {E : Type 0} → Tables → Reached → Parts → Result Reached E → Type 0
MovesOn tables s q result =
    (rules : Rules) (moves : List Move) (m : Move) → rules.tables ≡ tables → IsAt rules moves s → position_after s.position m ≡ Some q → IfOk result (IsAt rules (moves ++ m ∷ []))

-- some ply of these moves stands at a position of which a verdict lists moves
abbrev pub ListsMovesInGame : Rules → List Move → Type 0
ListsMovesInGame rules moves = (ply : ℕ) × (p : Parts) × (position_after_all rules.start (take ply moves) ≡ Some p) × ListsMovesForVerdict rules.tables p

-- how many plies a ruling has stood, one ply later
abbrev pub plies_by : Option Verdict → Option Verdict → ℕ → ℕ
plies_by old None plies = 0
plies_by old (Some v) plies = cond (is_judged old v) (cond (nat_lt plies most_delay) (plies + 1) most_delay) 0

-- the verdict where a ruling has stood so long
abbrev pub verdict_of : Option Verdict → ℕ → ℕ → Option Verdict
verdict_of None plies delay = None
verdict_of (Some v) plies delay = cond (is_end v || nat_le delay plies) (Some v) None
