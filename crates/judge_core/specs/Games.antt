-- The outcome of a whole game (this project's own): the verdict at the earliest ply with one, provided that all moves up to
-- it are legal. Checkmate and stalemate end a game at once; a verdict by tables must hold for some further plies. Positions
-- are counted in plies from the start, which is ply 0.
use Rattle.std.specs.Prelude.{◌≡◌, ℕ, zero, suc, ◌+◌, ◌-◌, ◌<◌, ◌≤◌, nat_le, Bool, true, false, cond, ◌&&◌, ◌||◌, ◌==◌, List, length, take, fold, Option, Some, None, IsSome, option_and_then}
use Rattle.board_core.specs.declared.parts.Parts.{Parts}
use Rattle.board_core.specs.declared.moves.Move.{Move}
use Rattle.board_core.specs.declared.verdict.Verdict.{Verdict}
use Rattle.board_core.specs.declared.verdict.Verdict.TheVariants.{WhiteMates, BlackMates, Stalemate, TableDraw, TableWhite, TableBlack, Stopped}
use Rattle.board_core.specs.ComputedMoves.{position_after}
use Rattle.board_core.specs.Verdicts.{verdict_code}
use Rattle.judge_core.specs.declared.game.GameOutcome.{GameOutcome}
use Rattle.judge_core.specs.declared.game.GameOutcome.TheVariants.{Ruled, Illegal, Going}
use Rattle.judge_core.specs.Tables.{Tables}
use Rattle.judge_core.specs.Ruling.{ruling}

-- the position after these moves, none where one of them isn't legal in its turn
unfoldable pub position_after_all : Parts → List Move → Option Parts
position_after_all start moves = fold (λ position m. option_and_then (λ p. position_after p m) position) (Some start) moves

-- the ruling at the last ply of these moves, whether or not an earlier ply has one
unfoldable pub judged_after : Tables → Parts → List Move → Option Verdict
judged_after tables start moves = option_and_then (ruling tables) (position_after_all start moves)

-- what a game is judged by: its start, the tables, and for how many further plies a verdict by them must hold
pub record Rules : Type 0 where
  pub start : Parts
  pub tables : Tables
  pub delay : ℕ

-- checkmate and stalemate end a game at once
abbrev pub is_end : Verdict → Bool
is_end WhiteMates = true
is_end BlackMates = true
is_end Stalemate = true
is_end TableDraw = false
is_end TableWhite = false
is_end TableBlack = false
is_end Stopped = false

abbrev pub is_judged : Option Verdict → Verdict → Bool
is_judged None v = false
is_judged (Some w) v = verdict_code w == verdict_code v

-- the n plies before the last one of these moves have this ruling too
unfoldable pub has_stood : Rules → List Move → Verdict → ℕ → Bool
has_stood rules moves v zero = true
has_stood rules moves v (suc n) =
    has_stood rules moves v n && is_judged (judged_after rules.tables rules.start (take (length moves - suc n) moves)) v

-- the verdict at a ply, by its own ruling and how long that has stood
abbrev pub verdict_by : Rules → List Move → Option Verdict → Option Verdict
verdict_by rules moves None = None
verdict_by rules moves (Some v) =
    cond (is_end v || (nat_le rules.delay (length moves) && has_stood rules moves v rules.delay)) (Some v) None

-- the verdict at the last ply of these moves, whether or not an earlier ply has one
unfoldable pub verdict_after : Rules → List Move → Option Verdict
verdict_after rules moves = verdict_by rules moves (judged_after rules.tables rules.start moves)

-- no ply before this one has a verdict
abbrev pub IsUnruled : Rules → List Move → ℕ → Type 0
IsUnruled rules moves ply = (j : ℕ) → j < ply → verdict_after rules (take j moves) ≡ None

-- the ply is the first with a verdict, which is this one, and all moves up to it are legal in turn
pub record IsFirst (rules : Rules) (moves : List Move) (ply : ℕ) (verdict : Verdict) : Type 0 where
  pub within : ply ≤ length moves
  pub legal : IsSome (position_after_all rules.start (take ply moves))
  pub ruled : verdict_after rules (take ply moves) ≡ Some verdict
  pub unruled : IsUnruled rules moves ply

-- the move at this place is the first that isn't legal in its turn, and no ply up to it has a verdict
pub record IsIllegalAt (rules : Rules) (moves : List Move) (place : ℕ) : Type 0 where
  pub within : place < length moves
  pub legal : IsSome (position_after_all rules.start (take place moves))
  pub illegal : position_after_all rules.start (take (place + 1) moves) ≡ None
  pub unruled : IsUnruled rules moves (place + 1)

-- all moves are legal in turn, and no ply has a verdict
pub record IsGoing (rules : Rules) (moves : List Move) : Type 0 where
  pub legal : IsSome (position_after_all rules.start moves)
  pub unruled : IsUnruled rules moves (length moves + 1)

-- the outcome of a game
abbrev pub IsOutcome : Rules → List Move → GameOutcome → Type 0
IsOutcome rules moves (Ruled ply verdict) = IsFirst rules moves ply verdict
IsOutcome rules moves (Illegal place) = IsIllegalAt rules moves place
IsOutcome rules moves Going = IsGoing rules moves

-- how many moves are played before it is known the outcome of a game
abbrev pub plies_to : List Move → GameOutcome → ℕ
plies_to moves (Ruled ply verdict) = ply
plies_to moves (Illegal place) = place
plies_to moves Going = length moves
