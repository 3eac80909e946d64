-- What is recorded of a game: its moves as far as it goes, and the first verdict where there is one.
use Rattle.std.specs.Prelude.{ℕ, zero, suc, Bool, true, cond, ◌&&◌, nat_lt, List, ◌∷◌, ◌++◌, length, take, Option, is_some, is_none}
use Rattle.std.specs.Option.{some_prefix}
use Rattle.board_core.specs.declared.moves.Move.{Move}
use Rattle.board_core.specs.declared.verdict.Verdict.{Verdict}
use Rattle.judge_core.specs.Games.{position_after_all, Rules, verdict_after}

-- The game reaches ply k. Ply 0 is reached. The next ply is reached where there is no verdict yet and the next move is
-- there and legal.
abbrev pub reaches : Rules → List Move → ℕ → Bool
reaches rules game zero = true
reaches rules game (suc k) =
    reaches rules game k && (is_none (verdict_after rules (take k game)) && (nat_lt k (length game) && is_some (position_after_all rules.start (take (suc k) game))))

-- what is recorded of a game
pub record Recorded : Type 0 where
  pub moves : List Move
  pub verdict : Option Verdict

abbrev pub move_count : Recorded → ℕ
move_count kept = length kept.moves

-- the record of the first k moves, for a ply that the game reaches
abbrev pub record_at : Rules → List Move → ℕ → Recorded
record_at rules game k = record { moves = take k game; verdict = verdict_after rules (take k game) }

-- the greatest number up to n that passes, and 0 where none does
abbrev pub greatest_passing : (ℕ → Bool) → ℕ → ℕ
greatest_passing test zero = 0
greatest_passing test (suc n) = cond (test (suc n)) (suc n) (greatest_passing test n)

-- the last ply that the game reaches
unfoldable pub last_ply : Rules → List Move → ℕ
last_ply rules game = greatest_passing (reaches rules game) (length game)

-- Moves that came before their turn: place i has the move with number count + 1 + i, if it came.
abbrev pub ReorderBuffer : Type 0
ReorderBuffer = List (Option Move)

-- The record after a legal move and the moves that waited behind it without a gap.
abbrev pub advance : Rules → List Move → Move → ReorderBuffer → Recorded
advance rules moves m window =
    let all = moves ++ m ∷ some_prefix window in
    record_at rules all (last_ply rules all)
