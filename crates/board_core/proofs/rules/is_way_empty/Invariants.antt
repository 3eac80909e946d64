use Rattle.std.proofs.Common.{◌≡◌, ℕ, ◌<◌, None}
use Rattle.board_core.specs.Attack.{man_at}
use Rattle.board_core.proofs.rules.is_way_empty.Given as goal

abbrev pub invariant-loop-s : goal.invariant-loop-s
invariant-loop-s l = (k : ℕ) → l.low < k → k < l.s → man_at l.men k ≡ None
