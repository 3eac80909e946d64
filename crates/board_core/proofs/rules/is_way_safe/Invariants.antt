use Rattle.std.proofs.Common.{ℕ, ◌≤◌, ◌<◌}
use Rattle.board_core.specs.Attack.{IsAttacked}
use Rattle.board_core.proofs.rules.is_way_safe.Given as goal

abbrev pub invariant-loop-s : goal.invariant-loop-s
invariant-loop-s l = (k : ℕ) → l.low ≤ k → k < l.s → IsAttacked l.men l.by k → ⊥
