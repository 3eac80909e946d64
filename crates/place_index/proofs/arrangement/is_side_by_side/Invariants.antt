use Rattle.std.proofs.Common.{ℕ, ◌<◌, ◌≤◌}
use Rattle.place_index.proofs.Shapes.SideBySide.{IsFresh}
use Rattle.place_index.proofs.arrangement.is_side_by_side.Given as goal

abbrev pub invariant-loop-k : goal.invariant-loop-k
invariant-loop-k l = (k : ℕ) → 1 ≤ k → k < l.k → IsFresh l.pieces k
