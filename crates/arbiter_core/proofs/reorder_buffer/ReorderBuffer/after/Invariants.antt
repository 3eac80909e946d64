use Rattle.std.proofs.Common.{◌≡◌, ℕ, ◌+◌, ◌<◌, ◌≤◌, get_or, None, length}
use Rattle.arbiter_core.proofs.reorder_buffer.ReorderBuffer.after.Given as goal

abbrev pub invariant-loop-i : goal.invariant-loop-i
invariant-loop-i l = record {
  size : length l.places ≡ 31;
  read : (k : ℕ) → l.n + k < l.i → get_or l.places k None ≡ get_or l.self-inside.places (l.n + k) None;
  rest : (k : ℕ) → l.i ≤ l.n + k → get_or l.places k None ≡ None;
}
