use Rattle.std.proofs.Common.{◌≡◌, ◌≤◌, ◌*◌, ◌+◌, ℕ, length, get_or, vec_capacity}
use Rattle.table_file.specs.Sparse.{sizes_of, values_before}
use Rattle.table_file.proofs.sparse.sums_of.Given as goal

abbrev pub invariant-loop-i : goal.invariant-loop-i
invariant-loop-i l =
    record {
      len : length l.sums.items ≡ l.i + 1;
      room : l.blocks + 1 ≤ vec_capacity l.sums;
      total : l.sum ≡ values_before (sizes_of l.lengths) l.i;
      small : l.sum ≤ 65536 * l.i;
      each : (b : ℕ) → b ≤ l.i → (get_or l.sums.items b 0 ≡ values_before (sizes_of l.lengths) b) × (get_or l.sums.items b 0 ≤ 65536 * l.i);
    }
