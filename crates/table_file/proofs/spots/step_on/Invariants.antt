use Rattle.std.proofs.Common.{◌≡◌, ◌≤◌, ◌<◌, ◌+◌, ◌-◌, get_or}
use Rattle.table_file.specs.Sparse.{sizes_of, values_before}
use Rattle.table_file.proofs.spots.step_on.Given as goal

abbrev pub invariant-steps : goal.invariant-steps
invariant-steps g l =
    record {
      same : values_before (sizes_of l.lengths) l.block + l.offset ≡ values_before (sizes_of l.lengths) l.fn.place.block + l.fn.place.offset;
      each : l.steps + l.fn.place.block ≡ l.fn.steps + l.block;
      most : l.fn.place.block ≤ l.real → l.block ≤ l.real;
      cost : l.steps + l.offset ≤ l.fn.steps + l.fn.place.offset;
      near : l.fn.place.offset < get_or (sizes_of l.lengths) l.fn.place.block 0 → (l.block ≡ l.fn.place.block) × (l.offset ≡ l.fn.place.offset) × (l.steps ≡ l.fn.steps);
    }

abbrev pub decreases-steps : goal.decreases-steps
decreases-steps g l = l.real - l.block
