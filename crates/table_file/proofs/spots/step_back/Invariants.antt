use Rattle.std.proofs.Common.{◌≡◌, ◌≤◌, ◌<◌, ◌+◌, ◌-◌, ◌⊎◌, get_or}
use Rattle.table_file.specs.Sparse.{sizes_of, values_before}
use Rattle.table_file.proofs.spots.step_back.Given as goal

abbrev pub invariant-steps : goal.invariant-steps
invariant-steps g l =
    record {
      same : values_before (sizes_of l.lengths) l.block + l.offset ≡ values_before (sizes_of l.lengths) l.fn.place.block + l.fn.place.offset;
      each : l.steps + l.block ≡ l.fn.steps + l.fn.place.block;
      place : l.block ≤ l.fn.place.block;
      cost : ((l.steps ≡ l.fn.steps) × (l.offset ≡ l.fn.place.offset)) ⊎ ((l.steps + (l.back - l.offset) ≤ l.fn.steps + l.back) × (l.offset < l.back + get_or (sizes_of l.lengths) l.block 0));
    }

abbrev pub decreases-steps : goal.decreases-steps
decreases-steps g l = l.block
