use Rattle.std.proofs.Common.{◌-◌, ◌≤◌, length}
use Rattle.table_file.specs.Inside.Writing.{IsBlockReached}
use Rattle.table_file.proofs.forging.blocks.block_with.Given as goal

abbrev pub invariant-loop-place : goal.invariant-loop-place
invariant-loop-place l = record {
  reached : IsBlockReached l.lengths l.place.block l.place.before;
  before : l.place.before ≤ l.index;
}

abbrev pub decreases-loop-place : goal.decreases-loop-place
decreases-loop-place l = length l.lengths - l.place.block
