use Rattle.std.proofs.Common.{◌≡◌, ◌+◌, ◌*◌, ◌/◌, ◌≤◌}
use Rattle.table_file.specs.Inside.Writing.{IsBlockReached}
use Rattle.table_file.specs.PlannedFile.{entries_bytes}
use Rattle.table_file.proofs.forging.blocks.entries_of.Given as goal

abbrev pub invariant-loop-k : goal.invariant-loop-k
invariant-loop-k l = record {
  entries : l.entries.items ≡ entries_bytes l.lengths l.span l.k;
  reached : IsBlockReached l.lengths l.place.block l.place.before;
  before : l.place.before ≤ l.k * l.span + l.span / 2;
}
