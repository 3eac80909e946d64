use Rattle.std.proofs.Common.{◌≡◌, ◌≤◌, take}
use Rattle.table_file.specs.Inside.Writing.{sum_of}
use Rattle.table_file.proofs.forging.blocks.count_of.Given as goal

abbrev pub invariant-loop-symbol : goal.invariant-loop-symbol
invariant-loop-symbol l = record {
  is : l.count ≡ sum_of l.counts (take l.symbol-index l.block);
  few : l.count ≤ 65536;
}
