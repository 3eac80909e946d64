use Rattle.std.proofs.Common.{◌≡◌, ◌++◌, replicate}
use Rattle.table_file.proofs.forging.blocks.padded.Given as goal

abbrev pub invariant-loop : goal.invariant-loop
invariant-loop l = l.lengths.items ≡ l.fn.lengths.items ++ replicate l.counter 65535
