use Rattle.std.proofs.Common.{◌≡◌, ◌++◌, replicate}
use Rattle.table_file.proofs.forging.layout.fill_to.Given as goal

abbrev pub invariant-loop : goal.invariant-loop
invariant-loop l = l.file.items ≡ l.initial.file.items ++ replicate l.counter 0
