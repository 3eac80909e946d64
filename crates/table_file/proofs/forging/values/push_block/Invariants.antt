use Rattle.std.proofs.Common.{◌≡◌, ◌++◌, take}
use Rattle.table_file.specs.Plan.{symbols_values}
use Rattle.table_file.proofs.forging.values.push_block.Given as goal

abbrev pub invariant-loop-symbol : goal.invariant-loop-symbol
invariant-loop-symbol l = l.values.items ≡ l.initial.values.items ++ symbols_values l.symbols (take l.symbol-index l.block)
