use Rattle.std.proofs.Common.{◌≡◌, ◌*◌, length, take}
use Rattle.std.specs.List.{flat_map}
use Rattle.table_file.proofs.forging.values.symbol_bytes.Given as goal

abbrev pub invariant-loop-symbol : goal.invariant-loop-symbol
invariant-loop-symbol l = (l.bytes.items ≡ flat_map (λ s. s) (take l.symbol-index l.symbols)) × (length l.bytes.items ≡ 3 * l.symbol-index)
