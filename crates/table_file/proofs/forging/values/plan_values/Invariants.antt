use Rattle.std.proofs.Common.{◌≡◌, take}
use Rattle.std.specs.List.{flat_map}
use Rattle.table_file.specs.Plan.{symbols_values, symbol_bytes}
use Rattle.table_file.proofs.forging.values.plan_values.Given as goal

abbrev pub invariant-loop-block : goal.invariant-loop-block
invariant-loop-block l = (l.symbols.items ≡ symbol_bytes l.plan) × (l.values.items ≡ flat_map (λ block. symbols_values (symbol_bytes l.plan) block.items) (take l.block-index l.plan.blocks.items))
