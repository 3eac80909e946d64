use Rattle.std.proofs.Common.{◌≡◌, ◌^◌, take}
use Rattle.std.specs.List.{flat_map}
use Rattle.table_file.specs.Plan.{code_of}
use Rattle.table_file.specs.PlannedFile.{block_bytes}
use Rattle.table_file.proofs.forging.blocks.blocks_bytes.Given as goal

abbrev pub invariant-loop-block : goal.invariant-loop-block
invariant-loop-block l = l.bytes.items ≡ flat_map (λ block. block_bytes (code_of l.plan) (2 ^ l.plan.block_exponent) block.items) (take l.block-index l.plan.blocks.items)
