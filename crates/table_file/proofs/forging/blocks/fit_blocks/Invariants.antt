use Rattle.std.proofs.Common.{take}
use Rattle.std.specs.List.{All}
use Rattle.table_file.specs.Plan.{FitsBlock}
use Rattle.table_file.proofs.forging.blocks.fit_blocks.Given as goal

abbrev pub invariant-loop-block : goal.invariant-loop-block
invariant-loop-block l = All (λ block. FitsBlock l.plan block.items) (take l.block-index l.plan.blocks.items)
