use Rattle.std.proofs.Common.{◌≡◌, ◌<◌, ◌≤◌, length, get_or, refl}
use Rattle.std.proofs.lemmas.List.{take_all}
use Rattle.std.proofs.lemmas.List.Elements.{All-more}
use Rattle.table_file.specs.Plan.{FitsBlock}
use Rattle.table_file.proofs.forging.blocks.fit_blocks.Goals as goal

pub loop-block-preserved : goal.loop-block-preserved
loop-block-preserved c =
    let q = c.args.plan.now in
    let i = c.loop-block.block-index in
    let block = c.block-item.result in
    let value = c.deref-block-items.ensures.value in
    let lt : i < length q.blocks.items = rw value at c.loop-block-test.true in
    let is : block ≡ get_or q.blocks.items i block = rw value at c.block-item.is in
    let fits : FitsBlock q block.items = rw c.deref.ensures.value at (c.if-not-fits_block.ensures.0 refl) in
    All-more (λ b. FitsBlock q b.items) q.blocks.items i block lt c.loop-block.invariant (rw (← is) fits)

pub returns : goal.returns
returns c =
    let q = c.args.plan.now in
    let long : length q.blocks.items ≤ c.loop-block.block-index = rw c.deref-block-items.ensures.value at c.loop-block-test.false in
    (λ t. rw (take_all c.loop-block.block-index q.blocks.items long) at c.loop-block.invariant, λ h. refl)
