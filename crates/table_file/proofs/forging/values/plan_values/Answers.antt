use Rattle.std.proofs.Common.{◌≡◌, ◌<◌, ◌≤◌, [], length, get_or, take, ap, ◌∙◌}
use Rattle.table_file.specs.Plan.{symbols_values, symbol_bytes, plan_values}
use Rattle.table_file.proofs.Appending.{adds_next, added_all}
use Rattle.table_file.proofs.forging.values.plan_values.Goals as goal

pub push_block-requires-clause-values : goal.push_block-requires-clause-values
push_block-requires-clause-values c = rw (c.deref-in-loop-block.ensures.value, c.in_ok-symbols.ensures.is, c.deref.ensures.value) c.requires.values

pub loop-block-init : goal.loop-block-init
loop-block-init c = (rw c.deref.ensures.value at c.in_ok-symbols.ensures.is, c.new-values.ensures.items)

pub loop-block-preserved : goal.loop-block-preserved
loop-block-preserved c =
    let q = c.args.plan.now in
    let i = c.loop-block.block-index in
    let block = c.block-item.result in
    let value = c.deref-block-items.ensures.value in
    let lt : i < length q.blocks.items = rw value at c.loop-block-test.true in
    let is : block ≡ get_or q.blocks.items i block = rw value at c.block-item.is in
    let one = rw (c.deref-in-loop-block.ensures.value, c.loop-block.invariant.0, c.deref-in-loop-block-2.ensures.value) at c.in_ok-push_block.ensures in (
      c.loop-block.invariant.0,
      adds_next (λ b. symbols_values (symbol_bytes q) b.items) q.blocks.items i block block [] c.loop-block.values.items c.push_block.new.values.items lt is c.loop-block.invariant.1 one,
    )

pub returns : goal.returns
unfolding plan_values
returns c =
    let q = c.args.plan.now in
    let i = c.loop-block.block-index in
    let all : length q.blocks.items ≤ i = rw c.deref-block-items.ensures.value at c.loop-block-test.false in
    let values = added_all (λ b. symbols_values (symbol_bytes q) b.items) q.blocks.items i [] c.loop-block.values.items all c.loop-block.invariant.1 in
    record { is = c.truncate.ensures.items ∙ ap (take c.args.size) values }
