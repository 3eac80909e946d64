use Rattle.std.proofs.Common.{◌≡◌, ◌<◌, ◌^◌, ◌*◌, [], length, get_or, arith}
use Rattle.std.specs.Prelude.{◌%◌}
use Rattle.std.proofs.lemmas.Nat.{one_shl}
use Rattle.table_file.specs.Plan.{code_of}
use Rattle.table_file.specs.PlannedFile.{block_bytes, blocks_bytes}
use Rattle.table_file.proofs.Appending.{adds_next, added_all}
use Rattle.table_file.proofs.forging.blocks.blocks_bytes.Goals as goal

pub loop-block-preserved : goal.loop-block-preserved
loop-block-preserved c =
    let q = c.args.plan.now in
    let i = c.loop-block.block-index in
    let block = c.block-item.result in
    let value = c.deref-block-items.ensures.value in
    let lt : i < length q.blocks.items = rw value at c.loop-block-test.true in
    let is : block ≡ get_or q.blocks.items i block = rw value at c.block-item.is in
    let size : 1 * 2 ^ q.block_exponent % 18446744073709551616 ≡ 2 ^ q.block_exponent = one_shl q.block_exponent 64 (omega (arith, c.requires.figures.block)) in
    let one = rw (c.deref-in-loop-block.ensures.value, c.in_ok-of_block.ensures, c.deref.ensures.value, size) at c.in_ok-extend_from_slice.ensures.items in
    adds_next (λ b. block_bytes (code_of q) (2 ^ q.block_exponent) b.items) q.blocks.items i block block [] c.loop-block.bytes.items _ lt is c.loop-block.invariant one

pub returns : goal.returns
unfolding blocks_bytes
returns c =
    let q = c.args.plan.now in
    let le = rw c.deref-block-items.ensures.value at c.loop-block-test.false in
    added_all (λ b. block_bytes (code_of q) (2 ^ q.block_exponent) b.items) q.blocks.items c.loop-block.block-index [] c.loop-block.bytes.items le c.loop-block.invariant
