use Rattle.std.proofs.Common.{◌≡◌, ◌≤◌, ◌<◌, ◌+◌, ◌*◌, ◌/◌, ap, ◌∙◌, arith, length}
use Rattle.std.proofs.lemmas.List.{length_push}
use Rattle.table_file.specs.Sparse.{sizes_of, values_before}
use Rattle.table_file.proofs.Before.{length-sizes, before_next, size_at, sums_more}
use Rattle.table_file.proofs.sparse.sums_of.Goals as goal

pub loop-i-preserved : goal.loop-i-preserved
loop-i-preserved c =
    let i = c.loop-i.i in
    let bytes = c.args.lengths.now in
    let v = c.loop-i.sum + (c.word_at.result + 1) in
    let lt : i < length bytes / 2 = c.loop-i-test.true in
    let size = size_at bytes i lt in
    let next = before_next (sizes_of bytes) i (omega (arith, length-sizes bytes, lt)) in
    let inv = c.loop-i.invariant in
    let v-is : v ≡ values_before (sizes_of bytes) (i + 1) = omega (arith, size, next, inv.total, c.word_at.ensures) in
    let low = c.type_inv.lengths (2 * i) in
    let high = c.type_inv.lengths (2 * i + 1) in
    let small : v ≤ 65536 * (i + 1) = omega (arith, inv.small, low, high, c.word_at.ensures) in
    record {
      len = ap length c.push_reserved-in-loop-i.ensures.items ∙ length_push c.loop-i.sums.items v ∙ omega (arith, inv.len);
      room = omega (arith, inv.room, c.push_reserved-in-loop-i.ensures.capacity);
      total = v-is;
      small = small;
      each = rw c.push_reserved-in-loop-i.ensures.items (sums_more (values_before (sizes_of bytes)) c.loop-i.sums.items v i inv.len v-is small inv.each);
    }
