use Rattle.std.proofs.Common.{◌≤◌, ◌/◌, arith, length}
use Rattle.table_file.specs.Sparse.{sizes_of, entry_block}
use Rattle.table_file.proofs.Before.{length-sizes, not_known, known_is}
use Rattle.table_file.proofs.sparse.is_entry.Goals as goal

pub returns-then-sums-block : goal.returns-then-sums-block
returns-then-sums-block c = not_known (sizes_of c.args.lengths.now) c.args.span c.args.entries.now c.args.k (omega (arith, length-sizes c.args.lengths.now, c.if-sums-block.true, c.requires.length, c.entry-block.ensures.block))

pub returns : goal.returns
returns c =
    let b = entry_block c.args.entries.now c.args.k in
    let le : b ≤ length c.args.lengths.now / 2 = omega (arith, c.if-sums-block.false, c.requires.length, c.entry-block.ensures.block) in
    rw (c.entry-block.ensures.block, c.entry-block.ensures.offset) (known_is (sizes_of c.args.lengths.now) c.args.span c.args.entries.now c.args.k _ (omega (arith, length-sizes c.args.lengths.now, le)) (c.requires.each b le).0)
