use Rattle.std.proofs.Common.{◌+◌, ◌-◌, drop, get_or, arith}
use Rattle.std.proofs.lemmas.List.{drop_more}
use Rattle.table_file.proofs.Laying.{reached_next, reached_spot, spot_within, spot_past}
use Rattle.table_file.proofs.forging.blocks.block_with.Goals as goal

pub returns-then-index-place-clause-spot : goal.returns-then-index-place-clause-spot
returns-then-index-place-clause-spot c =
    let lengths = c.args.lengths.now in
    let b = c.loop-place.place.block in
    let more = drop_more lengths b 0 c.loop-place-test.true in
    reached_spot lengths b c.loop-place.place.before c.args.index c.loop-place.invariant.reached c.loop-place.invariant.before
    (rw more (spot_within (get_or lengths b 0) (drop (b + 1) lengths) (c.args.index - c.loop-place.place.before) (omega (arith, c.if-index-place.true, c.loop-place.invariant.before))))

pub loop-place-preserved : goal.loop-place-preserved
loop-place-preserved c =
    record {
      reached = reached_next c.args.lengths.now c.loop-place.place.block c.loop-place.place.before (get_or c.args.lengths.now c.loop-place.place.block 0) c.loop-place.invariant.reached (drop_more c.args.lengths.now c.loop-place.place.block 0 c.loop-place-test.true);
      before = c.if-index-place.false;
    }

pub returns-clause-spot : goal.returns-clause-spot
returns-clause-spot c =
    reached_spot c.args.lengths.now c.loop-place.place.block c.loop-place.place.before c.args.index c.loop-place.invariant.reached c.loop-place.invariant.before
    (spot_past c.args.lengths.now c.loop-place.place.block (c.args.index - c.loop-place.place.before) c.loop-place-test.false)
