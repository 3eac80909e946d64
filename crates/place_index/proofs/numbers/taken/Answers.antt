use Rattle.std.proofs.Common.{arith}
use Rattle.place_index.proofs.Counting.MappedSets.{taken_drop, taken_end}
use Rattle.place_index.proofs.numbers.taken.Goals as goal

pub loop-man-preserved : goal.loop-man-preserved
loop-man-preserved c = record {
  is = omega (arith, c.loop-man.invariant.is, c.before-count.ensures.is, taken_drop c.args.earlier.now c.args.square c.loop-man.man-index (omega (arith, c.loop-man-test.true, c.told-earlier)));
  most = omega (arith, c.loop-man.invariant.most, c.before-count.ensures.bit);
}

pub returns : goal.returns
returns c = omega (arith, c.loop-man.invariant.is, taken_end c.args.earlier.now c.args.square c.loop-man.man-index (omega (arith, c.loop-man-test.false, c.told-earlier)))
