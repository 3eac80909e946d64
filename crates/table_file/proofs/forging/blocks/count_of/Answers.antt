use Rattle.std.proofs.Common.{◌+◌, get_or, arith, rules}
use Rattle.table_file.proofs.Counting.{sum_more, sum_front}
use Rattle.table_file.proofs.forging.blocks.count_of.Goals as goal

pub returns-then-count-gt-MOST_VALUES-clause-none : goal.returns-then-count-gt-MOST_VALUES-clause-none
returns-then-count-gt-MOST_VALUES-clause-none c = λ some few.
    let i = c.loop-symbol.symbol-index in
    let more = sum_more c.args.counts.now c.args.block.now i (get_or c.args.block.now i 0) c.loop-symbol-test.true (search rules) in
    let front = sum_front c.args.counts.now c.args.block.now (i + 1) in
    omega (arith, more, front, few, c.loop-symbol.invariant.is, c.if-count-gt-MOST_VALUES.true)

pub loop-symbol-preserved : goal.loop-symbol-preserved
loop-symbol-preserved c =
    let i = c.loop-symbol.symbol-index in
    let more = sum_more c.args.counts.now c.args.block.now i (get_or c.args.block.now i 0) c.loop-symbol-test.true (search rules) in
    record { is = omega (arith, more, c.loop-symbol.invariant.is); few = c.if-count-gt-MOST_VALUES.false }
