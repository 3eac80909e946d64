use Rattle.std.proofs.Common.{◌∙◌, refl, get_or, ◌-◌}
use Rattle.pair_dict.proofs.NodeLemmas.{less_more}
use Rattle.pair_dict.proofs.hints.add_counts.Goals as goal

pub loop-i-preserved : goal.loop-i-preserved
loop-i-preserved c =
    c.in_ok-push.ensures.items
    ∙ less_more c.loop-i.bytes.items c.args.counts.now c.args.bytes.now.items c.loop-i.i (get_or c.args.counts.now c.loop-i.i 0 - 1) c.loop-i-test.true refl c.loop-i.invariant
