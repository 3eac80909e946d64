use Rattle.place_index.proofs.LookUp.Exchanging.{exchanged_next}
use Rattle.place_index.proofs.sweep.exchange.Goals as goal

pub loop-man-preserved : goal.loop-man-preserved
loop-man-preserved c =
    exchanged_next c.args.men.now c.loop-man.men c.loop-man.man-index c.man-item.result c.exchanged.result c.loop-man-test.true c.loop-man.invariant c.exchanged.ensures.code c.exchanged.ensures.square
