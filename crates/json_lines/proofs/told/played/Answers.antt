use Rattle.json_lines.proofs.Playing.{all_played, one_more_played}
use Rattle.json_lines.proofs.told.played.Goals as goal

pub loop-root-preserved : goal.loop-root-preserved
loop-root-preserved c = one_more_played c.args.roots.now c.loop-root.root-index c.root-item.result c.loop-root.moves.items _ c.loop-root-test.true c.root-item.is c.loop-root.invariant c.in_ok-add.ensures

pub returns : goal.returns
returns c = all_played c.args.roots.now c.loop-root.root-index c.loop-root.moves.items c.loop-root-test.false c.loop-root.invariant
