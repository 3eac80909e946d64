use Rattle.json_lines.proofs.Playing.{all_pass, is_told, one_more_passes}
use Rattle.json_lines.proofs.told.have_both.Goals as goal

pub loop-m-preserved : goal.loop-m-preserved
loop-m-preserved c = one_more_passes is_told c.args.moves.now c.loop-m.m-index c.m-item.result c.loop-m.all _ c.loop-m-test.true c.m-item.is c.loop-m.invariant c.has_both-all.ensures

pub returns : goal.returns
returns c = all_pass is_told c.args.moves.now c.loop-m.m-index c.loop-m.all c.loop-m-test.false c.loop-m.invariant
