use Rattle.std.proofs.Common.{refl}
use Rattle.timeline_fakes.proofs.SendLaws.{to_none, to_one_more}
use Rattle.timeline_fakes.proofs.memory_system.keep_sends.Goals as goal

pub loop-who-init : goal.loop-who-init
loop-who-init c = to_none _ c.args.sender c.args.bytes.now

pub loop-who-preserved : goal.loop-who-preserved
loop-who-preserved c = to_one_more _ _ _ c.args.sender c.args.to.now c.loop-who.who-index _ _ c.args.bytes.now c.loop-who-test.true refl c.loop-who.invariant c.keep_sent.ensures
