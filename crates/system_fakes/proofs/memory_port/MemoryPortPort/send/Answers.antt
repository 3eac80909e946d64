use Rattle.std.proofs.Common.{◌∙◌, refl}
use Rattle.system_fakes.proofs.PortLaws.{to_none, to_one_more}
use Rattle.system_fakes.proofs.memory_port.MemoryPortPort.send.Goals as goal

pub loop-to-init : goal.loop-to-init
loop-to-init c = (to_none _ _, refl, refl)

pub loop-to-preserved : goal.loop-to-preserved
loop-to-preserved c = (to_one_more _ _ _ _ _ c.loop-to.invariant.0 c.keep_handed.ensures.passes, c.keep_handed.ensures.addresses ∙ c.loop-to.invariant.1, c.keep_handed.ensures.failures ∙ c.loop-to.invariant.2)
