use Rattle.std.proofs.Common.{◌∙◌}
use Rattle.system_io.proofs.HearingLaws.{hears_after, nothing_more, nothing_since}
use Rattle.system_io.proofs.udp_port.UdpPortPort.receive.Goals as goal

pub returns-in-Ok-clause-hears : goal.returns-in-Ok-clause-hears
returns-in-Ok-clause-hears g c = hears_after _ _ _ _ c.loop.invariant.0 c.in-Ok.ensures.hears

pub loop-preserved : goal.loop-preserved
loop-preserved g c = (nothing_more _ _ _ c.loop.invariant.0 c.in-Err.ensures.deaf, c.receive_within.ensures.same ∙ c.loop.invariant.1, c.receive_within.ensures.failures ∙ c.loop.invariant.2)

pub returns-in-Err-2-clause-deaf : goal.returns-in-Err-2-clause-deaf
returns-in-Err-2-clause-deaf g c = nothing_since _ _ _ (nothing_more _ _ _ c.loop.invariant.0 c.in-Err-2.ensures.deaf) c.fail.ensures.facts
