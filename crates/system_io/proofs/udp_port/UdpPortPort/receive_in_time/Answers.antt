use Rattle.std.proofs.Common.{◌∙◌, subst, sym, take}
use Rattle.system_io.proofs.HearingLaws.{by_result, nothing_more, nothing_since}
use Rattle.system_io.specs.UdpPorts.{Hears, HearsOrNothing, udp_facts}
use Rattle.system_io.proofs.udp_port.UdpPortPort.receive_in_time.Goals as goal

pub returns-in-Ok-Some-clause-hears : goal.returns-in-Ok-Some-clause-hears
returns-in-Ok-Some-clause-hears g c =
    let got = by_result (udp_facts g.S.Socket.calls c.args.self.now) (udp_facts g.S.Socket.calls c.loop.self) (udp_facts g.S.Socket.calls c.receive_in_shared.new.self) c.receive_in_shared.new.buffer c.receive_in_shared.result c.in-Ok-Some.field-0 c.loop.invariant.0 c.in-Ok-Some.is c.receive_in_shared.ensures.hears in
    let heard = subst (λ o. HearsOrNothing (udp_facts g.S.Socket.calls c.args.self.now) (udp_facts g.S.Socket.calls c.receive_in_shared.new.self) c.receive_in_shared.new.buffer o) c.in-Ok-Some.field-0-is got in
    subst (λ n. Hears (udp_facts g.S.Socket.calls c.args.self.now) (udp_facts g.S.Socket.calls c.receive_in_shared.new.self) (take n c.receive_in_shared.new.buffer)) (sym c.in-Ok-Some.length-is) heard

pub returns-in-Ok-None-clause-hears : goal.returns-in-Ok-None-clause-hears
returns-in-Ok-None-clause-hears g c =
    let got = by_result (udp_facts g.S.Socket.calls c.args.self.now) (udp_facts g.S.Socket.calls c.loop.self) (udp_facts g.S.Socket.calls c.receive_in_shared.new.self) c.receive_in_shared.new.buffer c.receive_in_shared.result c.in-Ok-None.field-0 c.loop.invariant.0 c.in-Ok-None.is c.receive_in_shared.ensures.hears in
    subst (λ o. HearsOrNothing (udp_facts g.S.Socket.calls c.args.self.now) (udp_facts g.S.Socket.calls c.receive_in_shared.new.self) c.receive_in_shared.new.buffer o) c.in-Ok-None.field-0-is got

pub loop-preserved : goal.loop-preserved
loop-preserved g c = (nothing_more _ _ _ c.loop.invariant.0 c.in-Err.ensures.deaf, c.receive_in_shared.ensures.same ∙ c.loop.invariant.1, c.receive_in_shared.ensures.failures ∙ c.loop.invariant.2)

pub returns-in-Err-2-clause-deaf : goal.returns-in-Err-2-clause-deaf
returns-in-Err-2-clause-deaf g c = nothing_since _ _ _ (nothing_more _ _ _ c.loop.invariant.0 c.in-Err-2.ensures.deaf) c.fail.ensures.facts
