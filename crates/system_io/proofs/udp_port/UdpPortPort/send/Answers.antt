use Rattle.std.proofs.Common.{◌∙◌, OnErr, ap, map, refl, subst, sym, arith}
use Rattle.system_io.specs.Failures.{Risen}
use Rattle.system_io.proofs.AnswerLaws.{after_one, to_next, to_nobody}
use Rattle.system_io.proofs.udp_port.UdpPortPort.send.Goals as goal

pub loop-place-init : goal.loop-place-init
loop-place-init g c = (refl, refl, omega arith, tt, to_nobody c.args.self.now.sender (map (λ r. r.who) c.args.self.now.to.items) c.args.bytes.now _)

pub loop-place-preserved : goal.loop-place-preserved
loop-place-preserved g c =
    let i = c.loop-place.invariant in
    let before = i.2 in
    let after = c.send_one.ensures.count in
    let failed = subst (λ r. OnErr r (Risen c.args.self.now.failures c.send_one.new.self.failures)) (sym c.and-sent.ensures) (after_one c.send_one.result c.loop-place.sent _ _ _ before c.send_one.ensures.counts i.3) in
    let gone = to_next _ _ _ _ c.loop-place.place c.len-place-end.result c.args.bytes.now _ _ _ i.1 (ap (λ v. v.items) i.0) c.loop-place-test.true (c.len-place-end.ensures ∙ c.args.self.now.to.ok.0) i.4 c.send_one.ensures.calls in
    (c.send_one.ensures.same ∙ i.0, c.send_one.ensures.sender ∙ i.1, omega arith, failed, gone)
