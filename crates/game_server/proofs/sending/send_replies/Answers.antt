use Rattle.std.proofs.Common.{ap₂, subst}
use Rattle.timeline.proofs.EventLaws.{adds_none}
use Rattle.game_server.specs.Sending.{AllSpelled, address, address_of, sent}
use Rattle.timeline.specs.Outsides.{Adds}
use Rattle.game_server.proofs.Ports.{same_then, sends_to_same}
use Rattle.game_server.proofs.SendLaws.{all_more, replies_more}
use Rattle.game_server.proofs.sending.send_replies.Goals as goal

pub loop-one-init : goal.loop-one-init
loop-one-init g c = record {
  same = sends_to_same _;
  spelled = tt;
  made = adds_none (g.S.System.outside c.args.system.now) c.args.timeline.now;
}

pub loop-one-preserved : goal.loop-one-preserved
loop-one-preserved g c =
    let o = g.S.System.outside c.args.system.now in
    let i = c.loop-one.one-index in
    let held = c.args.held.now in
    let inv = c.loop-one.invariant in
    let now = same_then _ _ _ inv.same c.answer.ensures.same in
    record {
      same = same_then _ _ _ now c.send_all.ensures.same.same;
      spelled = all_more (λ h. AllSpelled h.reply.outputs.items) held i c.one-item.result c.loop-one-test.true c.one-item.is inv.spelled (subst AllSpelled c.as_slice.ensures c.send_all.ensures.spelled);
      made = replies_more o c.args.timeline.now c.loop-one.timeline c.send_all.new.timeline (o.port c.args.port.now).to (address_of (o.port c.answer.new.port)) held i c.one-item.result c.loop-one-test.true c.one-item.is
          (ap₂ address c.answer.ensures.sender now.to) inv.made (subst (λ ms. Adds o c.loop-one.timeline c.send_all.new.timeline (sent (address_of (o.port c.answer.new.port)) ms)) c.as_slice.ensures c.send_all.ensures.made);
    }
