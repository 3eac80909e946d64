use Rattle.move_msg.specs.Messages.{SpellsMessage, message_text}
use Rattle.timeline.proofs.EventLaws.{adds_none}
use Rattle.game_server.proofs.Ports.{heard_nothing, nothing_then, still_to}
use Rattle.game_server.proofs.SendLaws.{all_more, sent_more}
use Rattle.game_server.proofs.sending.send_all.Goals as goal

pub loop-message-init : goal.loop-message-init
loop-message-init g c = record {
  same = heard_nothing _;
  spelled = tt;
  made = adds_none (g.S.System.outside c.args.system.now) c.args.timeline.now;
}

pub loop-message-preserved : goal.loop-message-preserved
loop-message-preserved g c = record {
  same = nothing_then _ _ _ c.loop-message.invariant.same c.send_one.ensures.same;
  spelled = all_more (λ m. SpellsMessage (message_text m) m) c.args.messages.now c.loop-message.message-index c.message-item.result c.loop-message-test.true c.message-item.is c.loop-message.invariant.spelled c.send_one.ensures.spelled;
  made = sent_more (g.S.System.outside c.args.system.now) _ _ _ _ _ c.args.messages.now c.loop-message.message-index c.message-item.result c.loop-message-test.true c.message-item.is (still_to _ _ c.loop-message.invariant.same) c.loop-message.invariant.made c.send_one.ensures.made;
}
