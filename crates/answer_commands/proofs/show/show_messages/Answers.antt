use Rattle.std.proofs.Common.{refl}
use Rattle.answer_parts.proofs.PrintLaws.{fails_at}
use Rattle.answer_commands.proofs.ShowLaws.{nothing_shown, shown_cut, shown_fault, shown_front, shown_whole, shows_more}
use Rattle.answer_commands.proofs.show.show_messages.Goals as goal

pub loop-message-init : goal.loop-message-init
loop-message-init g c = (c.new-feeder.ensures, nothing_shown (g.S.System.outside c.args.system.now) c.args.stream.now _)

pub loop-message-preserved : goal.loop-message-preserved
loop-message-preserved g c =
    let front = c.in-Message.ensures in
    let made = rw c.words.ensures at c.in-Ok.ensures.made in
    (front.4, shows_more (g.S.System.outside c.args.system.now) _ _ _ front.0 c.in-Message.message _ _ _ _ c.loop-message.invariant.1 front.1 front.2 front.3 made)

pub returns-in-Fault-clause-made : goal.returns-in-Fault-clause-made
returns-in-Fault-clause-made g c =
    shown_fault (g.S.System.outside c.args.system.now) _ _ _ _ _ _ c.print_refusal.result c.in-Fault.fault _ c.loop-message.invariant.1 c.in-Fault.ensures refl c.print_refusal.ensures.made

pub returns-in-Cut-clause-made : goal.returns-in-Cut-clause-made
returns-in-Cut-clause-made g c =
    shown_cut (g.S.System.outside c.args.system.now) _ _ _ _ _ _ c.print_refusal-in-Cut.result _ c.loop-message.invariant.1 c.in-Cut.ensures refl c.print_refusal-in-Cut.ensures.made

pub returns-in-End-clause-made : goal.returns-in-End-clause-made
returns-in-End-clause-made g c = shown_whole (g.S.System.outside c.args.system.now) _ _ _ _ _ c.loop-message.invariant.1 c.in-End.ensures

pub returns-in-Err-clause-made : goal.returns-in-Err-clause-made
returns-in-Err-clause-made g c =
    let front = c.in-Message.ensures in
    let made = rw c.words.ensures at c.in-Err.ensures.made in
    shown_front (g.S.System.outside c.args.system.now) _ _ _ front.0 c.in-Message.message c.in-Err.fault _ _ _ _ c.loop-message.invariant.1 front.2 front.3 made

pub returns-in-Err-clause-cause : goal.returns-in-Err-clause-cause
returns-in-Err-clause-cause g c = fails_at (g.S.System.outside c.args.system.now) _ c.in-Err.ensures.cause
