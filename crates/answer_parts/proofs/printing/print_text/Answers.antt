use Rattle.answer_parts.specs.Printing.{PrintsReply}
use Rattle.answer_parts.proofs.PrintLaws.{cuts_one, fails_at, writes_one}
use Rattle.answer_parts.proofs.ReplyLaws.{reply, text_written}
use Rattle.answer_parts.proofs.printing.print_text.Goals as goal

pub returns-in-Ok-clause-made : goal.returns-in-Ok-clause-made
returns-in-Ok-clause-made g c =
    let text = c.args.text.now in
    let status = c.args.status in
    writes_one (g.S.System.outside c.args.system.now) _ _ text (PrintsReply (reply text status)) status (text_written text status) c.in-Ok.ensures.made

pub returns-in-Err-clause-made : goal.returns-in-Err-clause-made
returns-in-Err-clause-made g c =
    let text = c.args.text.now in
    let status = c.args.status in
    cuts_one (g.S.System.outside c.args.system.now) _ _ text c.in-Err.fault (PrintsReply (reply text status)) status (text_written text status) c.in-Err.ensures.made

pub returns-in-Err-clause-cause : goal.returns-in-Err-clause-cause
returns-in-Err-clause-cause g c = fails_at (g.S.System.outside c.args.system.now) _ c.in-Err.ensures.cause
