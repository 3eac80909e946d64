use Rattle.std.proofs.Common.{◌∷◌, []}
use Rattle.answer_parts.specs.Lines.{refusal_words, words_of}
use Rattle.answer_parts.specs.Reply.{refusal_reply, status_if}
use Rattle.move_msg.specs.TextLines.{ended, text_of}
use Rattle.answer_parts.specs.Printing.{Prints, PrintsReply}
use Rattle.answer_parts.proofs.PrintLaws.{does_so}
use Rattle.answer_parts.proofs.ReplyLaws.{line_written, refusal_written, reply}
use Rattle.answer_parts.proofs.printing.print_reply.Goals as goal

pub returns-in-Refused-clause-made : goal.returns-in-Refused-clause-made
returns-in-Refused-clause-made g c =
    let words = refusal_words c.in-Refused.refusal in
    rw c.in-Refused.is (does_so (g.S.System.outside c.args.system.now) _ _ (Prints (words ∷ []) 1) (PrintsReply (refusal_reply words)) c.print_refusal.result (refusal_written words) c.print_refusal.ensures.made)

pub returns-in-One-clause-made : goal.returns-in-One-clause-made
returns-in-One-clause-made g c =
    let words = words_of c.in-One.line in
    let status = status_if c.in-One.done in
    let made = rw c.status_if.ensures at c.print_all.ensures.made in
    rw c.in-One.is (does_so (g.S.System.outside c.args.system.now) _ _ (PrintsReply (reply (text_of (words ∷ [])) status)) (PrintsReply (reply (ended words) status)) c.print_all.result (line_written words status) made)

pub returns-in-Lines-clause-made : goal.returns-in-Lines-clause-made
returns-in-Lines-clause-made g c =
    let lines = rw c.deref.ensures.value at c.print_all-in-Lines.ensures.made in
    let made = rw c.status_if-in-Lines.ensures at lines in
    rw c.in-Lines.is made

pub returns-in-Text-clause-made : goal.returns-in-Text-clause-made
returns-in-Text-clause-made g c =
    let text = rw c.deref-in-Text.ensures.value at c.print_text.ensures.made in
    let made = rw c.status_if-in-Text.ensures at text in
    rw c.in-Text.is made

pub returns-in-JsonFault-clause-made : goal.returns-in-JsonFault-clause-made
returns-in-JsonFault-clause-made g c =
    let bytes = rw c.as_bytes.ensures.value at c.print_text-in-JsonFault.ensures.made in
    let made = rw c.fault_line.ensures at bytes in
    rw c.in-JsonFault.is made
