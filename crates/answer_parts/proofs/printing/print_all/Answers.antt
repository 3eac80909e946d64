use Rattle.std.specs.Prelude.{map, Ok, Err}
use Rattle.answer_parts.specs.Lines.{words_of}
use Rattle.move_msg.specs.TextLines.{text_of}
use Rattle.answer_parts.specs.Printing.{Prints, PrintsReply}
use Rattle.answer_parts.proofs.PrintLaws.{cut_with, does_so, printed_with}
use Rattle.answer_parts.proofs.ReplyLaws.{lines_written, reply}
use Rattle.answer_parts.proofs.printing.print_all.Goals as goal

pub returns-in-Ok-clause-made : goal.returns-in-Ok-clause-made
returns-in-Ok-clause-made g c =
    let o = g.S.System.outside c.args.system.now in
    let lines = map words_of c.args.lines.now in
    let status = c.args.status in
    does_so o _ _ (Prints lines status) (PrintsReply (reply (text_of lines) status)) (Ok status) (lines_written lines status) (printed_with o _ _ lines status c.in-Ok.ensures.made)

pub returns-in-Err-clause-made : goal.returns-in-Err-clause-made
returns-in-Err-clause-made g c =
    let o = g.S.System.outside c.args.system.now in
    let lines = map words_of c.args.lines.now in
    let status = c.args.status in
    does_so o _ _ (Prints lines status) (PrintsReply (reply (text_of lines) status)) (Err c.in-Err.fault) (lines_written lines status) (cut_with o _ _ lines status c.in-Err.fault c.in-Err.ensures.made)
