use Rattle.system_io.specs.declared.output.WriteFault.TheVariants.{Io}
use Rattle.line_events.proofs.LineLaws.{read_cut, read_refused, read_told}
use Rattle.line_events.proofs.lines.answer_read.Goals as goal

pub returns-in-Ok-clause-made : goal.returns-in-Ok-clause-made
returns-in-Ok-clause-made g c = read_told (g.S.System.outside c.args.system.now) (g.A.LineAnswerer.answering c.args.answerer.now) _ _ c.args.line.now _ _ c.in-Ok.is_told c.in-Ok.ensures.made

pub returns-in-Err-OutOfMemory-clause-made : goal.returns-in-Err-OutOfMemory-clause-made
returns-in-Err-OutOfMemory-clause-made g c =
    let made = rw c.in-Err-OutOfMemory.field-0-is at c.in-Err-OutOfMemory.ensures.made in
    read_refused (g.S.System.outside c.args.system.now) (g.A.LineAnswerer.answering c.args.answerer.now) _ _ c.args.line.now _ _ _ c.print_unread.result made c.print_unread.ensures.made

pub returns-in-Err-Io-clause-made : goal.returns-in-Err-Io-clause-made
returns-in-Err-Io-clause-made g c =
    let made = rw c.in-Err-Io.field-0-is at c.in-Err-Io.ensures.made in
    read_cut (g.S.System.outside c.args.system.now) (g.A.LineAnswerer.answering c.args.answerer.now) _ _ c.args.line.now _ _ Io made
