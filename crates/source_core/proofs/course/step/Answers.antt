use Rattle.std.proofs.Common.{[], ap, Err}
use Rattle.system_io.specs.declared.reading.ReadFault.TheVariants as fault
use Rattle.source_core.proofs.RunLaws.{step_end, step_line, step_unread}
use Rattle.source_core.proofs.course.step.Goals as goal

pub returns-then-read-clause-steps : goal.returns-then-read-clause-steps
returns-then-read-clause-steps g c =
    let lines = (g.S.System.outside c.args.system.now).lines c.args.reading.now.lines in
    step_line _ _ _ _ _ _ lines.ahead _ _ _ _ _ _ _ _ _ _ _ c.if-read.true c.deref.ensures.value c.in-Ok.ensures.read c.in-Ok.ensures.made c.send_line.ensures

pub returns-else-read-clause-steps : goal.returns-else-read-clause-steps
returns-else-read-clause-steps g c =
    let lines = (g.S.System.outside c.args.system.now).lines c.args.reading.now.lines in
    step_end _ _ _ _ _ _ lines.ahead _ _ _ _ _ _ _ _ _ _ _ c.if-read.false c.number.ensures.value c.in-Ok.ensures.read c.in-Ok.ensures.made c.close.ensures

pub returns-in-Err-Unreadable-clause-steps : goal.returns-in-Err-Unreadable-clause-steps
returns-in-Err-Unreadable-clause-steps g c =
    let lines = (g.S.System.outside c.args.system.now).lines c.args.reading.now.lines in
    let made = rw c.in-Err-Unreadable.field-0-is at c.in-Err-Unreadable.ensures.made in
    step_unread _ _ _ fault.Unreadable [] lines.ahead _ _ _ _ _ _ _ _ _ (c.in-Err-Unreadable.ensures.cause (ap Err c.in-Err-Unreadable.field-0-is)) made

pub returns-in-Err-OutOfMemory-clause-steps : goal.returns-in-Err-OutOfMemory-clause-steps
returns-in-Err-OutOfMemory-clause-steps g c =
    let lines = (g.S.System.outside c.args.system.now).lines c.args.reading.now.lines in
    let made = rw c.in-Err-OutOfMemory.field-0-is at c.in-Err-OutOfMemory.ensures.made in
    step_unread _ _ _ fault.OutOfMemory [] lines.ahead _ _ _ _ _ _ _ _ _ (c.in-Err-OutOfMemory.ensures.memory (ap Err c.in-Err-OutOfMemory.field-0-is)) made
