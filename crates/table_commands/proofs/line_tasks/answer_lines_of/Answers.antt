use Rattle.std.proofs.Common.{subst}
use Rattle.std.specs.Prelude.{Ok, Err}
use Rattle.line_events.proofs.WritingLaws.{done_by_it, unread_first}
use Rattle.task_files.specs.InputReads.{ReadsGiven}
use Rattle.task_files.specs.Sources.{Named}
use Rattle.timeline.specs.Outsides.{AddsSome}
use Rattle.table_commands.specs.LineTasks.{DoesGiven}
use Rattle.table_commands.proofs.line_tasks.answer_lines_of.Goals as goal

pub returns-in-Ok-clause-made : goal.returns-in-Ok-clause-made
returns-in-Ok-clause-made g c =
    let o = g.S.System.outside c.args.system.now in
    let t = g.L.LineTask.asking c.args.task.now in
    let read = subst (λ (n : Named). AddsSome o c.args.timeline.now c.read_inputs.new.timeline (ReadsGiven o n (Ok c.in-Ok.sources))) c.names-names.ensures c.in-Ok.ensures in
    done_by_it o (ReadsGiven o t.named) (DoesGiven o.disk o.input t) _ _ _ c.in-Ok.sources c.answer_given.result read c.answer_given.ensures.made

pub returns-in-Err-clause-made : goal.returns-in-Err-clause-made
returns-in-Err-clause-made g c =
    let o = g.S.System.outside c.args.system.now in
    let t = g.L.LineTask.asking c.args.task.now in
    let read = subst (λ (n : Named). AddsSome o c.args.timeline.now c.read_inputs.new.timeline (ReadsGiven o n (Err c.in-Err.fault))) c.names-names.ensures c.in-Err.ensures in
    unread_first o (ReadsGiven o t.named) (DoesGiven o.disk o.input t) _ _ _ c.in-Err.fault c.print_unread.result read c.print_unread.ensures.made
