use Rattle.std.proofs.Common.{subst}
use Rattle.std.specs.Prelude.{Ok, Err}
use Rattle.command_line.specs.Commands.Pgn.{named}
use Rattle.line_events.proofs.WritingLaws.{done_by_it, unread_first}
use Rattle.task_files.specs.InputReads.{ReadsGiven}
use Rattle.task_files.specs.Sources.{Named}
use Rattle.timeline.specs.Outsides.{AddsSome}
use Rattle.table_commands.specs.Pgn.{JudgesBy}
use Rattle.table_commands.proofs.pgn.answer.Goals as goal

pub returns-in-Ok-clause-made : goal.returns-in-Ok-clause-made
returns-in-Ok-clause-made g c =
    let o = g.S.System.outside c.args.system.now in
    let read = subst (λ (n : Named). AddsSome o c.args.timeline.now c.read_inputs.new.timeline (ReadsGiven o n (Ok c.in-Ok.given))) c.places-names.ensures c.in-Ok.ensures in
    done_by_it o (ReadsGiven o (named c.args.task.now)) (JudgesBy o.disk o.input c.args.task.now) _ _ _ c.in-Ok.given c.judge_by.result read c.judge_by.ensures.made

pub returns-in-Err-clause-made : goal.returns-in-Err-clause-made
returns-in-Err-clause-made g c =
    let o = g.S.System.outside c.args.system.now in
    let read = subst (λ (n : Named). AddsSome o c.args.timeline.now c.read_inputs.new.timeline (ReadsGiven o n (Err c.in-Err.fault))) c.places-names.ensures c.in-Err.ensures in
    unread_first o (ReadsGiven o (named c.args.task.now)) (JudgesBy o.disk o.input c.args.task.now) _ _ _ c.in-Err.fault c.print_unread.result read c.print_unread.ensures.made
