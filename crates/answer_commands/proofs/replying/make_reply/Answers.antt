use Rattle.std.proofs.Common.{subst}
use Rattle.std.specs.Prelude.{Ok, Err}
use Rattle.task_files.specs.InputReads.{ReadsGiven}
use Rattle.task_files.specs.Sources.{Named}
use Rattle.timeline.specs.Outsides.{AddsSome}
use Rattle.answer_commands.proofs.ReplyLaws.{made, unmade}
use Rattle.answer_commands.proofs.replying.make_reply.Goals as goal

pub returns-in-Ok-clause-made : goal.returns-in-Ok-clause-made
returns-in-Ok-clause-made g c =
    let o = g.S.System.outside c.args.system.now in
    let read = subst (λ (n : Named). AddsSome o c.args.timeline.now c.read_inputs.new.timeline (ReadsGiven o n (Ok c.in-Ok.given))) c.names-names.ensures c.in-Ok.ensures in
    made o (g.M.MakingTask.making c.args.task.now) _ _ _ _ c.in-Ok.given c.make-answered.result c.print_replied.result read c.make-answered.ensures c.print_replied.ensures.made

pub returns-in-Err-clause-made : goal.returns-in-Err-clause-made
returns-in-Err-clause-made g c =
    let o = g.S.System.outside c.args.system.now in
    let read = subst (λ (n : Named). AddsSome o c.args.timeline.now c.read_inputs.new.timeline (ReadsGiven o n (Err c.in-Err.fault))) c.names-names.ensures c.in-Err.ensures in
    unmade o (g.M.MakingTask.making c.args.task.now) _ _ _ c.in-Err.fault c.print_unread.result read c.print_unread.ensures.made
