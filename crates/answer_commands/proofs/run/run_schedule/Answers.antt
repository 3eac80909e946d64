use Rattle.answer_commands.proofs.RunLaws.{not_by_tables, runs_by_tables}
use Rattle.answer_commands.proofs.run.run_schedule.Goals as goal

pub returns-in-Ok-clause-made : goal.returns-in-Ok-clause-made
returns-in-Ok-clause-made g c =
    let ran = rw c.deref.ensures.value at c.run_input.ensures.made in
    runs_by_tables (g.S.System.outside c.args.system.now) _ _ _ c.args.task.now c.in-Ok.files.items c.run_input.result c.in-Ok.ensures.made ran

pub returns-in-Err-clause-made : goal.returns-in-Err-clause-made
returns-in-Err-clause-made g c = not_by_tables (g.S.System.outside c.args.system.now) _ _ _ c.args.task.now c.in-Err.fault c.print_unread.result c.in-Err.ensures.made c.print_unread.ensures.made
