use Rattle.answer_commands.proofs.ListLaws.{checked_after, not_checked}
use Rattle.answer_commands.proofs.check.print_check.Goals as goal

pub returns-in-Ok-clause-made : goal.returns-in-Ok-clause-made
returns-in-Ok-clause-made g c = checked_after (g.S.System.outside c.args.system.now) c.args.task.now c.in-Ok.manifest _ _ _ c.check_folder.result c.in-Ok.ensures c.check_folder.ensures.made

pub returns-in-Err-clause-made : goal.returns-in-Err-clause-made
returns-in-Err-clause-made g c = not_checked (g.S.System.outside c.args.system.now) c.args.task.now _ _ _ c.in-Err.fault c.print_unread.result c.in-Err.ensures c.print_unread.ensures.made
