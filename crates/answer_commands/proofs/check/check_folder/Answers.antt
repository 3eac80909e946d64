use Rattle.answer_commands.proofs.ListLaws.{check_replied, check_unread}
use Rattle.answer_commands.proofs.check.check_folder.Goals as goal

pub returns-in-Ok-clause-made : goal.returns-in-Ok-clause-made
returns-in-Ok-clause-made g c =
    let answered = rw c.deref.ensures.value at c.check_manifest.ensures in
    check_replied (g.S.System.outside c.args.system.now) c.args.task.now c.args.manifest.now _ _ _ c.in-Ok.seen.items c.check_manifest.result c.print_replied.result answered c.in-Ok.ensures c.print_replied.ensures.made

pub returns-in-Err-clause-made : goal.returns-in-Err-clause-made
returns-in-Err-clause-made g c = check_unread (g.S.System.outside c.args.system.now) c.args.task.now c.args.manifest.now _ _ _ c.in-Err.fault c.print_unread.result c.in-Err.ensures c.print_unread.ensures.made
