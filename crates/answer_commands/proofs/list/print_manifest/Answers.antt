use Rattle.answer_commands.proofs.ListLaws.{entries_kept, list_replied, looks_fail}
use Rattle.answer_commands.proofs.ReplyLaws.{unread}
use Rattle.answer_commands.specs.Listing.{list_reply}
use Rattle.answer_commands.proofs.list.print_manifest.Goals as goal

pub manifest_of-requires : goal.manifest_of-requires
manifest_of-requires g c =
    let looked = c.in-Ok.ensures.2 in
    rw c.deref.ensures.value (entries_kept c.in-Ok.lines.items looked.files looked.made looked.order)

pub returns-in-Ok-clause-made : goal.returns-in-Ok-clause-made
returns-in-Ok-clause-made g c =
    let answered = rw c.deref.ensures.value at c.manifest_of.ensures in
    list_replied (g.S.System.outside c.args.system.now) c.args.task.now _ _ _ c.in-Ok.lines.items c.manifest_of.result c.print_replied.result answered c.in-Ok.ensures c.print_replied.ensures.made

pub returns-in-Err-clause-made : goal.returns-in-Err-clause-made
returns-in-Err-clause-made g c =
    let o = g.S.System.outside c.args.system.now in
    unread o (list_reply o.disk c.args.task.now) _ _ _ c.in-Err.fault c.print_unread.result (looks_fail o _ (list_reply o.disk c.args.task.now).Reads _ _ c.in-Err.fault c.in-Err.ensures) c.print_unread.ensures.made
