use Rattle.std.proofs.Common.{ap}
use Rattle.table_folder.specs.declared.files.SystemFiles.{SystemFiles}
use Rattle.table_commands.proofs.PgnLaws.{by_folder, no_folder, no_room_for_folder}
use Rattle.table_commands.proofs.line_tasks.answer_in.Goals as goal

pub answer_by_folder-requires-clause-from : goal.answer_by_folder-requires-clause-from
answer_by_folder-requires-clause-from g c = ap (λ (f : SystemFiles _). f.system.now) (rw c.in-Ok-Ok.field-0-is at c.in-Ok-Ok.ensures.files)

pub answer_by_folder-requires-clause-empty : goal.answer_by_folder-requires-clause-empty
answer_by_folder-requires-clause-empty g c = rw c.in-Ok-Ok.field-0-is at c.in-Ok-Ok.ensures.empty

pub returns-in-Ok-Ok-clause-made : goal.returns-in-Ok-Ok-clause-made
returns-in-Ok-Ok-clause-made g c =
    let o = g.S.System.outside c.args.system.now in
    let opens = rw c.in-Ok-Ok.field-0-is at c.in-Ok-Ok.ensures.made in
    by_folder o c.args.path.now c.args.manifest.now ((g.L.LineTask.asking c.args.task.now).InFolder o.disk o.input) _ _ _ c.in-Ok-Ok.folder.on.folder c.answer_by_folder.result opens c.answer_by_folder.ensures.made

pub returns-in-Ok-Err-clause-made : goal.returns-in-Ok-Err-clause-made
returns-in-Ok-Err-clause-made g c =
    let o = g.S.System.outside c.args.system.now in
    let opens = rw c.in-Ok-Err.field-0-is at c.in-Ok-Err.ensures.made in
    no_folder o c.args.path.now c.args.manifest.now ((g.L.LineTask.asking c.args.task.now).InFolder o.disk o.input) _ _ _ c.in-Ok-Err.refusal c.print_refusal.result opens c.print_refusal.ensures.made

pub returns-clause-made : goal.returns-clause-made
returns-clause-made g c =
    let o = g.S.System.outside c.args.system.now in
    no_room_for_folder o c.args.path.now c.args.manifest.now ((g.L.LineTask.asking c.args.task.now).InFolder o.disk o.input) _ _ _ _ c.print_refusal-in-Err.result c.in-Err.ensures.made c.print_refusal-in-Err.ensures.made
