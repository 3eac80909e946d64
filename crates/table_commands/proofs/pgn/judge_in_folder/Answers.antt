use Rattle.std.proofs.Common.{refl}
use Rattle.table_commands.specs.Pgn.{JudgesIn}
use Rattle.table_commands.proofs.PgnLaws.{by_folder, no_folder, no_room_for_folder}
use Rattle.table_commands.proofs.pgn.judge_in_folder.Goals as goal

pub report_file-requires : goal.report_file-requires
report_file-requires g c =
    let files = rw c.in-Ok-Ok.field-0-is at c.in-Ok-Ok.ensures.files in
    rw files refl

pub returns-in-Ok-Ok-clause-made : goal.returns-in-Ok-Ok-clause-made
returns-in-Ok-Ok-clause-made g c =
    let o = g.S.System.outside c.args.place.now.disk.now.system.now in
    let opens = rw c.in-Ok-Ok.field-0-is at c.in-Ok-Ok.ensures.made in
    let files = rw c.in-Ok-Ok.field-0-is at c.in-Ok-Ok.ensures.files in
    let empty = rw c.in-Ok-Ok.field-0-is at c.in-Ok-Ok.ensures.empty in
    let done = rw (files, empty) at c.report_file.ensures.made in
    by_folder o c.args.place.now.path.now c.args.place.now.manifest.now (JudgesIn o.disk o.input c.args.task.now) _ _ _ c.in-Ok-Ok.folder.on.folder c.report_file.result opens done

pub returns-in-Ok-Err-clause-made : goal.returns-in-Ok-Err-clause-made
returns-in-Ok-Err-clause-made g c =
    let o = g.S.System.outside c.args.place.now.disk.now.system.now in
    let opens = rw c.in-Ok-Err.field-0-is at c.in-Ok-Err.ensures.made in
    no_folder o c.args.place.now.path.now c.args.place.now.manifest.now (JudgesIn o.disk o.input c.args.task.now) _ _ _ c.in-Ok-Err.refusal c.print_refusal.result opens c.print_refusal.ensures.made

pub returns-clause-made : goal.returns-clause-made
returns-clause-made g c =
    let o = g.S.System.outside c.args.place.now.disk.now.system.now in
    no_room_for_folder o c.args.place.now.path.now c.args.place.now.manifest.now (JudgesIn o.disk o.input c.args.task.now) _ _ _ _ c.print_refusal-in-Err.result c.in-Err.ensures.made c.print_refusal-in-Err.ensures.made
