use Rattle.std.proofs.Common.{◌∙◌, ap}
use Rattle.std.specs.Prelude.{Err}
use Rattle.task_files.proofs.InputReadLaws.{file_read, file_unread}
use Rattle.game_reports.proofs.GameRecordLaws.{file_put, file_refused, no_path}
use Rattle.game_reports.proofs.game_record.print_filed.Goals as goal

pub returns-in_default-clause-made : goal.returns-in_default-clause-made
returns-in_default-clause-made g c = no_path (g.S.System.outside c.args.system.now) _ _ c.args.task.now c.print_refusal.result c.print_refusal.ensures.made

pub returns-in-Ok-read-clause-made : goal.returns-in-Ok-read-clause-made
returns-in-Ok-read-clause-made g c =
    let o = g.S.System.outside c.args.system.now in
    let path = c.as_str.result.now in
    let read = c.in-Ok-read.ensures in
    file_put o _ _ _ c.args.task.now path c.in-Ok-read.bytes.items c.print_text.result (c.as_str.ensures.value ∙ c.in-Ok.ensures) (file_read o _ _ path c.in-Ok-read.bytes.items _ _ (read.bytes, read.short) read.made) (rw c.deref.ensures.value at c.print_text.ensures.made)

pub returns-clause-made : goal.returns-clause-made
returns-clause-made g c =
    let o = g.S.System.outside c.args.system.now in
    let path = c.as_str.result.now in
    let read = c.in-Err.ensures in
    file_refused o _ _ _ c.args.task.now path c.in-Err.fault c.print_unread.result (c.as_str.ensures.value ∙ c.in-Ok.ensures) (file_unread o _ _ path _ _ c.in-Err.fault (λ is. read.cause (ap Err is)) read.made) c.print_unread.ensures.made
