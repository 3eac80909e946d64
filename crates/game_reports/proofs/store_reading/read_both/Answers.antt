use Rattle.std.proofs.Common.{◌≡◌, ap}
use Rattle.std.specs.Prelude.{Err}
use Rattle.system_io.specs.Disks.{AtFile}
use Rattle.system_io.specs.declared.reading.ReadFault.TheVariants.{Unreadable}
use Rattle.task_files.proofs.InputReadLaws.{file_read, file_unread}
use Rattle.game_reports.specs.Inside.StoreReading.{folder_of}
use Rattle.game_reports.proofs.StoreLaws.{both_done, both_half, both_undone}
use Rattle.game_reports.proofs.store_reading.read_both.Goals as goal

pub returns-in-Err : goal.returns-in-Err
returns-in-Err g c =
    let o = g.S.System.outside c.args.system.now in
    let s = folder_of c.args.store.now in
    let cause : c.in-Err.fault ≡ Unreadable → o.disk.fails (AtFile s.db) = λ is. rw c.as_str.ensures.value at (c.in-Err.ensures.cause (ap Err is)) in
    both_undone o _ _ s c.in-Err.fault (file_unread o _ _ s.db _ _ c.in-Err.fault cause (rw c.as_str.ensures.value at c.in-Err.ensures.made))

pub returns-in-Ok-read_log : goal.returns-in-Ok-read_log
returns-in-Ok-read_log g c =
    let o = g.S.System.outside c.args.system.now in
    let s = folder_of c.args.store.now in
    both_done o _ _ _ s c.in-Ok.db.items c.in-Ok-read_log.log.items (file_read o _ _ s.db c.in-Ok.db.items _ _ (rw c.as_str.ensures.value at c.in-Ok.ensures.bytes, c.in-Ok.ensures.short) (rw c.as_str.ensures.value at c.in-Ok.ensures.made)) c.in-Ok-read_log.ensures

pub returns-in-Err-read_log : goal.returns-in-Err-read_log
returns-in-Err-read_log g c =
    let o = g.S.System.outside c.args.system.now in
    let s = folder_of c.args.store.now in
    both_half o _ _ _ s c.in-Ok.db.items c.in-Err-read_log.fault (file_read o _ _ s.db c.in-Ok.db.items _ _ (rw c.as_str.ensures.value at c.in-Ok.ensures.bytes, c.in-Ok.ensures.short) (rw c.as_str.ensures.value at c.in-Ok.ensures.made)) c.in-Err-read_log.ensures
