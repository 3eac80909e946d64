use Rattle.std.proofs.Common.{ap}
use Rattle.std.specs.Prelude.{Err}
use Rattle.task_files.proofs.InputReadLaws.{lines_read, lines_unread}
use Rattle.task_files.proofs.input_reading.manifest_at.Goals as goal

pub returns-in-Ok : goal.returns-in-Ok
returns-in-Ok g c =
    let o = g.S.System.outside c.args.system.now in
    let lines = rw c.deref.ensures.value at c.manifest_of.ensures in
    rw c.in-Some.is (lines_read o _ _ c.in-Some.path.now c.in-Ok.text.items c.manifest_of.result c.in-Ok.ensures.bytes c.in-Ok.ensures.short c.in-Ok.ensures.made lines)

pub returns-in-Err : goal.returns-in-Err
returns-in-Err g c =
    let o = g.S.System.outside c.args.system.now in
    rw c.in-Some.is (lines_unread o _ _ c.in-Some.path.now c.in-Err.fault (λ is. c.in-Err.ensures.cause (ap Err is)) c.in-Err.ensures.made)
