use Rattle.std.proofs.Common.{ap}
use Rattle.std.specs.Prelude.{Err}
use Rattle.task_files.proofs.InputReadLaws.{file_read, file_unread}
use Rattle.answer_commands.proofs.StampLaws.{file_is, file_isnt, first_bad, line_bad, no_room_for_lines}
use Rattle.answer_commands.proofs.stamping.file_manifest.Goals as goal

pub returns-in-Err : goal.returns-in-Err
returns-in-Err g c =
    let o = g.S.System.outside c.args.system.now in
    let path = c.args.path.now in
    file_isnt o _ _ path _ c.in-Err.fault c.unread.ensures.words (file_unread o _ _ path _ _ c.in-Err.fault (λ is. c.in-Err.ensures.cause (ap Err is)) c.in-Err.ensures.made)

pub returns-in-Ok-manifest_read : goal.returns-in-Ok-manifest_read
returns-in-Ok-manifest_read g c =
    let o = g.S.System.outside c.args.system.now in
    let path = c.args.path.now in
    file_is o _ _ path c.in-Ok.text.items _ (rw c.deref.ensures.value at c.in-Ok-manifest_read.ensures.ok) (file_read o _ _ path c.in-Ok.text.items _ _ (c.in-Ok.ensures.bytes, c.in-Ok.ensures.short) c.in-Ok.ensures.made)

pub returns-in-Err-BadLine : goal.returns-in-Err-BadLine
returns-in-Err-BadLine g c =
    let o = g.S.System.outside c.args.system.now in
    let path = c.args.path.now in
    let found = rw c.deref.ensures.value at c.in-Err-BadLine.ensures.err in
    let first = first_bad c.in-Ok.text.items c.in-Err-BadLine.number c.in-Err-BadLine.field-0 c.in-Err-BadLine.field-0-is found in
    line_bad o _ _ path c.in-Ok.text.items c.in-Err-BadLine.number first (file_read o _ _ path c.in-Ok.text.items _ _ (c.in-Ok.ensures.bytes, c.in-Ok.ensures.short) c.in-Ok.ensures.made)

pub returns : goal.returns
returns g c =
    let o = g.S.System.outside c.args.system.now in
    let path = c.args.path.now in
    no_room_for_lines o _ _ path c.in-Ok.text.items (file_read o _ _ path c.in-Ok.text.items _ _ (c.in-Ok.ensures.bytes, c.in-Ok.ensures.short) c.in-Ok.ensures.made)
