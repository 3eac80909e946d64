use Rattle.std.proofs.Common.{ap}
use Rattle.move_msg.specs.ToldBy.{told_by}
use Rattle.table_commands.proofs.FolderLaws.{is_sound}
use Rattle.serve_core.proofs.ServeLaws.{bad_read, not_read, sound_read}
use Rattle.serve_core.proofs.task.sound_manifest.Goals as goal

pub returns-in-Err : goal.returns-in-Err
returns-in-Err g c = not_read (g.S.System.outside c.args.by.now.system.now) c.args.task.now _ _ c.in-Err.fault _ c.unread.ensures.is c.in-Err.ensures

pub returns-in-BadLine : goal.returns-in-BadLine
returns-in-BadLine g c = bad_read (g.S.System.outside c.args.by.now.system.now) c.args.task.now _ _ c.in-Ok.manifest c.in-BadLine.line (ap told_by c.in-BadLine.is) c.in-Ok.ensures

pub returns : goal.returns
returns g c = sound_read (g.S.System.outside c.args.by.now.system.now) c.args.task.now _ _ c.in-Ok.manifest (is_sound c.in-Ok.manifest c.in_default.not-BadLine) c.in-Ok.ensures
