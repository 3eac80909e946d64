use Rattle.std.proofs.Common.{Err, ap, refl}
use Rattle.move_msg.specs.ToldBy.{told_by}
use Rattle.system_io.proofs.HistoryLaws.{Passes-nil}
use Rattle.table_commands.specs.FolderReads.{BadLineIs, FolderIs, NoFolderIs, NoRoomForFolder}
use Rattle.table_commands.specs.Inside.LookingUp.{CannotList, HasBadLine}
use Rattle.table_commands.proofs.FolderLaws.{is_sound}
use Rattle.table_commands.proofs.folders.folder_at.Goals as goal

pub returns-in-BadLine-clause-refused : goal.returns-in-BadLine-clause-refused
returns-in-BadLine-clause-refused g c = HasBadLine c.in-BadLine.line (ap told_by c.in-BadLine.is) refl

pub returns-in-BadLine-clause-made : goal.returns-in-BadLine-clause-made
returns-in-BadLine-clause-made g c = (_, Passes-nil _, BadLineIs c.in-BadLine.line (ap told_by c.in-BadLine.is) refl refl)

pub returns-in-Ok-clause-folder : goal.returns-in-Ok-clause-folder
returns-in-Ok-clause-folder g c = record { sound = is_sound c.args.manifest.now c.in_default.not-BadLine; at = c.in-Ok.ensures.folder }

pub returns-in-Ok-clause-made : goal.returns-in-Ok-clause-made
returns-in-Ok-clause-made g c =
    let made = c.in-Ok.ensures.made in
    (made.0, made.1, FolderIs (is_sound c.args.manifest.now c.in_default.not-BadLine) c.in-Ok.folder.folder made.2 refl)

pub returns-in-Err-Unreadable-clause-refused : goal.returns-in-Err-Unreadable-clause-refused
returns-in-Err-Unreadable-clause-refused g c = CannotList (is_sound c.args.manifest.now c.in_default.not-BadLine) (c.in-Err-Unreadable.ensures.cause (ap Err c.in-Err-Unreadable.field-0-is)) refl

pub returns-in-Err-Unreadable-clause-made : goal.returns-in-Err-Unreadable-clause-made
returns-in-Err-Unreadable-clause-made g c =
    let made = rw c.in-Err-Unreadable.field-0-is at c.in-Err-Unreadable.ensures.made in
    (made.0, made.1, NoFolderIs (is_sound c.args.manifest.now c.in_default.not-BadLine) made.2 refl)

pub returns-in-Err-OutOfMemory-clause-made : goal.returns-in-Err-OutOfMemory-clause-made
returns-in-Err-OutOfMemory-clause-made g c =
    let made = rw c.in-Err-OutOfMemory.field-0-is at c.in-Err-OutOfMemory.ensures.made in
    (made.0, made.1, NoRoomForFolder (is_sound c.args.manifest.now c.in_default.not-BadLine) made.2 _ refl)
