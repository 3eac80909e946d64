use Rattle.std.proofs.Common.{◌∷◌, [], ap, refl}
use Rattle.std.specs.Prelude.{Ok, Err}
use Rattle.host_commands.specs.Inside.Importing.{IsUnread, NoRoomToDecode}
use Rattle.system_io.specs.declared.reading.ReadFault.TheVariants as read
use Rattle.timeline.specs.Events.{FileRead}
use Rattle.host_commands.proofs.arriving.record_at.Goals as goal

pub returns-in-Err-Unreadable : goal.returns-in-Err-Unreadable
returns-in-Err-Unreadable g c =
    let failed = c.in-Err-Unreadable.ensures in
    (FileRead c.args.path.now (Err read.Unreadable) ∷ [], rw c.in-Err-Unreadable.field-0-is at failed.made, IsUnread read.Unreadable (λ is. failed.cause (ap Err c.in-Err-Unreadable.field-0-is)) refl refl)

pub returns-in-Err-OutOfMemory : goal.returns-in-Err-OutOfMemory
returns-in-Err-OutOfMemory g c =
    let failed = c.in-Err-OutOfMemory.ensures in
    (FileRead c.args.path.now (Err read.OutOfMemory) ∷ [], rw c.in-Err-OutOfMemory.field-0-is at failed.made, IsUnread read.OutOfMemory (λ is. absurd (cc)) refl refl)

pub returns-in-Err : goal.returns-in-Err
returns-in-Err g c = (FileRead c.args.path.now (Ok c.in-Ok.record.items) ∷ [], c.in-Ok.ensures.made, NoRoomToDecode c.in-Ok.record.items refl refl)
