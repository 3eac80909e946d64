use Rattle.std.proofs.Common.{◌∷◌, [], ap, map, refl}
use Rattle.std.specs.Prelude.{Ok, Err, string_bytes}
use Rattle.host_commands.specs.Inside.Importing.{NoNames, NoRoomForThem}
use Rattle.timeline.specs.Events.{FolderListed}
use Rattle.host_commands.proofs.importing.list_kept.Goals as goal

pub returns-in-Err : goal.returns-in-Err
returns-in-Err g c =
    let fault = c.in-Err.fault in
    (FolderListed c.args.folder.now (Err fault) ∷ [], c.in-Err.ensures.made, NoNames fault (record { cause = λ is. c.in-Err.ensures.cause (ap Err is); is = refl }) c.unread.ensures.words)

pub returns : goal.returns
returns g c =
    let names = map string_bytes c.in-Ok.names.items in
    (FolderListed c.args.folder.now (Ok names) ∷ [], c.in-Ok.ensures.made, NoRoomForThem names (record { lists = c.in-Ok.ensures.listed; is = refl }) refl)
