use Rattle.std.proofs.Common.{◌∷◌, [], ap, map, refl}
use Rattle.std.specs.Prelude.{Ok, Err, string_bytes}
use Rattle.host_commands.proofs.ListLaws.{barred_so}
use Rattle.host_commands.specs.Listings.{IsListed, IsNotListed}
use Rattle.timeline.specs.Events.{FolderListed}
use Rattle.host_commands.proofs.listing.list_games.Goals as goal

pub returns-in-Err : goal.returns-in-Err
returns-in-Err g c =
    let fault = c.in-Err.fault in
    (FolderListed c.args.folder.now (Err fault) ∷ [], c.in-Err.ensures.made, IsNotListed fault (record { cause = λ is. c.in-Err.ensures.cause (ap Err is); is = refl }) (ap Err c.unread.ensures.words))

pub returns-in-Some : goal.returns-in-Some
returns-in-Some g c =
    let listed = c.in-Ok.ensures in
    barred_so (g.S.System.outside c.args.system.now) c.args.folder.now c.args.form _ _ _ (map string_bytes c.in-Ok.names.items) c.in-Some.clash.now listed.listed (rw c.deref.ensures.value at c.in-Some.ensures.some) listed.made c.note_clash.ensures

pub returns : goal.returns
returns g c =
    let listed = c.in-Ok.ensures in
    let names = map string_bytes c.in-Ok.names.items in
    (FolderListed c.args.folder.now (Ok names) ∷ [], listed.made, IsListed names (record { lists = listed.listed; is = refl }) (rw c.deref.ensures.value at c.in-None.ensures.none) refl)
