use Rattle.std.proofs.Common.{ap, map}
use Rattle.move_msg.specs.Manifests.{SpellsManifest, entry_of}
use Rattle.answer_commands.proofs.ListLaws.{entries_kept}
use Rattle.answer_commands.proofs.StampLaws.{folder_is, folder_isnt, no_room_for_text}
use Rattle.answer_commands.proofs.stamping.folder_manifest.Goals as goal

pub returns-in-Err : goal.returns-in-Err
returns-in-Err g c = folder_isnt (g.S.System.outside c.args.system.now) _ _ c.args.folder.now _ c.in-Err.fault c.unread.ensures.words c.in-Err.ensures

pub manifest_write-requires : goal.manifest_write-requires
manifest_write-requires g c =
    let looked = c.in-Ok.ensures.2 in
    rw c.deref.ensures.value (entries_kept c.in-Ok.lines.items looked.files looked.made looked.order)

pub returns-in-Ok-manifest_write : goal.returns-in-Ok-manifest_write
returns-in-Ok-manifest_write g c = folder_is (g.S.System.outside c.args.system.now) _ _ c.args.folder.now c.in-Ok-manifest_write.text.items c.in-Ok.lines.items (rw c.deref.ensures.value at c.in-Ok-manifest_write.ensures) c.in-Ok.ensures

pub returns : goal.returns
returns g c = no_room_for_text (g.S.System.outside c.args.system.now) _ _ c.args.folder.now c.in-Ok.lines.items c.in-Ok.ensures
