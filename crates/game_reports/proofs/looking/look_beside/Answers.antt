use Rattle.game_reports.proofs.LookLaws.{has_beside, lacks_beside, no_room_beside}
use Rattle.game_reports.specs.Inside.Opening.{known_folder}
use Rattle.game_reports.proofs.looking.look_beside.Goals as goal

pub returns-in-Ok : goal.returns-in-Ok
returns-in-Ok g c = has_beside (g.S.System.outside c.args.system.now) _ _ c.args.one c.in-Ok.other (known_folder c.args.folder.now) c.args.stamp c.look_at_both.result c.look_at_both.ensures c.in-Ok.ensures

pub returns-in-Err-AtFault : goal.returns-in-Err-AtFault
returns-in-Err-AtFault g c = lacks_beside (g.S.System.outside c.args.system.now) _ _ c.args.one (known_folder c.args.folder.now) c.args.stamp c.in-Err-AtFault.fault (rw c.in-Err-AtFault.field-0-is at c.in-Err-AtFault.ensures)

pub returns : goal.returns
returns g c = no_room_beside (g.S.System.outside c.args.system.now) _ _ c.args.one (known_folder c.args.folder.now) c.args.stamp (rw c.in-Err-NoRoom.field-0-is at c.in-Err-NoRoom.ensures)
