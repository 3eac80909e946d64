use Rattle.game_reports.proofs.LookLaws.{is_none, is_side, lacks_entry, no_room_for_side}
use Rattle.game_reports.specs.Inside.Opening.{known_folder}
use Rattle.game_reports.proofs.looking.read_side.Goals as goal

pub returns-in-Err : goal.returns-in-Err
returns-in-Err g c = lacks_entry (g.S.System.outside c.args.system.now) _ _ (known_folder c.args.folder.now) c.args.stamp c.in-Err.lack c.in-Err.ensures

pub returns-in-Ok-Ok : goal.returns-in-Ok-Ok
returns-in-Ok-Ok g c = is_side (g.S.System.outside c.args.system.now) _ _ (known_folder c.args.folder.now) c.args.stamp c.in-Ok.entry c.in-Ok-Ok.side (rw c.in-Ok-Ok.field-0-is at c.in-Ok-Ok.ensures.side) c.in-Ok.ensures

pub returns-in-Ok-Err : goal.returns-in-Ok-Err
returns-in-Ok-Err g c = is_none (g.S.System.outside c.args.system.now) _ _ (known_folder c.args.folder.now) c.args.stamp c.in-Ok.entry c.in-Ok-Err.fault (rw c.in-Ok-Err.field-0-is at c.in-Ok-Err.ensures.fault) c.in-Ok.ensures

pub returns-in-Err-side_of : goal.returns-in-Err-side_of
returns-in-Err-side_of g c = no_room_for_side (g.S.System.outside c.args.system.now) _ _ (known_folder c.args.folder.now) c.args.stamp c.in-Ok.entry c.in-Ok.ensures
