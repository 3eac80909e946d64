use Rattle.std.proofs.Common.{refl}
use Rattle.game_reports.proofs.LookLaws.{in_lack, in_one}
use Rattle.game_reports.specs.Asked.{first_alone}
use Rattle.game_reports.specs.Inside.Opening.{known_folders}
use Rattle.game_reports.proofs.looking.read_first.Goals as goal

pub returns-in-Ok : goal.returns-in-Ok
returns-in-Ok g c = in_one (g.S.System.outside c.args.system.now) _ _ (first_alone (known_folders c.args.folders.now)) c.args.stamp c.in-Ok.one refl c.in-Ok.ensures

pub returns-in-Err : goal.returns-in-Err
returns-in-Err g c = in_lack (g.S.System.outside c.args.system.now) _ _ (first_alone (known_folders c.args.folders.now)) c.args.stamp c.in-Err.lack _ c.look_lacking.ensures c.in-Err.ensures
