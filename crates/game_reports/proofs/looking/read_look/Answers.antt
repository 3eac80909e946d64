use Rattle.std.proofs.Common.{ap}
use Rattle.std.specs.Prelude.{option_map}
use Rattle.game_reports.proofs.LookLaws.{in_both, in_lack, in_one}
use Rattle.game_reports.specs.Inside.Opening.{known_folder, known_folders}
use Rattle.game_reports.proofs.looking.read_look.Goals as goal

pub returns-in-Err : goal.returns-in-Err
returns-in-Err g c = in_lack (g.S.System.outside c.args.system.now) _ _ (known_folders c.args.folders.now) c.args.stamp c.in-Err.lack _ c.look_lacking.ensures c.in-Err.ensures

pub returns-in-None : goal.returns-in-None
returns-in-None g c = in_one (g.S.System.outside c.args.system.now) _ _ (known_folders c.args.folders.now) c.args.stamp c.in-Ok.one (ap (option_map known_folder) c.in-None.is) c.in-Ok.ensures

pub returns-in-Some : goal.returns-in-Some
returns-in-Some g c = in_both (g.S.System.outside c.args.system.now) _ _ _ (known_folders c.args.folders.now) c.args.stamp c.in-Ok.one (known_folder c.in-Some.folder) _ (ap (option_map known_folder) c.in-Some.is) c.in-Ok.ensures c.look_beside.ensures
