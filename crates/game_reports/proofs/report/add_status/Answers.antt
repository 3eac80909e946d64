use Rattle.std.specs.Prelude.{is_some}
use Rattle.game_status.proofs.ObjectLaws.{one}
use Rattle.game_reports.specs.Inside.Opening.{known_folders}
use Rattle.game_reports.specs.Inside.Reporting.{AddsList}
use Rattle.game_reports.proofs.ReportLaws.{no_room, nothing, status_added}
use Rattle.game_reports.proofs.report.add_status.Goals as goal

pub returns-in-Err : goal.returns-in-Err
returns-in-Err g c = nothing (g.S.System.outside c.args.system.now) (known_folders c.args.folders.now) _

pub returns-in-Err-add_sums : goal.returns-in-Err-add_sums
returns-in-Err-add_sums g c =
    let f = known_folders c.args.folders.now in
    no_room (g.S.System.outside c.args.system.now) f _ _ (AddsList (is_some c.args.folders.now.other) _ _) c.in-Ok-add_list.totals c.in-Ok-add_list.ensures

pub returns : goal.returns
returns g c =
    let f = known_folders c.args.folders.now in
    let sums = rw c.is_some.ensures at c.in-Ok-add_sums.ensures in
    status_added (g.S.System.outside c.args.system.now) f (is_some c.args.folders.now.other) _ _ _ _ _ _ _ c.in-Ok-add_list.totals c.end_object.result (one _ _ _ _ c.in-Ok.ensures) sums c.end_object.ensures c.in-Ok-add_list.ensures
