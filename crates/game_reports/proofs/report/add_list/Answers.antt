use Rattle.std.specs.Prelude.{codes, is_some}
use Rattle.game_status.proofs.ObjectLaws.{listed, one}
use Rattle.game_reports.specs.Inside.Opening.{known_folders}
use Rattle.game_reports.specs.Inside.Reporting.{AddsGames, AddsList}
use Rattle.game_reports.proofs.ReportLaws.{made, no_room, nothing}
use Rattle.game_reports.proofs.report.add_list.Goals as goal

pub returns-in-Err : goal.returns-in-Err
returns-in-Err g c = nothing (g.S.System.outside c.args.system.now) (known_folders c.args.folders.now) _

pub returns-in-Err-begin_array : goal.returns-in-Err-begin_array
returns-in-Err-begin_array g c = nothing (g.S.System.outside c.args.system.now) (known_folders c.args.folders.now) _

pub returns-in-Ok-end_array : goal.returns-in-Ok-end_array
returns-in-Ok-end_array g c =
    let f = known_folders c.args.folders.now in
    let compares = is_some c.args.folders.now.other in
    made (g.S.System.outside c.args.system.now) f _ _ (AddsGames compares _ _) (AddsList compares _ _) c.in-Ok-add_games.totals c.in-Ok-add_games.totals
    (λ found h. (listed _ _ _ _ _ (codes "games") compares found (one _ _ _ _ c.in-Ok.ensures) (one _ _ _ _ c.in-Ok-begin_array.ensures) h.0 (one _ _ _ _ c.in-Ok-end_array.ensures), h.1))
    c.in-Ok-add_games.ensures

pub returns-in-Err-end_array : goal.returns-in-Err-end_array
returns-in-Err-end_array g c =
    let f = known_folders c.args.folders.now in
    no_room (g.S.System.outside c.args.system.now) f _ _ (AddsGames (is_some c.args.folders.now.other) _ _) c.in-Ok-add_games.totals c.in-Ok-add_games.ensures
