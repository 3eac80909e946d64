use Rattle.std.proofs.Common.{◌≡◌, ◌∙◌, ap, refl}
use Rattle.std.specs.Prelude.{is_some}
use Rattle.game_status.specs.Metrics.{metrics_text}
use Rattle.game_status.specs.Reports.{metrics_form}
use Rattle.game_reports.specs.Inside.Opening.{known_folders}
use Rattle.game_reports.specs.Inside.Reporting.{AreCounted, IsText}
use Rattle.game_reports.proofs.ReportLaws.{last_step, metrics_by}
use Rattle.game_reports.proofs.report.metrics_of.Goals as goal

pub returns-in-Ok : goal.returns-in-Ok
returns-in-Ok g c =
    let f = known_folders c.args.folders.now in
    last_step (g.S.System.outside c.args.system.now) f _ _ AreCounted (IsText metrics_form (is_some c.args.folders.now.other)) c.in-Ok.totals c.metrics_text.result (metrics_by (is_some c.args.folders.now.other) c.in-Ok.totals c.metrics_text.result (rw c.is_some.ensures at c.metrics_text.ensures)) c.in-Ok.ensures
