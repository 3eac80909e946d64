use Rattle.std.proofs.Common.{◌∙◌}
use Rattle.std.specs.Prelude.{is_some}
use Rattle.game_status.specs.Reports.{json_form}
use Rattle.game_reports.specs.Inside.Opening.{known_folders}
use Rattle.game_reports.specs.Inside.Reporting.{AddsStatus, IsText}
use Rattle.game_reports.proofs.ReportLaws.{last_step, object_by}
use Rattle.game_reports.proofs.report.object_of.Goals as goal

pub returns-in-Ok : goal.returns-in-Ok
returns-in-Ok g c =
    let f = known_folders c.args.folders.now in
    let compares = is_some c.args.folders.now.other in
    last_step (g.S.System.outside c.args.system.now) f _ _ (λ found _. AddsStatus compares c.new-text.result c.add_status.new.text found) (IsText json_form compares) (tt {0}) c.line_of.result
    (object_by compares c.new-text.result c.add_status.new.text c.line_of.result (c.new-text.ensures.before ∙ c.new.ensures.items) c.new-text.ensures.tokens c.line_of.ensures.line c.line_of.ensures.reads_back)
    c.in-Ok.ensures
