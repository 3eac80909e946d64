use Rattle.answer_parts.proofs.PrintLaws.{does_so}
use Rattle.game_status.specs.Reports.{form_of}
use Rattle.game_reports.specs.GameLines.{TellsGames}
use Rattle.game_reports.specs.Inside.Opening.{known_folders}
use Rattle.game_reports.specs.Statuses.{IsStatusLine, ReportsGames, WritesReport}
use Rattle.game_reports.proofs.status.report_games.Goals as goal

pub returns-in-None-clause-made : goal.returns-in-None-clause-made
returns-in-None-clause-made g c =
    let o = g.S.System.outside c.args.system.now in
    let f = known_folders c.args.folders.now in
    does_so o _ _ (TellsGames o.disk IsStatusLine f) (ReportsGames o.disk c.args.report f) c.print_games.result (λ events is h. rw c.in-None.is h) c.print_games.ensures.made

pub returns-in-Some-clause-made : goal.returns-in-Some-clause-made
returns-in-Some-clause-made g c =
    let o = g.S.System.outside c.args.system.now in
    let f = known_folders c.args.folders.now in
    does_so o _ _ (WritesReport o.disk (form_of c.in-Some.form) f) (ReportsGames o.disk c.args.report f) c.print_report.result (λ events is h. rw c.in-Some.is h) c.print_report.ensures.made
