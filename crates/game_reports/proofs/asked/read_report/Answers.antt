use Rattle.game_reports.proofs.OpeningLaws.{some_known}
use Rattle.game_reports.proofs.AskedLaws.{no_room_to_report, report_refused, reported}
use Rattle.game_reports.specs.Inside.Opening.{known_folders}
use Rattle.game_reports.proofs.asked.read_report.Goals as goal

pub returns-in-Err : goal.returns-in-Err
returns-in-Err g c = report_refused (g.S.System.outside c.args.system.now) _ _ _ _ c.args.form c.in-Err.refusal c.in-Err.ensures

pub returns-in-Ok-text_of : goal.returns-in-Ok-text_of
returns-in-Ok-text_of g c = reported (g.S.System.outside c.args.system.now) _ _ _ _ _ c.args.form (known_folders c.in-Ok.folders) _ c.in-Ok-text_of.text (some_known c.in-Ok.folders.other) c.in-Ok.ensures c.in-Ok-text_of.ensures

pub returns : goal.returns
returns g c = no_room_to_report (g.S.System.outside c.args.system.now) _ _ _ _ _ c.args.form (known_folders c.in-Ok.folders) c.in-Ok.ensures c.in-Err-text_of.ensures
