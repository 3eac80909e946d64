use Rattle.game_reports.specs.Inside.Opening.{known_folders}
use Rattle.game_status.specs.Reports.{form_of}
use Rattle.game_reports.proofs.OpeningLaws.{some_known}
use Rattle.game_reports.proofs.ReportLaws.{no_room_to_report, report_put}
use Rattle.game_reports.proofs.report.print_report.Goals as goal

pub returns-in-Ok-clause-made : goal.returns-in-Ok-clause-made
returns-in-Ok-clause-made g c = report_put (g.S.System.outside c.args.system.now) (known_folders c.args.folders.now) _ _ _ (form_of c.args.form) _ c.in-Ok.text c.print_text.result (some_known c.args.folders.now.other) c.in-Ok.ensures (rw c.deref.ensures.value at c.print_text.ensures.made)

pub returns-in-Err-clause-made : goal.returns-in-Err-clause-made
returns-in-Err-clause-made g c = no_room_to_report (g.S.System.outside c.args.system.now) (known_folders c.args.folders.now) _ _ _ (form_of c.args.form) c.print_refusal.result c.in-Err.ensures c.print_refusal.ensures.made
