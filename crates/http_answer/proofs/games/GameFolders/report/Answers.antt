use Rattle.http_answer.specs.Games.{games_on}
use Rattle.http_answer.proofs.ReadLaws.{report_at}
use Rattle.http_answer.proofs.ReportLaws.{lacks_report, read_so}
use Rattle.http_answer.proofs.games.GameFolders.report.Goals as goal

pub returns-in-Ok-Ok-clause-report : goal.returns-in-Ok-Ok-clause-report
returns-in-Ok-Ok-clause-report g c = read_so g.S.System.outside (games_on c.args.self.now) _ _ c.args.form c.in-Ok-Ok.text (rw c.in-Ok-Ok.field-0-is at c.in-Ok-Ok.ensures)

pub returns-in-Ok-clause-report : goal.returns-in-Ok-clause-report
returns-in-Ok-clause-report g c = lacks_report g.S.System.outside (games_on c.args.self.now) _ _ c.args.form c.in-Ok-Err.refusal c.in-Ok.lacked (rw c.in-Ok-Err.field-0-is at c.in-Ok-Err.ensures) c.in-Ok.ensures

pub returns-in-Ok-Ok-clause-made : goal.returns-in-Ok-Ok-clause-made
returns-in-Ok-Ok-clause-made g c = report_at g.S.System.outside _ _ _ _ _ _ _ c.read_report.ensures

pub returns-in-Ok-clause-made : goal.returns-in-Ok-clause-made
returns-in-Ok-clause-made g c = report_at g.S.System.outside _ _ _ _ _ _ _ c.read_report.ensures

pub returns-in-Err-lacked_by-clause-made : goal.returns-in-Err-lacked_by-clause-made
returns-in-Err-lacked_by-clause-made g c = report_at g.S.System.outside _ _ _ _ _ _ _ c.read_report.ensures

pub returns-in-Err-clause-made : goal.returns-in-Err-clause-made
returns-in-Err-clause-made g c = report_at g.S.System.outside _ _ _ _ _ _ _ c.read_report.ensures
