use Rattle.std.proofs.lemmas.Result.{IfOk-weaker}
use Rattle.http_answer.specs.Games.{IsReport}
use Rattle.http_answer.specs.Inside.{report_in}
use Rattle.http_answer.specs.Reads.{ReadsAReport, ReadsIn}
use Rattle.http_answer.proofs.ReportLaws.{so_by}
use Rattle.http_answer.proofs.games.Games.read.Goals as goal

pub returns-clause-report : goal.returns-clause-report
returns-clause-report g c = IfOk-weaker c.report.result _ _ (λ r is. so_by _ _ (λ s. IsReport g.S.System.outside s.on c.args.form (report_in r)) c.self.view_is is) c.report.ensures.report

pub returns-clause-made : goal.returns-clause-made
returns-clause-made g c = so_by _ _ (λ s. ReadsIn g.S.System.outside s.on c.args.timeline.now c.report.new.timeline (λ o folders. ReadsAReport o folders c.args.form)) c.self.view_is c.report.ensures.made
