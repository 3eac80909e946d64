use Rattle.game_status.specs.declared.report.ReportForm.TheVariants.{Json, Metrics}
use Rattle.http_answer.proofs.ReportLaws.{kept_same, kept_so}
use Rattle.http_answer.proofs.games.Games.keep.Goals as goal

pub returns-in-Json : goal.returns-in-Json
returns-in-Json g c = record { kept = rw c.in-Json.is (kept_same Json _ _ _ _ c.self.view_is (kept_so c.args.now c.args.report c.keep_at.new.kept c.keep_at.ensures)) }

pub returns-in-Metrics : goal.returns-in-Metrics
returns-in-Metrics g c = record { kept = rw c.in-Metrics.is (kept_same Metrics _ _ _ _ c.self.view_is (kept_so c.args.now c.args.report c.keep_at-in-Metrics.new.kept c.keep_at-in-Metrics.ensures)) }
