use Rattle.std.proofs.Common.{◌≡◌, None, Some}
use Rattle.std.specs.Prelude.{IfNone, IfSome}
use Rattle.std.proofs.lemmas.Option.{IfSome_then}
use Rattle.game_status.specs.declared.report.ReportForm.TheVariants.{Json, Metrics}
use Rattle.http_answer.specs.Games.{IsReport, fresh_at, kept_by}
use Rattle.http_answer.specs.Inside.{report_in}
use Rattle.http_answer.specs.Times.{nanos}
use Rattle.http_answer.proofs.ReportLaws.{fresh_is_report, so_by}
use Rattle.http_answer.proofs.games.Games.fresh.Goals as goal

pub returns-in-Json-clause-some : goal.returns-in-Json-clause-some
returns-in-Json-clause-some g c =
    rw c.in-Json.is (so_by _ _ (λ s. IfSome c.fresh_report.result (λ r. fresh_at (nanos c.args.now) (kept_by Json s) ≡ Some (report_in r.now))) c.self.view_is c.fresh_report.ensures.some)

pub returns-in-Json-clause-none : goal.returns-in-Json-clause-none
returns-in-Json-clause-none g c =
    rw c.in-Json.is (so_by _ _ (λ s. IfNone c.fresh_report.result (fresh_at (nanos c.args.now) (kept_by Json s) ≡ None)) c.self.view_is c.fresh_report.ensures.none)

pub returns-in-Json-clause-report : goal.returns-in-Json-clause-report
returns-in-Json-clause-report g c =
    let outside = g.S.System.outside in
    rw c.in-Json.is (so_by _ _ (λ s. IfSome c.fresh_report.result (λ r. IsReport outside s.on Json (report_in r.now))) c.self.view_is
    (IfSome_then c.fresh_report.result c.fresh_report.ensures.some (λ r fresh. fresh_is_report outside _ Json (nanos c.args.now) c.self.inside.json (report_in r.now) c.self.invariant.0 fresh)))

pub returns-in-Metrics-clause-some : goal.returns-in-Metrics-clause-some
returns-in-Metrics-clause-some g c =
    rw c.in-Metrics.is (so_by _ _ (λ s. IfSome c.fresh_report-in-Metrics.result (λ r. fresh_at (nanos c.args.now) (kept_by Metrics s) ≡ Some (report_in r.now))) c.self.view_is c.fresh_report-in-Metrics.ensures.some)

pub returns-in-Metrics-clause-none : goal.returns-in-Metrics-clause-none
returns-in-Metrics-clause-none g c =
    rw c.in-Metrics.is (so_by _ _ (λ s. IfNone c.fresh_report-in-Metrics.result (fresh_at (nanos c.args.now) (kept_by Metrics s) ≡ None)) c.self.view_is c.fresh_report-in-Metrics.ensures.none)

pub returns-in-Metrics-clause-report : goal.returns-in-Metrics-clause-report
returns-in-Metrics-clause-report g c =
    let outside = g.S.System.outside in
    rw c.in-Metrics.is (so_by _ _ (λ s. IfSome c.fresh_report-in-Metrics.result (λ r. IsReport outside s.on Metrics (report_in r.now))) c.self.view_is
    (IfSome_then c.fresh_report-in-Metrics.result c.fresh_report-in-Metrics.ensures.some (λ r fresh. fresh_is_report outside _ Metrics (nanos c.args.now) c.self.inside.metrics (report_in r.now) c.self.invariant.1 fresh)))
