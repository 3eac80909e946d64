use Rattle.std.proofs.Common.{refl}
use Rattle.std.proofs.lemmas.Result.{on_ok_weaker}
use Rattle.http_answer.specs.Games.{Again}
use Rattle.http_answer.specs.Inside.{report_in}
use Rattle.http_answer.specs.Times.{nanos}
use Rattle.http_answer.proofs.ReadLaws.{report_again, report_anew}
use Rattle.http_answer.proofs.router.answer_report.Goals as goal

pub returns-in-Some-clause-report : goal.returns-in-Some-clause-report
returns-in-Some-clause-report g c =
    on_ok_weaker c.fill_report.result (λ has. (report_in c.in-Some.report.now, c.in-Some.ensures.report, has, (nanos c.time-now.result, c.time-now.ensures, Again c.in-Some.ensures.some refl))) c.fill_report.ensures

pub returns-in-None-clause-report : goal.returns-in-None-clause-report
returns-in-None-clause-report g c =
    on_ok_weaker c.answer_anew.result (λ (report, is, has, at). (report, is, has, (nanos c.time-now.result, c.time-now.ensures, at))) c.answer_anew.ensures.report

pub returns-in-Some-clause-made : goal.returns-in-Some-clause-made
returns-in-Some-clause-made g c = report_again g.S.System.outside _ _ _

pub returns-in-None-clause-made : goal.returns-in-None-clause-made
returns-in-None-clause-made g c = report_anew g.S.System.outside _ _ _ _ c.answer_anew.ensures.made
