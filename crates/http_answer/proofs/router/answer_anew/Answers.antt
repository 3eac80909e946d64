use Rattle.http_answer.specs.Games.{Anew}
use Rattle.http_answer.specs.Inside.{report_in}
use Rattle.http_answer.proofs.router.answer_anew.Goals as goal

pub returns-clause-report : goal.returns-clause-report
returns-clause-report g c = (report_in c.in_ok-report.report, c.in_ok-report.ensures.report, c.in_ok-fill_report.ensures, Anew c.requires.stale c.keep.ensures.kept)
