use Rattle.std.proofs.Common.{subst, sym}
use Rattle.pgn_teller.specs.Reports.{begun, terms_of}
use Rattle.table_commands.proofs.PgnLaws.{games_lost, games_reported, games_unopened}
use Rattle.table_commands.proofs.pgn.report_file.Goals as goal

pub returns-in-Err-clause-made : goal.returns-in-Err-clause-made
returns-in-Err-clause-made g c =
    games_unopened (g.S.System.outside c.args.system.now) c.args.task.now (g.R.GameRuler.rules c.args.ruler) (g.R.GameRuler.known c.args.ruler) _ _ _ c.in-Err.fault c.print_unread.result c.in-Err.ensures c.print_unread.ensures.made

pub report-requires : goal.report-requires
report-requires g c = subst (λ r. g.R.GameRuler.reads_from r c.args.system.now) (sym c.reporter_by-reporter.ensures.ruler) c.requires

pub returns-in-Ok-report-clause-made : goal.returns-in-Ok-report-clause-made
returns-in-Ok-report-clause-made g c =
    let made = rw c.reporter_by-reporter.ensures.ruler at c.in-Ok-report.ensures.made in
    games_reported (g.S.System.outside c.args.system.now) c.args.task.now (g.R.GameRuler.rules c.args.ruler) (g.R.GameRuler.known c.args.ruler) _ _ _ c.in-Ok.lines (terms_of c.reporter_by-reporter.result) c.in-Ok-report.well c.status_if.result c.reporter_by-reporter.ensures.terms c.status_if.ensures c.in-Ok.ensures made

pub returns-clause-made : goal.returns-clause-made
returns-clause-made g c =
    let made = rw c.reporter_by-reporter.ensures.ruler at c.in-Err-report.ensures.made in
    games_lost (g.S.System.outside c.args.system.now) c.args.task.now (g.R.GameRuler.rules c.args.ruler) (g.R.GameRuler.known c.args.ruler) _ _ _ c.in-Ok.lines (terms_of c.reporter_by-reporter.result) c.in-Err-report.fault c.in-Err-report.fault c.reporter_by-reporter.ensures.terms c.in-Ok.ensures made
