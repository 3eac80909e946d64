use Rattle.std.proofs.Common.{ap}
use Rattle.pgn_games.specs.Shown.{reading_of}
use Rattle.pgn_teller.specs.Reports.{Terms, terms_of}
use Rattle.pgn_teller.proofs.ReportLaws.{reading_refused, reading_reported}
use Rattle.pgn_teller.proofs.reporting.report_reading.Goals as goal

pub returns-in-Ok-clause-made : goal.returns-in-Ok-clause-made
returns-in-Ok-clause-made g c =
    reading_reported (g.S.System.outside c.args.system.now) (g.R.GameRuler.rules c.args.reporter.now.ruler) _ _ _ _ _ (terms_of c.args.reporter.now) c.args.number (reading_of c.args.reading.now) c.in-Ok.line c.text_of_reading.new.reporter.only_differing c.write_line.result (ap (λ (t : Terms). t.only_differing) c.in-Ok.ensures.same) c.in-Ok.ensures.made c.write_line.ensures.made

pub returns-in-Err-clause-made : goal.returns-in-Err-clause-made
returns-in-Err-clause-made g c =
    reading_refused (g.S.System.outside c.args.system.now) (g.R.GameRuler.rules c.args.reporter.now.ruler) _ _ _ _ _ (terms_of c.args.reporter.now) c.args.number (reading_of c.args.reading.now) c.print_unread.result c.in-Err.ensures.made c.print_unread.ensures.made
