use Rattle.std.proofs.Common.{ap}
use Rattle.pgn_teller.specs.Reports.{Terms, begun, terms_of}
use Rattle.pgn_teller.proofs.ReportLaws.{games_lost, with_sums, without_sums}
use Rattle.pgn_teller.proofs.reporting.report.Goals as goal

pub returns-in-Ok-Some-clause-made : goal.returns-in-Ok-Some-clause-made
returns-in-Ok-Some-clause-made g c =
    let o = g.S.System.outside c.args.system.now in
    let lines = o.lines c.args.lines.now in
    let made = rw c.in-Ok-Some.field-0-is at c.in-Ok-Some.ensures.made in
    with_sums o (g.R.GameRuler.rules c.args.reporter.now.ruler) (terms_of c.args.reporter.now) lines.fails (begun lines.left (g.R.GameRuler.known c.args.reporter.now.ruler)) _ _ _ c.in-Ok-Some.sums c.report_games.new.reporter.form c.write_sums.result (ap (λ (t : Terms). t.form) c.in-Ok-Some.ensures.same) made c.write_sums.ensures.made

pub returns-in-Ok-None-clause-made : goal.returns-in-Ok-None-clause-made
returns-in-Ok-None-clause-made g c =
    let o = g.S.System.outside c.args.system.now in
    let lines = o.lines c.args.lines.now in
    let made = rw c.in-Ok-None.field-0-is at c.in-Ok-None.ensures.made in
    without_sums o (g.R.GameRuler.rules c.args.reporter.now.ruler) (terms_of c.args.reporter.now) lines.fails (begun lines.left (g.R.GameRuler.known c.args.reporter.now.ruler)) _ _ made

pub returns-in-Err-clause-made : goal.returns-in-Err-clause-made
returns-in-Err-clause-made g c =
    let o = g.S.System.outside c.args.system.now in
    let lines = o.lines c.args.lines.now in
    games_lost o (g.R.GameRuler.rules c.args.reporter.now.ruler) (terms_of c.args.reporter.now) lines.fails (begun lines.left (g.R.GameRuler.known c.args.reporter.now.ruler)) _ _ c.in-Err.fault c.in-Err.fault c.in-Err.ensures.made
