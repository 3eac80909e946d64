use Rattle.std.proofs.Common.{ap, refl}
use Rattle.std.specs.Prelude.{Err}
use Rattle.pgn_games.specs.Shown.{reading_of}
use Rattle.pgn_teller.specs.Inside.Steps.{stage_of}
use Rattle.pgn_teller.specs.Reports.{terms_of}
use Rattle.pgn_teller.proofs.ReportLaws.{next_none, next_reported, next_unread, rules_same}
use Rattle.pgn_teller.proofs.reporting.report_next.Goals as goal

pub returns-in-Ok-Some-clause-made : goal.returns-in-Ok-Some-clause-made
returns-in-Ok-Some-clause-made g c =
    let o = g.S.System.outside c.args.system.now in
    let known = g.R.GameRuler.known in
    let lines = o.lines c.args.lines.now in
    next_reported o (g.R.GameRuler.rules c.args.reporter.now.ruler) (terms_of c.args.reporter.now) lines.fails c.args.number (stage_of lines.left c.args.at.now (known c.args.reporter.now.ruler)) (stage_of (o.lines c.next_game.new.lines).left c.next_game.new.self (known c.report_reading.new.reporter.ruler)) _ _ _ (reading_of c.in-Ok-Some.reading) c.report_reading.result (rw c.in-Ok-Some.field-0-is at c.in-Ok-Some.ensures.game) c.in-Ok-Some.ensures.made c.report_reading.ensures.made

pub returns-in-Ok-None-clause-made : goal.returns-in-Ok-None-clause-made
returns-in-Ok-None-clause-made g c =
    let o = g.S.System.outside c.args.system.now in
    let k = g.R.GameRuler.known c.args.reporter.now.ruler in
    let lines = o.lines c.args.lines.now in
    next_none o (g.R.GameRuler.rules c.args.reporter.now.ruler) (terms_of c.args.reporter.now) lines.fails c.args.number (stage_of lines.left c.args.at.now k) (stage_of (o.lines c.next_game.new.lines).left c.next_game.new.self k) _ _ (rw c.in-Ok-None.field-0-is at c.in-Ok-None.ensures.game) c.in-Ok-None.ensures.made

pub returns-in-Err-clause-made : goal.returns-in-Err-clause-made
returns-in-Err-clause-made g c =
    let o = g.S.System.outside c.args.system.now in
    let k = g.R.GameRuler.known c.args.reporter.now.ruler in
    let lines = o.lines c.args.lines.now in
    next_unread o (g.R.GameRuler.rules c.args.reporter.now.ruler) (terms_of c.args.reporter.now) lines.fails c.args.number (stage_of lines.left c.args.at.now k) (stage_of (o.lines c.next_game.new.lines).left c.next_game.new.self k) _ _ _ c.in-Err.fault c.print_unread.result (λ e. c.in-Err.ensures.cause (ap Err e)) c.in-Err.ensures.made c.print_unread.ensures.made

pub returns-in-Ok-None-clause-rules : goal.returns-in-Ok-None-clause-rules
returns-in-Ok-None-clause-rules g c = rules_same (g.R.GameRuler.rules c.args.reporter.now.ruler)

pub returns-in-Err-clause-rules : goal.returns-in-Err-clause-rules
returns-in-Err-clause-rules g c = rules_same (g.R.GameRuler.rules c.args.reporter.now.ruler)
