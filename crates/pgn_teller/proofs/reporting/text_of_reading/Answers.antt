use Rattle.std.proofs.Common.{ap, sym, subst}
use Rattle.pgn_games.specs.Games.{ReadingTold}
use Rattle.pgn_games.specs.Shown.{reading_of}
use Rattle.timeline.specs.Outsides.{AddsSome}
use Rattle.pgn_teller.specs.Inside.Steps.{MakesText}
use Rattle.pgn_teller.specs.Reports.{terms_of}
use Rattle.pgn_teller.proofs.ReportLaws.{fault_made, rules_same}
use Rattle.pgn_teller.proofs.reporting.text_of_reading.Goals as goal

pub returns-in-Game-clause-made : goal.returns-in-Game-clause-made
returns-in-Game-clause-made g c = rw c.in-Game.is c.judged_text.ensures.made

pub returns-in-Fault-clause-made : goal.returns-in-Fault-clause-made
returns-in-Fault-clause-made g c =
    rw c.in-Fault.is (fault_made (g.S.System.outside c.args.system.now) (g.R.GameRuler.rules c.args.reporter.now.ruler) _ (g.R.GameRuler.known c.args.reporter.now.ruler) (terms_of c.args.reporter.now) c.args.number c.in-Fault.fault c.unread_text.result c.unread_text.ensures)

pub returns-in-Fault-clause-rules : goal.returns-in-Fault-clause-rules
returns-in-Fault-clause-rules g c = rules_same (g.R.GameRuler.rules c.args.reporter.now.ruler)
