use Rattle.answer_parts.proofs.PrintLaws.{fails_at}
use Rattle.pgn_teller.proofs.ReportLaws.{last_lost, last_written}
use Rattle.pgn_teller.proofs.reporting.write_last.Goals as goal

pub returns-in-Ok-clause-made : goal.returns-in-Ok-clause-made
returns-in-Ok-clause-made g c = last_written (g.S.System.outside c.args.system.now) _ _ c.args.text.now c.args.well c.in-Ok.ensures.made

pub returns-in-Err-clause-made : goal.returns-in-Err-clause-made
returns-in-Err-clause-made g c = last_lost (g.S.System.outside c.args.system.now) _ _ c.args.text.now c.args.well c.in-Err.fault c.in-Err.ensures.made

pub returns-in-Err-clause-cause : goal.returns-in-Err-clause-cause
returns-in-Err-clause-cause g c = fails_at (g.S.System.outside c.args.system.now) _ c.in-Err.ensures.cause
