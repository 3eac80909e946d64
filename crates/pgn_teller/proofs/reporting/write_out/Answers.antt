use Rattle.line_teller.proofs.FailLaws.{on_stuck}
use Rattle.timeline.specs.declared.stream.Stream.TheVariants.{Output}
use Rattle.answer_parts.proofs.PrintLaws.{fails_at}
use Rattle.pgn_teller.proofs.ReportLaws.{gone, lost}
use Rattle.pgn_teller.proofs.reporting.write_out.Goals as goal

pub returns-in-Ok-clause-made : goal.returns-in-Ok-clause-made
returns-in-Ok-clause-made g c = gone (g.S.System.outside c.args.system.now) _ _ _ c.args.text.now c.flush.result c.in-Ok.ensures.made c.flush.ensures.made

pub returns-in-Ok-clause-cause : goal.returns-in-Ok-clause-cause
returns-in-Ok-clause-cause g c = on_stuck (λ t. (g.S.System.outside c.args.system.now).output t Output) _ c.flush.result c.flush.ensures.stuck

pub returns-in-Err-clause-made : goal.returns-in-Err-clause-made
returns-in-Err-clause-made g c = lost (g.S.System.outside c.args.system.now) _ _ c.args.text.now c.in-Err.fault c.in-Err.ensures.made

pub returns-in-Err-clause-cause : goal.returns-in-Err-clause-cause
returns-in-Err-clause-cause g c = fails_at (g.S.System.outside c.args.system.now) _ c.in-Err.ensures.cause
