use Rattle.line_events.proofs.LineLaws.{came_before, went_before}
use Rattle.line_teller.proofs.FailLaws.{on_stuck}
use Rattle.timeline.specs.declared.stream.Stream.TheVariants.{Output}
use Rattle.line_events.proofs.lines.flush_before_line.Goals as goal

pub returns-then-has_line-clause-made : goal.returns-then-has_line-clause-made
returns-then-has_line-clause-made g c = came_before (g.S.System.outside c.args.system.now) _ _ c.has_line.result _ c.has_line.ensures c.if-has_line.true

pub returns-clause-made : goal.returns-clause-made
returns-clause-made g c = went_before (g.S.System.outside c.args.system.now) _ _ _ c.has_line.result c.flush.result c.has_line.ensures c.if-has_line.false c.flush.ensures.made

pub returns-clause-cause : goal.returns-clause-cause
returns-clause-cause g c = on_stuck (λ t. (g.S.System.outside c.args.system.now).output t Output) _ c.flush.result c.flush.ensures.stuck
