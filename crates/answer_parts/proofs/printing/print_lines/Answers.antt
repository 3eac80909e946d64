use Rattle.timeline.proofs.EventLaws.{adds_none}
use Rattle.answer_parts.proofs.PrintLaws.{all_printed, fails_at, line_printed, line_refused}
use Rattle.answer_parts.proofs.printing.print_lines.Goals as goal

pub loop-line-init : goal.loop-line-init
loop-line-init g c = adds_none (g.S.System.outside c.args.system.now) _

pub loop-line-preserved : goal.loop-line-preserved
loop-line-preserved g c =
    line_printed (g.S.System.outside c.args.system.now) _ _ _ c.args.lines.now c.loop-line.line-index c.line-item.result c.words.result c.words.ensures c.loop-line-test.true c.line-item.is c.loop-line.invariant c.in-Ok.ensures.made

pub returns-in-Err-clause-made : goal.returns-in-Err-clause-made
returns-in-Err-clause-made g c =
    line_refused (g.S.System.outside c.args.system.now) _ _ _ c.args.lines.now c.loop-line.line-index c.line-item.result c.words.result c.words.ensures c.loop-line-test.true c.line-item.is c.loop-line.invariant c.in-Err.ensures.made

pub returns-in-Err-clause-cause : goal.returns-in-Err-clause-cause
returns-in-Err-clause-cause g c = fails_at (g.S.System.outside c.args.system.now) _ c.in-Err.ensures.cause

pub returns-clause-made : goal.returns-clause-made
returns-clause-made g c = all_printed (g.S.System.outside c.args.system.now) _ _ c.args.lines.now c.loop-line.line-index c.loop-line-test.false c.loop-line.invariant
