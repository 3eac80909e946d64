use Rattle.std.proofs.Common.{◌∙◌, ◌&&◌, ap, Bool}
use Rattle.judge_core.specs.declared.probe_result.ProbeResult.{ProbeResult}
use Rattle.judge_core.specs.ProbeResult.{has_both}
use Rattle.table_commands.proofs.RootLines.{line_more, told_more, reply_is}
use Rattle.table_commands.proofs.root.lines_of.Goals as goal

pub loop-m-preserved : goal.loop-m-preserved
loop-m-preserved c = (
  line_more c.args.moves.now c.loop-m.m-index c.m-item.result c.loop-m-test.true c.m-item.is c.loop-m.lines.items _ c.of-line.result c.loop-m.invariant.0 c.of-line.ensures.words c.in_ok-push.ensures.items,
  told_more c.args.moves.now c.loop-m.m-index c.m-item.result c.loop-m-test.true c.m-item.is (has_both c.args.columns.probed) c.loop-m.done _ c.loop-m.invariant.1
      (ap (λ (b : Bool). c.loop-m.done && b) (c.has_both-done-in-loop-m.ensures ∙ ap (λ (x : ProbeResult). has_both x) c.of-line.ensures.probed)),
)

pub returns : goal.returns
returns c = reply_is c.args.moves.now c.loop-m.m-index c.loop-m.lines.items _ c.args.columns c.loop-m.done c.loop-m-test.false c.loop-m.invariant.0 c.loop-m.invariant.1 c.in_ok-push-2.ensures.items
