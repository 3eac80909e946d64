use Rattle.std.proofs.Common.{◌≡◌, ◌+◌, ◌≤◌, length}
use Rattle.move_msg.specs.TextLines.{lines_in}
use Rattle.http_answer.proofs.lines.is_list.Given as goal

abbrev pub invariant-loop-tail : goal.invariant-loop-tail
invariant-loop-tail l = record {
  counted : l.before + length (lines_in l.rest) ≡ length (lines_in l.fn.body);
  few : l.before ≤ 16;
}

abbrev pub decreases-loop-tail : goal.decreases-loop-tail
decreases-loop-tail l = length (lines_in l.rest)
