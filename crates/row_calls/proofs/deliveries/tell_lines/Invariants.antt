use Rattle.arbiter_core.specs.Delivers.{IsKept}
use Rattle.row_calls.proofs.deliveries.tell_lines.Given as goal

abbrev pub invariant-loop-line : goal.invariant-loop-line
invariant-loop-line l = IsKept l.keeper.kept l.arbiter
