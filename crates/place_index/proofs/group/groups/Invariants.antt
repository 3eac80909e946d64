use Rattle.place_index.proofs.Shapes.Runs.{IsScanned}
use Rattle.place_index.proofs.group.groups.Given as goal

abbrev pub invariant-loop-i : goal.invariant-loop-i
invariant-loop-i l = IsScanned l.pieces l.lead l.start l.i l.groups.items
