use Rattle.place_index.proofs.Shapes.Sizing.{IsSized}
use Rattle.place_index.proofs.sizes.all_sizes.Given as goal

abbrev pub invariant-loop-group : goal.invariant-loop-group
invariant-loop-group l = IsSized l.first l.lead l.groups l.group-index l.free l.sizes.items
