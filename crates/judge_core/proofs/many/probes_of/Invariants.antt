use Rattle.std.proofs.Common.{◌≡◌, take}
use Rattle.judge_core.proofs.many.probes_of.Given as goal

-- those before this place are there
abbrev pub invariant-loop-position : goal.invariant-loop-position
invariant-loop-position l = l.probes.items ≡ take l.position-index l.positions
