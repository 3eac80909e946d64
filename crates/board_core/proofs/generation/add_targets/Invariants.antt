use Rattle.std.proofs.Common.{◌+◌, ◌*◌, ◌-◌}
use Rattle.board_core.specs.Inside.Search.{HasListedBelow}
use Rattle.board_core.proofs.Sweep.{Rests, Goes}
use Rattle.board_core.proofs.generation.add_targets.Given as goal

abbrev pub invariant-loop-which : goal.invariant-loop-which
invariant-loop-which l = record {
  below : HasListedBelow l.p l.which (320 * l.from + 5 * l.next) l.moves.items;
  rests : Rests (Goes l.p l.which l.from) l.next l.rest;
}

abbrev pub decreases-loop-which : goal.decreases-loop-which
decreases-loop-which l = 64 - l.next
