use Rattle.std.proofs.Common.{◌*◌, ◌-◌}
use Rattle.board_core.specs.Moves.{IsTaken}
use Rattle.board_core.specs.Inside.Search.{HasListedBelow, IsKnown}
use Rattle.board_core.proofs.Sweep.{Rests}
use Rattle.board_core.proofs.generation.listed.Given as goal

abbrev pub invariant-loop-which : goal.invariant-loop-which
invariant-loop-which l = record {
  below : HasListedBelow l.p l.fn.which (320 * l.next) l.moves.items;
  rests : Rests (IsTaken l.p.men l.p.side) l.next l.rest;
  known : IsKnown l.p l.v l.known;
}

abbrev pub decreases-loop-which : goal.decreases-loop-which
decreases-loop-which l = 64 - l.next
