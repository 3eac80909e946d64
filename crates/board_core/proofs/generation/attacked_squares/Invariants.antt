use Rattle.std.proofs.Common.{ℕ, ◌<◌, ◌-◌}
use Rattle.board_core.specs.Moves.{IsTaken}
use Rattle.board_core.specs.Side.{other}
use Rattle.board_core.proofs.Sweep.{Rests}
use Rattle.board_core.proofs.Attacked.{Covers}
use Rattle.board_core.proofs.generation.attacked_squares.Given as goal

abbrev pub invariant-loop-next : goal.invariant-loop-next
invariant-loop-next l = record {
  rests : Rests (IsTaken l.men (other l.side)) l.next l.rest;
  covered : (s : ℕ) → s < l.next → Covers l.men l.side l.all s;
}

abbrev pub decreases-loop-next : goal.decreases-loop-next
decreases-loop-next l = 64 - l.next
