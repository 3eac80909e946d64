use Rattle.std.proofs.Common.{ℕ, ◌≡◌, ◌<◌, ◌-◌}
use Rattle.std.specs.Int.{bit_at}
use Rattle.board_core.specs.declared.piece.Kind.TheVariants.{King}
use Rattle.board_core.specs.Moves.{Stands, IsTaken}
use Rattle.board_core.proofs.Sweep.{Rests}
use Rattle.board_core.proofs.king.king_of.Given as goal

abbrev pub invariant-loop-next : goal.invariant-loop-next
invariant-loop-next l = record {
  rests : Rests (IsTaken l.men l.side) l.next l.rest;
  below : (s : ℕ) → s < l.next → Stands l.men s l.side King → ⊥;
  here : bit_at l.rest l.square ≡ 1;
  first : (s : ℕ) → s < l.square → bit_at l.rest s ≡ 0;
}

abbrev pub decreases-loop-next : goal.decreases-loop-next
decreases-loop-next l = 64 - l.next
