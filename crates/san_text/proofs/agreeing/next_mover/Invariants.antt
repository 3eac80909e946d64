use Rattle.std.proofs.Common.{◌≡◌, ℕ, ◌<◌, ◌-◌}
use Rattle.std.specs.Int.{bit_at}
use Rattle.board_core.proofs.Sweep.{Rests}
use Rattle.san_text.proofs.LegalMoves.{MeantWithin}
use Rattle.san_text.proofs.agreeing.next_mover.Given as goal

abbrev pub invariant-movers : goal.invariant-movers
invariant-movers l = record {
  rests : Rests (MeantWithin l.position l.man l.fn.within) l.next l.rest;
  none : (s : ℕ) → s < l.next → MeantWithin l.position l.man l.fn.within s → ⊥;
  part : (s : ℕ) → bit_at l.rest s ≡ 1 → bit_at l.fn.within s ≡ 1;
}

abbrev pub decreases-movers : goal.decreases-movers
decreases-movers l = 64 - l.next
