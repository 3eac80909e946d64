use Rattle.std.proofs.Common.{ℕ, ◌<◌, ◌-◌}
use Rattle.board_core.specs.Moves.{IsLegalCapture}
use Rattle.board_core.proofs.Sweep.{Rests}
use Rattle.board_core.proofs.NextCapture.{On}
use Rattle.board_core.proofs.capturing.may_capture.Given as goal

abbrev pub invariant-movers : goal.invariant-movers
invariant-movers l = record {
  rests : Rests (On (IsLegalCapture l.p) (λ m. m.from)) l.next l.left;
  none : (s : ℕ) → s < l.next → On (IsLegalCapture l.p) (λ m. m.from) s → ⊥;
}

abbrev pub decreases-movers : goal.decreases-movers
decreases-movers l = 64 - l.next
