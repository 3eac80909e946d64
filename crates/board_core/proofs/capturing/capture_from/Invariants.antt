use Rattle.std.proofs.Common.{ℕ, ◌<◌, ◌-◌}
use Rattle.board_core.specs.Inside.Search.{IsLaterFrom}
use Rattle.board_core.proofs.Sweep.{Rests}
use Rattle.board_core.proofs.NextCapture.{On}
use Rattle.board_core.proofs.capturing.capture_from.Given as goal

abbrev pub invariant-targets : goal.invariant-targets
invariant-targets l = record {
  rests : Rests (On (IsLaterFrom l.p l.start l.from) (λ m. m.to)) l.next l.rest;
  none : (s : ℕ) → s < l.next → On (IsLaterFrom l.p l.start l.from) (λ m. m.to) s → ⊥;
}

abbrev pub decreases-targets : goal.decreases-targets
decreases-targets l = 64 - l.next
