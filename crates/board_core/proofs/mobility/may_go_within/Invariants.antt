use Rattle.std.proofs.Common.{ℕ, ◌<◌, ◌-◌}
use Rattle.board_core.specs.Inside.Search.{MayGo}
use Rattle.board_core.proofs.Sweep.{Rests}
use Rattle.board_core.proofs.mobility.may_go_within.Given as goal

abbrev pub invariant-targets : goal.invariant-targets
invariant-targets l = record {
  rests : Rests (MayGo l.p l.sought l.from) l.next l.rest;
  none : (s : ℕ) → s < l.next → MayGo l.p l.sought l.from s → ⊥;
}

abbrev pub decreases-targets : goal.decreases-targets
decreases-targets l = 64 - l.next
