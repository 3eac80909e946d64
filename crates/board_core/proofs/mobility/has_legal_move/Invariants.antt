use Rattle.std.proofs.Common.{ℕ, ◌<◌, ◌-◌}
use Rattle.board_core.specs.Inside.Search.{MayLeave}
use Rattle.board_core.proofs.Sweep.{Rests}
use Rattle.board_core.proofs.mobility.has_legal_move.Given as goal

abbrev pub invariant-movers : goal.invariant-movers
invariant-movers l = record {
  rests : Rests (MayLeave l.p l.sought) l.next l.rest;
  none : (s : ℕ) → s < l.next → MayLeave l.p l.sought s → ⊥;
}

abbrev pub decreases-movers : goal.decreases-movers
decreases-movers l = 64 - l.next
