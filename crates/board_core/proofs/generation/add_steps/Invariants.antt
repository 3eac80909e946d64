use Rattle.std.proofs.Common.{◌≡◌, ℕ, ◌+◌, ◌*◌, ◌-◌}
use Rattle.std.specs.Int.{bit_at}
use Rattle.board_core.specs.Inside.Search.{HasListedBelow, IsStep}
use Rattle.board_core.proofs.Sweep.{Rests, Goes}
use Rattle.board_core.proofs.generation.add_steps.Given as goal

abbrev pub invariant-loop-from : goal.invariant-loop-from
invariant-loop-from l = record {
  below : HasListedBelow l.p l.fn.which (320 * l.fn.from + 5 * l.next) l.moves.items;
  rests : Rests (Goes l.p l.fn.which l.fn.from) l.next l.rest;
  steps : (s : ℕ) → bit_at l.rest s ≡ 1 → IsStep l.p l.fn.which l.fn.kind l.fn.from s;
}

abbrev pub decreases-loop-from : goal.decreases-loop-from
decreases-loop-from l = 64 - l.next
