use Rattle.std.proofs.Common.{◌≡◌, ℕ, ◌<◌, ◌-◌}
use Rattle.std.specs.Int.{bit_at}
use Rattle.board_core.specs.Attack.{Reaches}
use Rattle.board_core.proofs.Sweep.{Rests}
use Rattle.board_core.proofs.targets.reached_of.Given as goal

abbrev pub invariant-squares : goal.invariant-squares
invariant-squares l = record {
  rests : Rests (λ s. (bit_at l.fn.set s ≡ 1) × Reaches l.men l.side l.kind l.from s) l.next l.rest;
  within : (s : ℕ) → bit_at l.rest s ≡ 1 → bit_at l.fn.set s ≡ 1;
  reached : (s : ℕ) → s < l.next → bit_at l.fn.set s ≡ 1 → Reaches l.men l.side l.kind l.from s → bit_at l.reached s ≡ 1;
  only : (s : ℕ) → bit_at l.reached s ≡ 1 → (bit_at l.fn.set s ≡ 1) × Reaches l.men l.side l.kind l.from s;
}

abbrev pub decreases-squares : goal.decreases-squares
decreases-squares l = 64 - l.next
