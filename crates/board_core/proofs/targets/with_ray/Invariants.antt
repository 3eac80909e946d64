use Rattle.std.proofs.Common.{◌≡◌, ℕ, ◌<◌, ◌⊎◌}
use Rattle.std.specs.Int.{bit_at}
use Rattle.board_core.specs.Attack.{Along, IsClear}
use Rattle.board_core.specs.Inside.Search.{IsRayEnd}
use Rattle.board_core.proofs.targets.with_ray.Given as goal

abbrev pub invariant-loop-k : goal.invariant-loop-k
invariant-loop-k l = record {
  clear : IsClear l.men l.direction l.k l.from;
  kept : (s : ℕ) → bit_at l.fn.mask s ≡ 1 → bit_at l.all s ≡ 1;
  reached : (n s : ℕ) → 0 < n → n < l.k → s < 64 → Along l.direction n l.from s → bit_at l.all s ≡ 1;
  only : (s : ℕ) → bit_at l.all s ≡ 1 → (bit_at l.fn.mask s ≡ 1) ⊎ IsRayEnd l.men l.side l.direction l.from s;
}
