use Rattle.std.proofs.Common.{◌≡◌, ◌<◌, ℕ, get_or}
use Rattle.place_index.specs.Material.{name_at}
use Rattle.place_index.proofs.material.is_name.Given as goal

abbrev pub invariant-loop-i : goal.invariant-loop-i
invariant-loop-i l = (k : ℕ) → k < l.i → get_or (name_at l.material) k 0 ≡ get_or l.text k 0
