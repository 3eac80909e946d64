use Rattle.std.proofs.Common.{◌≡◌, ℕ, ◌<◌, slice_index}
use Rattle.place_index.specs.Material.{count_of}
use Rattle.place_index.proofs.arrangement.begins_by_three.Given as goal

abbrev pub invariant-loop-i : goal.invariant-loop-i
invariant-loop-i l = (k : ℕ) → k < l.i → count_of l.pieces (slice_index l.pieces k) ≡ 1
