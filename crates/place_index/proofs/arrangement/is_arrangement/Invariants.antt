use Rattle.std.proofs.Common.{◌≡◌, ℕ, ◌<◌, slice_index}
use Rattle.place_index.specs.Material.{pieces_of, count_of}
use Rattle.place_index.proofs.arrangement.is_arrangement.Given as goal

abbrev pub invariant-loop-piece : goal.invariant-loop-piece
invariant-loop-piece l = (k : ℕ) → k < l.piece-index → count_of l.pieces (slice_index l.pieces k) ≡ count_of (pieces_of l.material) (slice_index l.pieces k)
