use Rattle.std.proofs.Common.{◌≡◌, ◌≤◌, length, drop, slice_index}
use Rattle.place_index.specs.Pawns.{pawn_numbers_of}
use Rattle.place_index.proofs.turning.greatest_number.Given as goal

abbrev pub invariant-men : goal.invariant-men
invariant-men l = record {
  is : l.greatest ≡ slice_index (pawn_numbers_of (drop l.i l.men) l.code) 0;
  within : l.i ≤ length l.men;
}

abbrev pub decreases-men : goal.decreases-men
decreases-men l = l.i
