use Rattle.std.proofs.Common.{◌≡◌, take, map}
use Rattle.place_index.specs.Pawns.{pawn_square}
use Rattle.place_index.proofs.leading.stand_pawns.Given as goal

abbrev pub invariant-loop-number : goal.invariant-loop-number
invariant-loop-number l = l.earlier ≡ map pawn_square (take l.number-index l.numbers)
