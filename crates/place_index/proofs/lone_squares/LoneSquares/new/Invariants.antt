use Rattle.std.proofs.Common.{◌≤◌, length, drop}
use Rattle.place_index.specs.Inside.Groups.{AreLoneSquares}
use Rattle.place_index.proofs.lone_squares.LoneSquares.new.Given as goal

abbrev pub invariant-men : goal.invariant-men
invariant-men l = record {
  is : AreLoneSquares (drop l.i l.men) l.squares;
  within : l.i ≤ length l.men;
}

abbrev pub decreases-men : goal.decreases-men
decreases-men l = l.i
