use Rattle.std.proofs.Common.{◌≡◌, ◌≤◌, length, drop}
use Rattle.place_index.specs.Men.{squares_of}
use Rattle.place_index.specs.Inside.Turns.{turned_by}
use Rattle.place_index.proofs.squares.squares_of.Given as goal

abbrev pub invariant-men : goal.invariant-men
invariant-men l = record {
  is : l.squares ≡ squares_of (drop l.i (turned_by l.turn l.men)) l.code;
  within : l.i ≤ length l.men;
}

abbrev pub decreases-men : goal.decreases-men
decreases-men l = l.i
