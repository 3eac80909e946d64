use Rattle.std.proofs.Common.{◌≡◌, ◌≤◌, ◌+◌, ◌*◌, ◌++◌, take, drop, map}
use Rattle.place_index.specs.Choose.{set_number}
use Rattle.place_index.specs.Others.{free_number, free_set_number}
use Rattle.place_index.proofs.numbers.free_set_number.Given as goal

abbrev pub invariant-loop-i : goal.invariant-loop-i
invariant-loop-i l = record {
  is : l.sum + set_number (map (free_number l.first l.initial.earlier) (drop l.i l.squares)) ≡ free_set_number l.first l.initial.earlier l.squares;
  most : l.sum ≤ 1073741824 * l.i;
  added : l.earlier ≡ l.initial.earlier ++ take l.i l.squares;
}
