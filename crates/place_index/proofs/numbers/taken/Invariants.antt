use Rattle.std.proofs.Common.{◌≡◌, ◌≤◌, ◌+◌, drop}
use Rattle.place_index.specs.Others.{taken}
use Rattle.place_index.proofs.numbers.taken.Given as goal

abbrev pub invariant-loop-man : goal.invariant-loop-man
invariant-loop-man l = record {
  is : l.count + taken (drop l.man-index l.earlier) l.square ≡ taken l.earlier l.square;
  most : l.count ≤ l.man-index;
}
