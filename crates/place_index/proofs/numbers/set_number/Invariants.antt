use Rattle.std.proofs.Common.{◌≡◌, ◌≤◌, ◌+◌, ◌*◌, drop}
use Rattle.place_index.specs.Choose.{set_number}
use Rattle.place_index.proofs.numbers.set_number.Given as goal

abbrev pub invariant-loop-i : goal.invariant-loop-i
invariant-loop-i l = record {
  is : l.sum + set_number (drop l.i l.numbers) ≡ set_number l.numbers;
  most : l.sum ≤ 1073741824 * l.i;
}
