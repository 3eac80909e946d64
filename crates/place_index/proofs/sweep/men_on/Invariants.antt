use Rattle.std.proofs.Common.{◌≡◌, ◌≤◌, ◌*◌, length, take}
use Rattle.place_index.specs.Material.{tally_of}
use Rattle.place_index.specs.Men.{codes_of}
use Rattle.place_index.proofs.LookUp.MenOn.{IsSwept}
use Rattle.place_index.proofs.sweep.men_on.Given as goal

abbrev pub invariant-loop-count : goal.invariant-loop-count
invariant-loop-count l = record {
  swept : IsSwept l.position.men l.next l.rest (take l.count l.men);
  few : l.count ≤ 5;
  size : length l.men ≡ 5;
  tally : l.tally ≡ tally_of (codes_of (take l.count l.men));
  most : l.tally ≤ 1152921504606846976 * l.count;
}
