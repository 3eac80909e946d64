use Rattle.std.proofs.Common.{◌≡◌, ◌≤◌, ◌<◌, ◌-◌, ◌+◌, ℕ, get_or, length}
use Rattle.pair_dict.specs.Codes.{bases}
use Rattle.pair_dict.specs.Reading.{words}
use Rattle.pair_dict.specs.Inside.Windows.{IsLeastWithPrefix}
use Rattle.pair_dict.proofs.codes.firsts_of.Given as goal

abbrev pub invariant-down : goal.invariant-down
invariant-down l =
    record {
      lengths : length l.firsts.items ≡ length (words l.lowest);
      within : l.i ≤ length (words l.lowest);
      base_is : l.base ≡ get_or (bases (words l.lowest)) (l.i - 1) 0;
      low : l.base ≤ get_or (words l.lowest) (l.i - 1) 0;
      done : (k : ℕ) → l.i ≤ k + 1 → k < length (words l.lowest) → IsLeastWithPrefix (l.least + k) (get_or (bases (words l.lowest)) k 0) (get_or l.firsts.items k 0);
    }

abbrev pub decreases-down : goal.decreases-down
decreases-down l = l.i
