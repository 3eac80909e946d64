use Rattle.std.proofs.Common.{◌≡◌, ℕ, ◌+◌, ◌-◌, ◌/◌, ◌%◌, ◌<◌, ◌≤◌, get_or}
use Rattle.pair_dict.specs.Inside.Windows.{firsts_in, lowest_in}
use Rattle.pair_dict.specs.Inside.Words.{codes_in}
use Rattle.pair_dict.proofs.codes.length_of.Given as goal

abbrev pub invariant-up : goal.invariant-up
invariant-up l =
    record {
      known : l.i < l.search.lengths;
      above : (j : ℕ) → j < l.i → l.front + 1 ≤ get_or (firsts_in (codes_in l.search.lengths l.words)) j 0;
      first : l.code.packed / 65536 ≡ get_or (firsts_in (codes_in l.search.lengths l.words)) l.i 0;
      lowest : l.code.packed % 65536 ≡ get_or (lowest_in (codes_in l.search.lengths l.words)) l.i 0;
    }

abbrev pub decreases-up : goal.decreases-up
decreases-up l = l.search.lengths - l.i
