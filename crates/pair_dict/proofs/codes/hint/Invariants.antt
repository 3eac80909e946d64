use Rattle.std.proofs.Common.{ℕ, ◌+◌, ◌-◌, ◌*◌, ◌<◌, ◌≤◌, length, get_or}
use Rattle.pair_dict.proofs.codes.hint.Given as goal

abbrev pub invariant-up : goal.invariant-up
invariant-up l =
    record {
      known : l.i < length l.firsts;
      above : (j : ℕ) → j < l.i → (l.prefix + 1) * 67108864 ≤ get_or l.firsts j 0;
    }

abbrev pub decreases-up : goal.decreases-up
decreases-up l = length l.firsts - l.i
