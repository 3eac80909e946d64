use Rattle.std.proofs.Common.{◌≡◌, ◌<◌, ℕ, length, get_or}
use Rattle.pair_dict.specs.Inside.Hints.{IsHint}
use Rattle.pair_dict.proofs.hints.hints_of.Given as goal

abbrev pub invariant-loop-prefix : goal.invariant-loop-prefix
invariant-loop-prefix l =
    record {
      all : length l.bytes.items ≡ l.prefix;
      each : (k : ℕ) → k < l.prefix → IsHint l.firsts k (get_or l.bytes.items k 0);
    }
