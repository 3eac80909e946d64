use Rattle.std.proofs.Common.{◌≡◌, ◌++◌, take}
use Rattle.pair_dict.specs.Inside.Hints.{less_one}
use Rattle.pair_dict.proofs.hints.add_counts.Given as goal

abbrev pub invariant-loop-i : goal.invariant-loop-i
invariant-loop-i l = l.bytes.items ≡ l.fn.bytes.items ++ less_one (take l.i l.counts)
