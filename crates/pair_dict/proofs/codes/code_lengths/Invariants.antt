use Rattle.std.proofs.Common.{◌≡◌, take}
use Rattle.pair_dict.specs.Reading.{words}
use Rattle.pair_dict.specs.Inside.Windows.{firsts_in, lowest_in}
use Rattle.pair_dict.proofs.codes.code_lengths.Given as goal

abbrev pub invariant-loop-i : goal.invariant-loop-i
invariant-loop-i l =
    record {
      firsts : firsts_in l.codes.items ≡ take l.i l.firsts;
      lowest : lowest_in l.codes.items ≡ take l.i (words l.lowest);
    }
