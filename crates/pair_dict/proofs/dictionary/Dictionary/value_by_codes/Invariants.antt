use Rattle.std.proofs.Common.{◌-◌, ◌*◌, length}
use Rattle.pair_dict.specs.Inside.Runs.{IsFurther}
use Rattle.pair_dict.specs.Inside.Windows.{Shows}
use Rattle.pair_dict.proofs.dictionary.Dictionary.value_by_codes.Given as goal

abbrev pub invariant-codes : goal.invariant-codes
invariant-codes l =
    record {
      further : IsFurther l.self l.block l.fn.from l.place;
      shows : Shows l.block l.place.at l.buffer;
    }

abbrev pub decreases-codes : goal.decreases-codes
decreases-codes l = 8 * length l.block - l.place.at
