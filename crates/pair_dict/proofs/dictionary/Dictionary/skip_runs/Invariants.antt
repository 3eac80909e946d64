use Rattle.pair_dict.specs.Inside.Windows.{Shows}
use Rattle.pair_dict.specs.Inside.Runs.{IsFurther}
use Rattle.pair_dict.proofs.dictionary.Dictionary.skip_runs.Given as goal

abbrev pub invariant-runs : goal.invariant-runs
invariant-runs l =
    record {
      further : IsFurther l.self l.block l.fn.from l.place;
      shows : Shows l.block l.place.at l.buffer;
    }

abbrev pub decreases-runs : goal.decreases-runs
decreases-runs l = l.buffer.held
