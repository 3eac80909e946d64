use Rattle.pair_dict.specs.Marks.{AreMarks}
use Rattle.pair_dict.specs.Inside.Runs.{IsFurther}
use Rattle.pair_dict.proofs.dictionary.Dictionary.skip_marked.Given as goal

abbrev pub invariant-loop-number : goal.invariant-loop-number
invariant-loop-number l =
    record {
      further : IsFurther l.self l.block l.fn.from l.place;
      marks : AreMarks l.self l.block l.marks;
    }
