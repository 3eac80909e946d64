use Rattle.std.proofs.Common.{◌-◌, ◌*◌, length}
use Rattle.pair_dict.specs.Inside.Runs.{IsFurther}
use Rattle.pair_dict.proofs.dictionary.Dictionary.skip_words.Given as goal

abbrev pub invariant-words : goal.invariant-words
invariant-words l = IsFurther l.self l.block l.fn.from l.place

abbrev pub decreases-words : goal.decreases-words
decreases-words l = 8 * length l.block - l.place.at
