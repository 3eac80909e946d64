use Rattle.std.proofs.Common.{arith}
use Rattle.pair_dict.specs.Inside.Runs.{sum_values, sum_bits}
use Rattle.pair_dict.proofs.PlaceLemmas.{further_then, further_word}
use Rattle.pair_dict.proofs.dictionary.Dictionary.skip_words.Goals as goal

pub words-preserved : goal.words-preserved
words-preserved c =
    further_word c.args.self.now c.args.block.now c.args.from c.words.place c.after-place.result (sum_values c.four_runs.result.0) (sum_bits c.four_runs.result.0) c.values-in-words.result c.bits-in-words.result c.words.invariant (c.words_end-end.ensures c.words.place.at c.words-test.true)
    (c.four_runs.ensures.are c.args.block.now c.words.place.at c.whole.ensures.shows) c.four_runs.ensures.few (omega (arith, c.if-values-place.false, c.values.ensures)) c.after-place.ensures.at c.after-place.ensures.left c.bits-in-words.ensures c.values-in-words.ensures

pub skip_code-requires-clause-near : goal.skip_code-requires-clause-near
skip_code-requires-clause-near c =
    let further = further_word c.args.self.now c.args.block.now c.args.from c.words.place c.after-place.result (sum_values c.four_runs.result.0) (sum_bits c.four_runs.result.0) c.values-in-words.result c.bits-in-words.result c.words.invariant (c.words_end-end.ensures c.words.place.at c.words-test.true)
    (c.four_runs.ensures.are c.args.block.now c.words.place.at c.whole.ensures.shows) c.four_runs.ensures.few (omega (arith, c.if-values-place.false, c.values.ensures)) c.after-place.ensures.at c.after-place.ensures.left c.bits-in-words.ensures c.values-in-words.ensures in
    omega (arith, further.slow, c.requires.near)

pub returns-in_default : goal.returns-in_default
returns-in_default c =
    further_word c.args.self.now c.args.block.now c.args.from c.words.place c.after-place.result (sum_values c.four_runs.result.0) (sum_bits c.four_runs.result.0) c.values-in-words.result c.bits-in-words.result c.words.invariant (c.words_end-end.ensures c.words.place.at c.words-test.true)
    (c.four_runs.ensures.are c.args.block.now c.words.place.at c.whole.ensures.shows) c.four_runs.ensures.few (omega (arith, c.if-values-place.false, c.values.ensures)) c.after-place.ensures.at c.after-place.ensures.left c.bits-in-words.ensures c.values-in-words.ensures

pub words-preserved-then-has_word : goal.words-preserved-then-has_word
words-preserved-then-has_word c =
    let further = further_word c.args.self.now c.args.block.now c.args.from c.words.place c.after-place.result (sum_values c.four_runs.result.0) (sum_bits c.four_runs.result.0) c.values-in-words.result c.bits-in-words.result c.words.invariant (c.words_end-end.ensures c.words.place.at c.words-test.true)
    (c.four_runs.ensures.are c.args.block.now c.words.place.at c.whole.ensures.shows) c.four_runs.ensures.few (omega (arith, c.if-values-place.false, c.values.ensures)) c.after-place.ensures.at c.after-place.ensures.left c.bits-in-words.ensures c.values-in-words.ensures in
    further_then c.args.self.now c.args.block.now c.args.from c.after-place.result c.in-Some.next further c.in-Some.ensures.further

pub returns-then-values-place : goal.returns-then-values-place
returns-then-values-place c =
    further_word c.args.self.now c.args.block.now c.args.from c.words.place c.after.result (sum_values c.four_runs.result.2) (sum_bits c.four_runs.result.2) c.values-then-values-place.result c.bits.result c.words.invariant (c.words_end-end.ensures c.words.place.at c.words-test.true)
    (c.four_runs.ensures.first c.args.block.now c.words.place.at c.whole.ensures.shows) c.four_runs.ensures.first_few c.four_runs.ensures.first_fit c.after.ensures.at c.after.ensures.left c.bits.ensures c.values-then-values-place.ensures
