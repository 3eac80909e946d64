use Rattle.std.proofs.Common.{◌∙◌, sym, arith}
use Rattle.pair_dict.proofs.WordLemmas.{length-words, words_at}
use Rattle.pair_dict.proofs.two_bytes.word_of.Goals as goal

pub overflow_mul-i : goal.overflow_mul-i
overflow_mul-i c = omega (arith, length-words c.args.bytes.now, c.requires)

pub word_at-requires : goal.word_at-requires
word_at-requires c = omega (arith, length-words c.args.bytes.now, c.requires)

pub returns : goal.returns
returns c = c.word_at.ensures ∙ sym (words_at c.args.bytes.now c.args.i c.requires)
