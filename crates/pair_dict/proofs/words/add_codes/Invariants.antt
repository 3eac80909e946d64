use Rattle.std.proofs.Common.{◌≡◌, ◌++◌, take}
use Rattle.pair_dict.specs.Inside.Words.{words_of_codes}
use Rattle.pair_dict.proofs.words.add_codes.Given as goal

abbrev pub invariant-loop-code : goal.invariant-loop-code
invariant-loop-code l = l.words.items ≡ l.fn.words.items ++ words_of_codes (take l.code-index l.codes)
