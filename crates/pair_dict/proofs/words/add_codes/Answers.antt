use Rattle.std.proofs.Common.{◌∙◌}
use Rattle.std.proofs.lemmas.List.{get_or_default}
use Rattle.pair_dict.proofs.WordLists.{words_more, no_length}
use Rattle.pair_dict.proofs.words.add_codes.Goals as goal

pub loop-code-preserved : goal.loop-code-preserved
loop-code-preserved c = c.in_ok-add_code.ensures ∙ words_more c.args.words.now.items c.loop-code.words.items c.args.codes.now c.loop-code.code-index _ c.loop-code-test.true (get_or_default c.args.codes.now c.loop-code.code-index no_length _ c.loop-code-test.true) c.loop-code.invariant
