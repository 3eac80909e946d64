use Rattle.move_msg.proofs.WordsLaws.{words_of, same_on, not_words, only_empty}
use Rattle.move_msg.proofs.record_bytes.are_words.Goals as goal

pub returns-in_default-of_word : goal.returns-in_default-of_word
returns-in_default-of_word c =
    let word = c.in-Some.ensures.some in
    (λ bad. absurd cc, λ all. absurd (not_words _ _ _ word.0 word.1 c.in_default-of_word.ensures.none (c.loop-word.invariant.back (words_of all))))

pub loop-word-preserved : goal.loop-word-preserved
loop-word-preserved c =
    let word = c.in-Some.ensures.some in
    same_on _ _ _ _ _ word.0 word.1 c.in-Some-of_word.ensures.some c.loop-word.invariant

pub returns : goal.returns
returns c = only_empty _ _ _ c.is_empty.ensures c.in_default.ensures.none c.loop-word.invariant
