use Rattle.std.proofs.Common.{◌∙◌, ℕ, ap, inr, refl, sym}
use Rattle.std.specs.Prelude.{◌==◌}
use Rattle.std.proofs.lemmas.Bool.{eqb-true}
use Rattle.move_msg.proofs.WordsLaws.{words_of, reads_on, not_words, all_read, half_left}
use Rattle.move_msg.proofs.record_bytes.read_words.Goals as goal

pub returns-in_default-of_word-clause-err : goal.returns-in_default-of_word-clause-err
returns-in_default-of_word-clause-err c =
    let word = c.in-Some.ensures.some in
    inr (refl, λ ms s. not_words _ _ _ word.0 word.1 c.in_default-of_word.ensures.none (c.loop-word.invariant.back (words_of (ms, s))))

pub loop-word-preserved : goal.loop-word-preserved
loop-word-preserved c =
    let word = c.in-Some.ensures.some in
    rw c.in-Ok.ensures.items (reads_on _ _ _ _ _ _ word.0 word.1 c.in-Some-of_word.ensures.some c.loop-word.invariant)

pub returns-then-is_empty-clause-ok : goal.returns-then-is_empty-clause-ok
returns-then-is_empty-clause-ok c = all_read _ _ _ (eqb-true _ 0 (sym c.is_empty.ensures ∙ c.if-is_empty.true)) c.loop-word.invariant

pub returns-else-is_empty-clause-err : goal.returns-else-is_empty-clause-err
returns-else-is_empty-clause-err c =
    inr (refl, half_left _ _ _ c.in_default.ensures.none (λ none. let e = sym c.if-is_empty.false ∙ c.is_empty.ensures ∙ ap (λ (n : ℕ). n == 0) none in absurd cc) c.loop-word.invariant)
