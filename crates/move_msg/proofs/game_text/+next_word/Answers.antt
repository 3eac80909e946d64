use Rattle.std.proofs.Common.{rules, ◌≡◌, ◌∙◌, ℕ, List, [], length}
use Rattle.std.specs.Prelude.{Option, Some, None, IfSome, IfNone, ◌∷◌}
use Rattle.std.specs.Borrow.{Bor}
use Rattle.move_msg.specs.GameTexts.{words_in}
use Rattle.move_msg.proofs.GameTextLaws.{no_word, word_last, word_next, word_passed}
use Rattle.move_msg.proofs.game_text.+next_word.Goals as goal

some_passed : (text tail : List ℕ) (r : Option (Bor (List ℕ) × Bor (List ℕ))) → words_in text ≡ words_in tail → IfSome r (λ x. words_in tail ≡ x.0.now ∷ words_in x.1.now) → IfSome r (λ x. words_in text ≡ x.0.now ∷ words_in x.1.now)
some_passed text tail None e h = tt
some_passed text tail (Some x) e h = e ∙ h

none_passed : (text tail : List ℕ) (r : Option (Bor (List ℕ) × Bor (List ℕ))) → words_in text ≡ words_in tail → IfNone r (words_in tail ≡ []) → IfNone r (words_in text ≡ [])
none_passed text tail None e h = e ∙ h
none_passed text tail (Some x) e h = tt

pub returns-then-is_empty-clause-none : goal.returns-then-is_empty-clause-none
returns-then-is_empty-clause-none t c =
    let e : length c.args.text.now ≡ 0 = search rules in
    no_word c.args.text.now e

pub returns-else-is_empty-clause-some : goal.returns-else-is_empty-clause-some
returns-else-is_empty-clause-some t c =
    let some : c.args.text.now ≡ [] → ⊥ = search rules in
    word_last c.args.text.now c.in_default.ensures.none some

pub returns-then-is_empty-2-clause-some : goal.returns-then-is_empty-2-clause-some
returns-then-is_empty-2-clause-some t c =
    let e : length c.in-Some.word.now ≡ 0 = search rules in
    some_passed c.args.text.now c.in-Some.rest.now c.next_word.result (word_passed c.args.text.now c.in-Some.word.now c.in-Some.rest.now c.in-Some.ensures.some e) c.next_word.ensures.some

pub returns-then-is_empty-2-clause-none : goal.returns-then-is_empty-2-clause-none
returns-then-is_empty-2-clause-none t c =
    let e : length c.in-Some.word.now ≡ 0 = search rules in
    none_passed c.args.text.now c.in-Some.rest.now c.next_word.result (word_passed c.args.text.now c.in-Some.word.now c.in-Some.rest.now c.in-Some.ensures.some e) c.next_word.ensures.none

pub returns-else-is_empty-2-clause-some : goal.returns-else-is_empty-2-clause-some
returns-else-is_empty-2-clause-some t c =
    let some : c.in-Some.word.now ≡ [] → ⊥ = search rules in
    word_next c.args.text.now c.in-Some.word.now c.in-Some.rest.now c.in-Some.ensures.some some
