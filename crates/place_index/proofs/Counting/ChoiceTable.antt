-- How many k-element parts n things have, from a table.
use Rattle.std.proofs.Common.{◌≡◌, ℕ, ◌+◌, ◌*◌, ◌/◌, ◌%◌, ◌<◌, ◌≤◌, true, eqb, slice_index, refl, sym, ◌∙◌, arith}
use Rattle.std.proofs.lemmas.Bool.{agree_below_at, eqb-true}
use Rattle.place_index.specs.Choose.{choose}
use Rattle.place_index.specs.declared.tables.TheConstants.{CHOICES}
use Rattle.place_index.proofs.Counting.Choosing.{pascal, choose_pascal}

choice_test : (i : ℕ) → i < 390 → eqb (slice_index CHOICES i) (pascal (i % 65) (i / 65)) ≡ true
unfolding pascal
choice_test i lt = agree_below_at (λ i. eqb (slice_index CHOICES i) (pascal (i % 65) (i / 65))) (λ i. true) 390 i refl lt

pub choice_table : (n k : ℕ) → n ≤ 64 → k ≤ 5 → slice_index CHOICES (k * 65 + n) ≡ choose n k
choice_table n k le few =
    let a : (k * 65 + n) / 65 ≡ k = omega arith in
    let b : (k * 65 + n) % 65 ≡ n = omega arith in
    let lt : k * 65 + n < 390 = omega arith in
    rw (a, b) at (eqb-true _ _ (choice_test (k * 65 + n) lt)) ∙ sym (choose_pascal n k)
