-- Short lists in arrays.
use Rattle.std.proofs.Common.{◌≡◌, ℕ, zero, suc, ◌+◌, ◌-◌, ◌<◌, ◌≤◌, List, [], ◌∷◌, ◌++◌, length, take, drop, replicate, slice_index, refl, sym, ap, ◌∙◌, subst, inl, inr, arith}
use Rattle.std.specs.Prelude.{slice_set}
use Rattle.std.proofs.lemmas.Bool.{cases_lt, lt-ltb, le-ltb}
use Rattle.std.proofs.lemmas.List.{drop_more, drop-set-lt}
use Rattle.place_index.specs.Square.{before}
use Rattle.place_index.specs.Inside.ShortLists.{inserted}
use Rattle.place_index.specs.Others.{taken}
use Rattle.place_index.specs.Inside.ShortLists.{with_number}
use Rattle.place_index.proofs.Indices.Collecting.{inserted_above, inserted_last}
use Rattle.place_index.proofs.Turns.Board.{inserted_below}
use Rattle.place_index.proofs.Indices.Numbering.{taken_append}

-- ---- up to three numbers

three : (xs : List ℕ) → length xs ≡ 3 → xs ≡ slice_index xs 0 ∷ slice_index xs 1 ∷ slice_index xs 2 ∷ []
three [] e = absurd (omega (arith, e))
three (a ∷ []) e = absurd (omega (arith, e))
three (a ∷ b ∷ []) e = absurd (omega (arith, e))
three (a ∷ b ∷ c ∷ []) e = refl
three (a ∷ b ∷ c ∷ d ∷ xs) e = absurd (omega (arith, e))

with_first : (xs : List ℕ) (x : ℕ) → slice_index xs 0 < x → with_number xs x ≡ x ∷ slice_index xs 0 ∷ slice_index xs 1 ∷ []
with_first xs x lt = rw (lt-ltb (slice_index xs 0) x lt) refl

with_second : (xs : List ℕ) (x : ℕ) → x ≤ slice_index xs 0 → slice_index xs 1 < x → with_number xs x ≡ slice_index xs 0 ∷ x ∷ slice_index xs 1 ∷ []
with_second xs x le lt = rw (le-ltb (slice_index xs 0) x le, lt-ltb (slice_index xs 1) x lt) refl

with_third : (xs : List ℕ) (x : ℕ) → x ≤ slice_index xs 0 → x ≤ slice_index xs 1 → with_number xs x ≡ slice_index xs 0 ∷ slice_index xs 1 ∷ x ∷ []
with_third xs x le less = rw (le-ltb (slice_index xs 0) x le, le-ltb (slice_index xs 1) x less) refl

-- what an insertion makes
pub record AreWith (xs : List ℕ) (count x : ℕ) (ys : List ℕ) : Type 0 where
  pub size : length ys ≡ 3
  pub second : count + 1 ≤ 1 → slice_index ys 1 ≡ 0
  pub is : take (count + 1) ys ≡ inserted x (take count xs)

in_first : (a b c x count : ℕ) → count < 3 → (count ≤ 0 → a ≡ 0) → a < x → AreWith (a ∷ b ∷ c ∷ []) count x (x ∷ a ∷ b ∷ [])
in_first a b c x zero few none lt = record { size = refl; second = λ le. none (omega arith); is = sym (inserted_last x) }
in_first a b c x (suc zero) few none lt = record { size = refl; second = λ le. absurd (omega (arith, le)); is = sym (inserted_above x a [] lt) }
in_first a b c x (suc (suc zero)) few none lt = record { size = refl; second = λ le. absurd (omega (arith, le)); is = sym (inserted_above x a (b ∷ []) lt) }
in_first a b c x (suc (suc (suc n))) few none lt = absurd (omega (arith, few))

in_second : (a b c x count : ℕ) → count < 3 → (count ≤ 0 → a ≡ 0) → x ≤ a → b < x → AreWith (a ∷ b ∷ c ∷ []) count x (a ∷ x ∷ b ∷ [])
in_second a b c x zero few none le lt = absurd (omega (arith, none (omega arith), le, lt))
in_second a b c x (suc zero) few none le lt = record { size = refl; second = λ more. absurd (omega (arith, more)); is = sym (inserted_below x a [] le ∙ ap (λ l. a ∷ l) (inserted_last x)) }
in_second a b c x (suc (suc zero)) few none le lt =
    record { size = refl; second = λ more. absurd (omega (arith, more)); is = sym (inserted_below x a (b ∷ []) le ∙ ap (λ l. a ∷ l) (inserted_above x b [] lt)) }
in_second a b c x (suc (suc (suc n))) few none le lt = absurd (omega (arith, few))

in_third : (a b c x count : ℕ) → count < 3 → (count ≤ 0 → a ≡ 0) → (count ≤ 1 → b ≡ 0) → x ≤ a → x ≤ b → AreWith (a ∷ b ∷ c ∷ []) count x (a ∷ b ∷ x ∷ [])
in_third a b c x zero few none one le less =
    let a-none : a ≡ 0 = none (omega arith) in
    let same : a ≡ x = omega (arith, a-none, le) in
    record { size = refl; second = λ le. one (omega arith); is = ap (λ n. n ∷ []) same ∙ sym (inserted_last x) }
in_third a b c x (suc zero) few none one le less =
    let b-none : b ≡ 0 = one (omega arith) in
    let same : b ≡ x = omega (arith, b-none, less) in
    record { size = refl; second = λ more. absurd (omega (arith, more)); is = ap (λ n. a ∷ n ∷ []) same ∙ sym (inserted_below x a [] le ∙ ap (λ l. a ∷ l) (inserted_last x)) }
in_third a b c x (suc (suc zero)) few none one le less =
    record { size = refl; second = λ more. absurd (omega (arith, more)); is = sym (inserted_below x a (b ∷ []) le ∙ ap (λ l. a ∷ l) (inserted_below x b [] less) ∙ ap (λ l. a ∷ b ∷ l) (inserted_last x)) }
in_third a b c x (suc (suc (suc n))) few none one le less = absurd (omega (arith, few))

pub few_more : (xs ys : List ℕ) (count x : ℕ) → length xs ≡ 3 → count < 3 → (count ≤ 0 → slice_index xs 0 ≡ 0) → (count ≤ 1 → slice_index xs 1 ≡ 0) → ys ≡ with_number xs x → AreWith xs count x ys
few_more xs ys count x size few none one is =
    subst (λ l. AreWith l count x ys) (sym (three xs size))
    (elim (cases_lt (slice_index xs 0) x) [
      | inl lt ↦ subst (AreWith _ count x) (sym (is ∙ with_first xs x lt)) (in_first (slice_index xs 0) (slice_index xs 1) (slice_index xs 2) x count few none lt)
      | inr le ↦ elim (cases_lt (slice_index xs 1) x) [
        | inl lt ↦ subst (AreWith _ count x) (sym (is ∙ with_second xs x le lt)) (in_second (slice_index xs 0) (slice_index xs 1) (slice_index xs 2) x count few none le lt)
        | inr less ↦ subst (AreWith _ count x) (sym (is ∙ with_third xs x le less)) (in_third (slice_index xs 0) (slice_index xs 1) (slice_index xs 2) x count few none one le less)
      ]
    ])

-- ---- up to five squares

pub past_more : (xs : List ℕ) (men s : ℕ) → length xs ≡ 8 → men < 8 → drop men xs ≡ replicate (8 - men) 64 → drop (men + 1) (slice_set xs men s) ≡ replicate (8 - (men + 1)) 64
past_more xs men s size lt past =
    let down : 8 - men ≡ suc (8 - (men + 1)) = omega (arith, lt) in
    drop-set-lt (men + 1) xs men s (omega arith) ∙ ap (drop 1) (sym (drop_more xs men 64 (omega (arith, size, lt))) ∙ past ∙ ap (λ n. replicate n 64) down)

pub first_more : (xs : List ℕ) (men s : ℕ) → men < length xs → take (men + 1) (slice_set xs men s) ≡ take men xs ++ s ∷ []
first_more [] men s lt = absurd (omega (arith, lt))
first_more (x ∷ xs) zero s lt = refl
first_more (x ∷ xs) (suc men) s lt =
    let up : suc men + 1 ≡ suc (men + 1) = omega arith in
    ap (λ n. take n (x ∷ slice_set xs men s)) up ∙ ap (λ l. x ∷ l) (first_more xs men s (omega (arith, lt)))

parted : (n : ℕ) (xs : List ℕ) → xs ≡ take n xs ++ drop n xs
parted zero xs = refl
parted (suc n) [] = refl
parted (suc n) (x ∷ xs) = ap (λ l. x ∷ l) (parted n xs)

taken_past : (n s : ℕ) → s ≤ 64 → taken (replicate n 64) s ≡ 0
unfolding taken before
taken_past zero s le = refl
taken_past (suc n) s le = rw (le-ltb 64 s le) (omega (arith, taken_past n s le))

pub taken_first : (xs : List ℕ) (men s : ℕ) → s ≤ 64 → men ≤ 5 → drop men xs ≡ replicate (8 - men) 64 → taken xs s ≡ taken (take men xs) s
taken_first xs men s le few past =
    omega (arith, ap (λ l. taken l s) (parted men xs), taken_append (take men xs) (drop men xs) s, ap (λ l. taken l s) past, taken_past (8 - men) s le)

pub front_length : (n : ℕ) (xs : List ℕ) → n ≤ length xs → length (take n xs) ≡ n
front_length zero xs le = refl
front_length (suc n) [] le = absurd (omega (arith, le))
front_length (suc n) (x ∷ xs) le = ap suc (front_length n xs (omega (arith, le)))
