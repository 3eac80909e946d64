-- How many k-element parts n things have.
use Rattle.std.proofs.Common.{◌≡◌, ℕ, zero, suc, ◌+◌, ◌-◌, ◌*◌, ◌/◌, ◌<◌, ◌≤◌, false, cond, eqb, List, [], ◌∷◌, map, length, refl, sym, ap, ◌∙◌, inl, inr, arith}
use Rattle.std.specs.Prelude.{sum_by, ◌==◌}
use Rattle.std.proofs.lemmas.Bool.{cases_eq, cases_lt, eq-eqb, ne_eqb}
use Rattle.std.proofs.lemmas.List.Sums.{sum_by-cons, sum_by-append}
use Rattle.std.proofs.Math.Nat.{div-eq_of_eq-mul_right, mul-le-mul_right, mul-le-mul_left}
use Rattle.place_index.specs.Choose.{parts, choose}

-- ---- Pascal's rule

-- whether a part has so many elements
abbrev has : ℕ → List ℕ → ℕ
has k part = cond (length part == k) 1 0

same_test : (a b : ℕ) → eqb (suc a) (suc b) ≡ eqb a b
same_test a b =
    elim (cases_eq a b) [
      | inl e ↦ rw e (eq-eqb (suc b) (suc b) refl ∙ sym (eq-eqb b b refl))
      | inr ne ↦ ne_eqb (suc a) (suc b) (λ e. ne (omega (arith, e))) ∙ sym (ne_eqb a b ne)
    ]

with_more : (n k : ℕ) (ps : List (List ℕ)) → sum_by (has (suc k)) (map (λ part. n ∷ part) ps) ≡ sum_by (has k) ps
with_more n k [] = refl
with_more n k (p ∷ ps) =
    sum_by-cons (has (suc k)) (n ∷ p) (map (λ part. n ∷ part) ps)
    ∙ ap (λ x. x + sum_by (has (suc k)) (map (λ part. n ∷ part) ps)) (ap (λ t. cond t 1 0) (same_test (length p) k))
    ∙ ap (λ x. has k p + x) (with_more n k ps)
    ∙ sym (sum_by-cons (has k) p ps)

with_none : (n : ℕ) (ps : List (List ℕ)) → sum_by (has 0) (map (λ part. n ∷ part) ps) ≡ 0
with_none n [] = refl
with_none n (p ∷ ps) =
    sum_by-cons (has 0) (n ∷ p) (map (λ part. n ∷ part) ps)
    ∙ ap (λ x. x + sum_by (has 0) (map (λ part. n ∷ part) ps)) (ap (λ t. cond t 1 0) (ne_eqb (suc (length p)) 0 (λ e. absurd (omega (arith, e)))))
    ∙ ap (λ x. 0 + x) (with_none n ps)

pub choose_none : (n : ℕ) → choose n 0 ≡ 1
unfolding choose parts
choose_none zero = refl
choose_none (suc n) =
    sum_by-append (has 0) (parts n) (map (λ part. n ∷ part) (parts n)) ∙ omega (arith, with_none n (parts n), choose_none n)

pub choose_nothing : (k : ℕ) → choose 0 (suc k) ≡ 0
unfolding choose parts
choose_nothing k =
    let ne : eqb 0 (suc k) ≡ false = ne_eqb 0 (suc k) (λ e. absurd (omega (arith, e))) in
    rw ne refl

pub choose_step : (n k : ℕ) → choose (suc n) (suc k) ≡ choose n k + choose n (suc k)
unfolding choose parts
choose_step n k =
    sum_by-append (has (suc k)) (parts n) (map (λ part. n ∷ part) (parts n)) ∙ omega (arith, with_more n k (parts n))

-- ---- by multiplication

pub choose_one : (n : ℕ) → choose n 1 ≡ n
choose_one zero = choose_nothing 0
choose_one (suc n) = omega (arith, choose_step n 0, choose_none n, choose_one n)

-- choosing one more element: each part of k + 1 comes k + 1 times from a part of k and one of the others
pub choose_more : (n k : ℕ) → suc k * choose n (suc k) + k * choose n k ≡ n * choose n k
choose_more n zero = rw (choose_none n) (omega (arith, choose_one n))
choose_more zero (suc k) = rw (choose_nothing k, choose_nothing (suc k)) (omega arith)
choose_more (suc n) (suc k) = rw (choose_step n k, choose_step n (suc k)) (omega (arith, choose_more n k, choose_more n (suc k)))

-- none with more elements than things
pub choose_beyond : (n k : ℕ) → n < k → choose n k ≡ 0
choose_beyond n zero lt = absurd (omega arith)
choose_beyond zero (suc k) lt = choose_nothing k
choose_beyond (suc n) (suc k) lt = omega (arith, choose_step n k, choose_beyond n k (omega arith), choose_beyond n (suc k) (omega arith))

pub choose_next : (n k : ℕ) → choose n k * (n - k) ≡ suc k * choose n (suc k)
choose_next n k =
    elim (cases_lt n k) [
      | inl lt ↦
          let far : n < suc k = omega arith in
          rw (choose_beyond n k lt, choose_beyond n (suc k) far) (omega arith)
      | inr le ↦
          let d : (n - k) + k ≡ n = omega arith in
          let e : ((n - k) + k) * choose n k ≡ n * choose n k = ap (λ m. m * choose n k) d in
          omega (arith, e, choose_more n k)
    ]

pub choose_by_product : (n k : ℕ) → choose n k * (n - k) / (k + 1) ≡ choose n (k + 1)
choose_by_product n k =
    let s : suc k ≡ k + 1 = omega arith in
    let e : choose n k * (n - k) ≡ (k + 1) * choose n (k + 1) = choose_next n k ∙ ap (λ m. m * choose n m) s in
    div-eq_of_eq-mul_right {n = k + 1} (omega arith) e

pub choose_some : (n k : ℕ) → k ≤ n → 1 ≤ choose n k
choose_some n zero le = omega (arith, choose_none n)
choose_some zero (suc k) le = absurd (omega arith)
choose_some (suc n) (suc k) le = omega (arith, choose_step n k, choose_some n k (omega arith))

-- ---- bounds

-- the product n (n - 1) .. of k numbers
unfoldable pub falling : ℕ → ℕ → ℕ
falling n zero = 1
falling n (suc k) = falling n k * (n - k)

pub falling_none : (n : ℕ) → falling n 0 ≡ 1
unfolding falling
falling_none n = refl

pub falling_step : (n k : ℕ) → falling n (suc k) ≡ falling n k * (n - k)
unfolding falling
falling_step n k = refl

pub choose_falling : (n k : ℕ) → choose n k ≤ falling n k
choose_falling n zero = omega (arith, choose_none n, falling_none n)
choose_falling n (suc k) =
    omega (arith, choose_next n k, falling_step n k, mul-le-mul_right (n - k) (choose_falling n k), mul-le-mul_right (choose n (suc k)) (one_up k))
  where
    one_up : (k : ℕ) → 1 ≤ suc k
    one_up k = omega arith

-- ---- as it computes

unfoldable pub pascal : ℕ → ℕ → ℕ
pascal n zero = 1
pascal zero (suc k) = 0
pascal (suc n) (suc k) = pascal n k + pascal n (suc k)

pub choose_pascal : (n k : ℕ) → choose n k ≡ pascal n k
unfolding pascal
choose_pascal n zero = choose_none n
choose_pascal zero (suc k) = choose_nothing k
choose_pascal (suc n) (suc k) = choose_step n k ∙ ap (λ x. x + choose n (suc k)) (choose_pascal n k) ∙ ap (λ x. pascal n k + x) (choose_pascal n (suc k))

-- ---- within five elements of 64 things

falling_small : (n k b : ℕ) → n ≤ 64 → falling n k ≤ b → falling n (suc k) ≤ 64 * b
falling_small n k b le few = omega (arith, falling_step n k, mul-le-mul_right (n - k) few, mul-le-mul_left b (less n k le))
  where
    less : (n k : ℕ) → n ≤ 64 → n - k ≤ 64
    less n k le = omega arith

pub choose_small : (n k : ℕ) → n ≤ 64 → k ≤ 4 → choose n k ≤ 16777216
choose_small n zero le few = omega (arith, choose_none n)
choose_small n (suc zero) le few = omega (arith, choose_falling n 1, falling_small n 0 1 le (omega (arith, falling_none n)))
choose_small n (suc (suc zero)) le few = omega (arith, choose_falling n 2, falling_small n 1 64 le (falling_small n 0 1 le (omega (arith, falling_none n))))
choose_small n (suc (suc (suc zero))) le few =
    omega (arith, choose_falling n 3, falling_small n 2 4096 le (falling_small n 1 64 le (falling_small n 0 1 le (omega (arith, falling_none n)))))
choose_small n (suc (suc (suc (suc zero)))) le few =
    omega (arith, choose_falling n 4, falling_small n 3 262144 le (falling_small n 2 4096 le (falling_small n 1 64 le (falling_small n 0 1 le (omega (arith, falling_none n))))))
choose_small n (suc (suc (suc (suc (suc k))))) le few = absurd (omega arith)

pub choose_few : (n k : ℕ) → n ≤ 64 → k ≤ 5 → choose n k ≤ 1073741824
choose_few n k le few =
    elim (cases_lt k 5) [
      | inl lt ↦ omega (arith, choose_small n k le (omega (arith, lt)))
      | inr ge ↦
          let five : k ≡ 5 = omega (arith, ge, few) in
          rw five (omega (arith, choose_falling n 5, falling_small n 4 16777216 le (falling_small n 3 262144 le (falling_small n 2 4096 le (falling_small n 1 64 le (falling_small n 0 1 le (omega (arith, falling_none n))))))))
    ]
