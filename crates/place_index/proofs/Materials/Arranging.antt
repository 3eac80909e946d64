-- Lists with equal counts are arrangements of each other.
use Rattle.std.proofs.Common.{◌≡◌, ◌≢◌, ℕ, zero, suc, ◌+◌, ◌<◌, ◌≤◌, true, cond, ltb, List, [], ◌∷◌, ◌++◌, length, slice_index, refl, sym, ap, ◌∙◌, subst, inl, inr, arith, length-append}
use Rattle.std.specs.Prelude.{◌==◌}
use Rattle.std.specs.List.{list_all}
use Rattle.std.specs.List.Sorted.{IsPermutation}
use Rattle.std.proofs.lemmas.Bool.{cases_eq, cases_lt, eq-eqb, ne_eqb, lt-ltb, le-ltb, ltb-true, and_parts, and_from}
use Rattle.std.proofs.lemmas.List.Sums.{sum_by-cons, sum_by-append}
use Rattle.std.proofs.lemmas.List.Sorted.{IsPermutation-refl, IsPermutation-cons, IsPermutation-sym, IsPermutation-trans, IsPermutation-middle, sum_by-IsPermutation, length_permutation}
use Rattle.place_index.specs.Material.{count_of}

-- 1 where two codes are equal, else 0
abbrev hit : ℕ → ℕ → ℕ
hit c x = cond (x == c) 1 0

pub count_cons : (x : ℕ) (xs : List ℕ) (c : ℕ) → count_of (x ∷ xs) c ≡ hit c x + count_of xs c
unfolding count_of
count_cons x xs c = sum_by-cons (hit c) x xs

pub count_append : (xs ys : List ℕ) (c : ℕ) → count_of (xs ++ ys) c ≡ count_of xs c + count_of ys c
unfolding count_of
count_append xs ys c = sum_by-append (hit c) xs ys

pub count_nil : (c : ℕ) → count_of [] c ≡ 0
unfolding count_of
count_nil c = refl

pub count_hit : (x : ℕ) (xs : List ℕ) → count_of (x ∷ xs) x ≡ suc (count_of xs x)
count_hit x xs = rw (eq-eqb x x refl) at (count_cons x xs x) ∙ one (count_of xs x)
  where
    one : (n : ℕ) → 1 + n ≡ suc n
    one n = omega arith

pub count_miss : (x : ℕ) (xs : List ℕ) (c : ℕ) → x ≢ c → count_of (x ∷ xs) c ≡ count_of xs c
count_miss x xs c ne = rw (ne_eqb x c ne) at (count_cons x xs c) ∙ none (count_of xs c)
  where
    none : (n : ℕ) → 0 + n ≡ n
    none n = omega arith

-- ---- arrangements have equal counts

pub count_arranged : (xs ys : List ℕ) (c : ℕ) → IsPermutation xs ys → count_of xs c ≡ count_of ys c
unfolding count_of
count_arranged xs ys c p = sym (sum_by-IsPermutation (hit c) xs ys p)

-- ---- equal counts make an arrangement

-- a list that has a code is split at it
record Split (xs : List ℕ) (c : ℕ) : Type 0 where
  front : List ℕ
  back : List ℕ
  is : xs ≡ front ++ c ∷ back

split : (xs : List ℕ) (c : ℕ) → 1 ≤ count_of xs c → Split xs c
split [] c some = absurd (omega (arith, some, count_nil c))
split (x ∷ xs) c some =
    elim (cases_eq x c) [
      | inl e ↦ record { front = []; back = xs; is = ap (λ y. y ∷ xs) e }
      | inr ne ↦
          let rest = split xs c (omega (arith, some, count_miss x xs c ne)) in
          record { front = x ∷ rest.front; back = rest.back; is = ap (λ ys. x ∷ ys) rest.is }
    ]

-- how many elements are below n
below : ℕ → List ℕ → ℕ
below zero xs = 0
below (suc n) xs = below n xs + count_of xs n

abbrev small : ℕ → ℕ → ℕ
small n x = cond (ltb x n) 1 0

small_next : (n x : ℕ) → small (suc n) x ≡ small n x + hit n x
small_next n x =
    elim (cases_lt x n) [
      | inl lt ↦
          let next : x < suc n = omega arith in
          rw (lt-ltb x (suc n) next, lt-ltb x n lt, ne_eqb x n (λ e. omega (arith, e, lt))) refl
      | inr le ↦ elim (cases_eq x n) [
        | inl e ↦ rw e (rw (lt-ltb n (suc n) (one_up n), le-ltb n n (same n), eq-eqb n n refl) refl)
        | inr ne ↦
            let far : suc n ≤ x = omega (arith, le, ne) in
            rw (le-ltb x (suc n) far, le-ltb x n le, ne_eqb x n ne) refl
      ]
    ]
  where
    one_up : (n : ℕ) → n < suc n
    one_up n = omega arith

    same : (n : ℕ) → n ≤ n
    same n = omega arith

below_cons : (n x : ℕ) (xs : List ℕ) → below n (x ∷ xs) ≡ small n x + below n xs
unfolding below
below_cons zero x xs = rw (le-ltb x 0 (least x)) refl
  where
    least : (x : ℕ) → 0 ≤ x
    least x = omega arith
below_cons (suc n) x xs = omega (arith, below_cons n x xs, count_cons x xs n, small_next n x)

below_nil : (n : ℕ) → below n [] ≡ 0
unfolding below
below_nil zero = refl
below_nil (suc n) = omega (arith, below_nil n, count_nil n)

below_most : (n : ℕ) (xs : List ℕ) → below n xs ≤ length xs
below_most n [] = omega (arith, below_nil n)
below_most n (x ∷ xs) = omega (arith, below_cons n x xs, below_most n xs, bit n x)
  where
    bit : (n x : ℕ) → small n x ≤ 1
    bit n x = elim (cases_lt x n) [ inl lt ↦ rw (lt-ltb x n lt) (omega arith) | inr le ↦ rw (le-ltb x n le) (omega arith) ]

-- all below n, by the count
below_all : (n : ℕ) (xs : List ℕ) → list_all (λ x. ltb x n) xs ≡ true → below n xs ≡ length xs
below_all n [] all = below_nil n
below_all n (x ∷ xs) all =
    let both = and_parts (ltb x n) (list_all (λ x. ltb x n) xs) all in
    rw both.0 at (below_cons n x xs) ∙ omega (arith, below_all n xs both.1)

all_below : (n : ℕ) (xs : List ℕ) → below n xs ≡ length xs → list_all (λ x. ltb x n) xs ≡ true
all_below n [] e = refl
all_below n (x ∷ xs) e =
    elim (cases_lt x n) [
      | inl lt ↦ and_from (ltb x n) (list_all (λ x. ltb x n) xs) (lt-ltb x n lt)
          (all_below n xs (omega (arith, e, rw (lt-ltb x n lt) at (below_cons n x xs))))
      | inr le ↦ absurd (omega (arith, e, rw (le-ltb x n le) at (below_cons n x xs), below_most n xs))
    ]

below_same : (n : ℕ) (xs ys : List ℕ) → ((c : ℕ) → c < n → count_of xs c ≡ count_of ys c) → below n xs ≡ below n ys
unfolding below
below_same zero xs ys same = refl
below_same (suc n) xs ys same = omega (arith, below_same n xs ys (λ c lt. same c (omega (arith, lt))), same n (omega arith))

arranged : (n : ℕ) (xs ys : List ℕ) → list_all (λ x. ltb x n) xs ≡ true → length xs ≡ length ys → ((c : ℕ) → c < n → count_of xs c ≡ count_of ys c) → IsPermutation xs ys
arranged n [] [] all len same = IsPermutation-refl []
arranged n [] (y ∷ ys) all len same = absurd (omega (arith, len))
arranged n (x ∷ xs) ys all len same =
    let both = and_parts (ltb x n) (list_all (λ x. ltb x n) xs) all in
    let at = split ys x (omega (arith, same x (ltb-true x n both.0), count_hit x xs)) in
    let shorter : length xs ≡ length (at.front ++ at.back) =
    omega (arith, len, ap length at.is, length-append at.front (x ∷ at.back), length-append at.front at.back) in
    let rest = arranged n xs (at.front ++ at.back) both.1 shorter
    (λ c lt. omega (arith, same c lt, count_cons x xs c, ap (λ l. count_of l c) at.is, count_append at.front (x ∷ at.back) c, count_cons x at.back c, count_append at.front at.back c)) in
    subst (λ l. IsPermutation (x ∷ xs) l) (sym at.is)
    (IsPermutation-trans (x ∷ xs) (x ∷ (at.front ++ at.back)) (at.front ++ x ∷ at.back)
    (IsPermutation-cons x xs (at.front ++ at.back) rest)
    (IsPermutation-sym (at.front ++ x ∷ at.back) (x ∷ (at.front ++ at.back)) (IsPermutation-middle at.front x at.back)))

-- equal lengths, and equal counts of each code of the first list
pub arranged_by_own : (xs ys : List ℕ) → length xs ≡ length ys → ((c : ℕ) → 1 ≤ count_of xs c → count_of xs c ≡ count_of ys c) → IsPermutation xs ys
arranged_by_own [] [] len same = IsPermutation-refl []
arranged_by_own [] (y ∷ ys) len same = absurd (omega (arith, len))
arranged_by_own (x ∷ xs) ys len same =
    let here : count_of (x ∷ xs) x ≡ count_of ys x = same x (omega (arith, count_hit x xs)) in
    let at = split ys x (omega (arith, here, count_hit x xs)) in
    let shorter : length xs ≡ length (at.front ++ at.back) =
    omega (arith, len, ap length at.is, length-append at.front (x ∷ at.back), length-append at.front at.back) in
    let rest = arranged_by_own xs (at.front ++ at.back) shorter
    (λ c some. omega (
      arith,
      same c (omega (arith, some, count_cons x xs c)),
      count_cons x xs c,
      ap (λ l. count_of l c) at.is,
      count_append at.front (x ∷ at.back) c,
      count_cons x at.back c,
      count_append at.front at.back c,
    )) in
    subst (λ l. IsPermutation (x ∷ xs) l) (sym at.is)
    (IsPermutation-trans (x ∷ xs) (x ∷ (at.front ++ at.back)) (at.front ++ x ∷ at.back)
    (IsPermutation-cons x xs (at.front ++ at.back) rest)
    (IsPermutation-sym (at.front ++ x ∷ at.back) (x ∷ (at.front ++ at.back)) (IsPermutation-middle at.front x at.back)))

-- where a code stands
pub place_of_code : (xs : List ℕ) (c : ℕ) → 1 ≤ count_of xs c → (k : ℕ) × (k < length xs) × (slice_index xs k ≡ c)
place_of_code [] c some = absurd (omega (arith, some, count_nil c))
place_of_code (x ∷ xs) c some =
    elim (cases_eq x c) [
      | inl e ↦ (0, omega arith, e)
      | inr ne ↦
          let rest = place_of_code xs c (omega (arith, some, count_miss x xs c ne)) in
          (suc rest.0, omega (arith, rest.1), rest.2)
    ]

-- equal lengths and equal counts of all codes below n, where the second list has no others
pub arranged_by_counts : (n : ℕ) (xs ys : List ℕ) → list_all (λ y. ltb y n) ys ≡ true → length xs ≡ length ys → ((c : ℕ) → c < n → count_of xs c ≡ count_of ys c) → IsPermutation xs ys
arranged_by_counts n xs ys all len same =
    arranged n xs ys (all_below n xs (below_same n xs ys same ∙ below_all n ys all ∙ sym len)) len same

-- equal counts of all codes below n, where neither list has others, make equal lengths
pub same_length : (n : ℕ) (xs ys : List ℕ) → list_all (λ x. ltb x n) xs ≡ true → list_all (λ y. ltb y n) ys ≡ true → ((c : ℕ) → c < n → count_of xs c ≡ count_of ys c) → length xs ≡ length ys
same_length n xs ys all other same = sym (below_all n xs all) ∙ below_same n xs ys same ∙ below_all n ys other

pub arranged_length : (xs ys : List ℕ) → IsPermutation xs ys → length xs ≡ length ys
arranged_length xs ys p = sym (length_permutation xs ys p)
