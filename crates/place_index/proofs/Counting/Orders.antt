-- Lists of numbers by their first difference.
use Rattle.std.proofs.Common.{◌≡◌, ℕ, ◌<◌, ◌⊎◌, List, [], ◌∷◌, ◌++◌, length, refl, sym, ap, inl, inr, arith}
use Rattle.std.proofs.lemmas.Bool.{cases_order}
use Rattle.place_index.specs.Choose.{IsLater}

-- ---- lists of numbers, the first difference

pub later_head : (x y : ℕ) (xs ys : List ℕ) → IsLater (x ∷ xs) (y ∷ ys) → (x < y) ⊎ ((x ≡ y) × IsLater xs ys)
later_head x y xs ys ([], a, b, low, high, ex, ey, lt) =
    let p : x ≡ a = cc in
    let q : y ≡ b = cc in
    inl (omega (arith, p, q, lt))
later_head x y xs ys (f ∷ front, a, b, low, high, ex, ey, lt) =
    let p : x ≡ y = cc in
    let q : xs ≡ front ++ a ∷ low = cc in
    let r : ys ≡ front ++ b ∷ high = cc in
    inr (p, (front, a, b, low, high, q, r, lt))

pub never_later : IsLater [] [] → ⊥
never_later ([], a, b, low, high, ex, ey, lt) = cc
never_later (f ∷ front, a, b, low, high, ex, ey, lt) = cc

pub later_nil : (ys : List ℕ) → IsLater [] ys → ⊥
later_nil ys ([], a, b, low, high, ex, ey, lt) = cc
later_nil ys (f ∷ front, a, b, low, high, ex, ey, lt) = cc

pub nil_later : (xs : List ℕ) → IsLater xs [] → ⊥
nil_later xs ([], a, b, low, high, ex, ey, lt) = cc
nil_later xs (f ∷ front, a, b, low, high, ex, ey, lt) = cc

pub same_heads : (x y : ℕ) (xs ys : List ℕ) → x ∷ xs ≡ y ∷ ys → (x ≡ y) × (xs ≡ ys)
same_heads x y xs ys e = (cc, cc)

pub later_more : (x y : ℕ) (xs ys : List ℕ) → x ≡ y → IsLater xs ys → IsLater (x ∷ xs) (y ∷ ys)
later_more x y xs ys e (front, a, b, low, high, p, q, lt) = (x ∷ front, a, b, low, high, ap (λ l. x ∷ l) p, rw e (ap (λ l. y ∷ l) q), lt)

pub later_total : (xs ys : List ℕ) → length xs ≡ length ys → (xs ≡ ys) ⊎ (IsLater xs ys ⊎ IsLater ys xs)
later_total [] [] same = inl refl
later_total [] (y ∷ ys) same = absurd (omega (arith, same))
later_total (x ∷ xs) [] same = absurd (omega (arith, same))
later_total (x ∷ xs) (y ∷ ys) same =
    elim (cases_order x y) [
      | inr (inl lt) ↦ inr (inl ([], x, y, xs, ys, refl, refl, lt))
      | inr (inr gt) ↦ inr (inr ([], y, x, ys, xs, refl, refl, gt))
      | inl eq ↦ elim (later_total xs ys (omega (arith, same))) [
        | inl e ↦ inl (rw (eq, e) refl)
        | inr (inl l) ↦ inr (inl (later_more x y xs ys eq l))
        | inr (inr l) ↦ inr (inr (later_more y x ys xs (sym eq) l))
      ]
    ]
