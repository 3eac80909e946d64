-- Equal pieces side by side, by looking back from each piece that differs from the one before.
use Rattle.std.proofs.Common.{◌≡◌, ℕ, zero, suc, ◌-◌, ◌<◌, ◌≤◌, Bool, true, false, eqb, List, [], ◌∷◌, length, take, slice_index, get_or, refl, sym, ap, ◌∙◌, inl, inr, arith, length-take-le}
use Rattle.std.specs.List.{list_any}
use Rattle.std.proofs.lemmas.Bool.{cases_eq, false≢true, eq-eqb, eqb-true, or_left, or_right, or_cases}
use Rattle.std.proofs.lemmas.List.{get_or-take}
use Rattle.place_index.specs.Shape.{IsSideBySide}

-- whether a code stands in a list
pub stands : ℕ → List ℕ → Bool
stands c xs = list_any (λ x. eqb x c) xs

pub stands_is : (c : ℕ) (xs : List ℕ) → stands c xs ≡ list_any (λ x. eqb x c) xs
unfolding stands
stands_is c xs = refl

stands_at : (c : ℕ) (xs : List ℕ) (i : ℕ) → i < length xs → get_or xs i 0 ≡ c → stands c xs ≡ true
unfolding stands
stands_at c [] i lt e = absurd (omega (arith, lt))
stands_at c (x ∷ xs) zero lt e = or_left (eqb x c) (list_any (λ x. eqb x c) xs) (eq-eqb x c e)
stands_at c (x ∷ xs) (suc i) lt e = or_right (eqb x c) (list_any (λ x. eqb x c) xs) (stands_at c xs i (omega (arith, lt)) e)

found : (c : ℕ) (xs : List ℕ) → stands c xs ≡ true → (i : ℕ) × (i < length xs) × (get_or xs i 0 ≡ c)
unfolding stands
found c [] e = absurd (false≢true e)
found c (x ∷ xs) e =
    elim (or_cases (eqb x c) (list_any (λ x. eqb x c) xs) e) [
      | inl here ↦ (0, omega arith, eqb-true x c here)
      | inr later ↦ let rest = found c xs later in (suc rest.0, omega (arith, rest.1), rest.2)
    ]

-- a piece that differs from the one before it stands nowhere before
abbrev pub IsFresh : List ℕ → ℕ → Type 0
IsFresh pieces k = (slice_index pieces k ≡ slice_index pieces (k - 1) → ⊥) → stands (slice_index pieces k) (take k pieces) ≡ false

by_last : (pieces : List ℕ) → ((k : ℕ) → 1 ≤ k → k < length pieces → IsFresh pieces k)
    → (k i j : ℕ) → i ≤ j → j ≤ k → k < length pieces → slice_index pieces i ≡ slice_index pieces k → slice_index pieces j ≡ slice_index pieces k
by_last pieces fresh zero i j low high within e =
    let j-is : j ≡ 0 = omega (arith, high) in
    ap (slice_index pieces) j-is
by_last pieces fresh (suc k) i j low high within e =
    elim (cases_eq j (suc k)) [
      | inl same ↦ ap (slice_index pieces) same
      | inr ne ↦
          let before : suc k - 1 ≡ k = omega arith in
          elim (cases_eq (slice_index pieces (suc k)) (slice_index pieces (suc k - 1))) [
            | inl run ↦
                let run-is : slice_index pieces (suc k) ≡ slice_index pieces k = run ∙ ap (slice_index pieces) before in
                by_last pieces fresh k i j low (omega (arith, high, ne)) (omega (arith, within)) (e ∙ run-is) ∙ sym run-is
            | inr other ↦
                let first : i < suc k = omega (arith, low, high, ne) in
                let size = length-take-le (suc k) pieces (omega (arith, within)) in
                absurd (false≢true (sym (fresh (suc k) (omega arith) within other)
                ∙ stands_at (slice_index pieces (suc k)) (take (suc k) pieces) i (omega (arith, first, size)) (get_or-take (suc k) pieces i 0 first ∙ e)))
          ]
    ]

pub side_by_side : (pieces : List ℕ) → ((k : ℕ) → 1 ≤ k → k < length pieces → IsFresh pieces k) → IsSideBySide pieces
side_by_side pieces fresh i j k = by_last pieces fresh k i j

pub not_side_by_side : (pieces : List ℕ) (k : ℕ) → 1 ≤ k → k < length pieces → (slice_index pieces k ≡ slice_index pieces (k - 1) → ⊥)
    → stands (slice_index pieces k) (take k pieces) ≡ true → IsSideBySide pieces → ⊥
not_side_by_side pieces k one within ne stood side =
    let at = found (slice_index pieces k) (take k pieces) stood in
    let first : at.0 < k = omega (arith, at.1, length-take-le k pieces (omega (arith, within))) in
    ne (sym (side at.0 (k - 1) k (omega (arith, first)) (omega arith) within (sym (get_or-take k pieces at.0 0 first) ∙ at.2)))
