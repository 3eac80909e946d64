-- The parts of n things are listed, each once.
use Rattle.std.proofs.Common.{◌≡◌, ◌≢◌, ℕ, zero, suc, ◌-◌, ◌<◌, List, [], ◌∷◌, ◌++◌, map, length, get_or, refl, sym, ap, ◌∙◌, inl, inr, arith, subst, drop, length-append}
use Rattle.std.specs.Prelude.{Contains}
use Rattle.std.specs.List.{AllPairs}
use Rattle.std.proofs.lemmas.Bool.{cases_eq, cases_lt}
use Rattle.std.proofs.lemmas.List.{length-map, get_or-map, get_or_append_left, get_or-append_right}
use Rattle.std.proofs.lemmas.List.Elements.{Contains-append_left, Contains-append_right, Contains-append_cases, Contains-get_or}
use Rattle.place_index.specs.Choose.{parts, IsFallingBelow}

abbrev add : ℕ → List ℕ → List ℕ
add n part = n ∷ part

contains_map : (n : ℕ) (ps : List (List ℕ)) (part : List ℕ) → Contains ps part → Contains (map (add n) ps) (n ∷ part)
contains_map n ps part (k, lt, is) =
    (k, omega (arith, lt, length-map ps (add n)), get_or-map (add n) ps k part (n ∷ part) lt ∙ ap (add n) is)

from_map : (n : ℕ) (ps : List (List ℕ)) (part : List ℕ) → Contains (map (add n) ps) part → (rest : List ℕ) × (Contains ps rest) × (n ∷ rest ≡ part)
from_map n ps part (k, lt, is) =
    let within : k < length ps = omega (arith, lt, length-map ps (add n)) in
    (get_or ps k part, Contains-get_or ps k part within, sym (get_or-map (add n) ps k part part within) ∙ is)

falling_wider : (n : ℕ) (part : List ℕ) → IsFallingBelow n part → IsFallingBelow (suc n) part
falling_wider n [] falls = tt
falling_wider n (s ∷ lower) falls = (omega (arith, falls.0), falls.1)

pub listed_falls : (n : ℕ) (part : List ℕ) → Contains (parts n) part → IsFallingBelow n part
unfolding parts
listed_falls zero part (zero, lt, is) = subst (IsFallingBelow 0) is tt
listed_falls zero part (suc k, lt, is) = absurd (omega (arith, lt))
listed_falls (suc n) part c =
    elim (Contains-append_cases (parts n) (map (add n) (parts n)) part c) [
      | inl old ↦ falling_wider n part (listed_falls n part old)
      | inr new ↦
          let rest = from_map n (parts n) part new in
          subst (IsFallingBelow (suc n)) rest.2 (one_up n, listed_falls n rest.0 rest.1)
    ]
  where
    one_up : (n : ℕ) → n < suc n
    one_up n = omega arith

pub falling_listed : (n : ℕ) (part : List ℕ) → IsFallingBelow n part → Contains (parts n) part
unfolding parts
falling_listed zero [] falls = (0, omega arith, refl)
falling_listed zero (s ∷ lower) falls = absurd (omega (arith, falls.0))
falling_listed (suc n) [] falls = Contains-append_left (parts n) (map (add n) (parts n)) [] (falling_listed n [] tt)
falling_listed (suc n) (s ∷ lower) falls =
    elim (cases_eq s n) [
      | inl e ↦ Contains-append_right (parts n) (map (add n) (parts n)) (s ∷ lower)
          (subst (λ t. Contains (map (add n) (parts n)) (t ∷ lower)) (sym e) (contains_map n (parts n) lower (falling_listed n lower (subst (λ t. IsFallingBelow t lower) e falls.1))))
      | inr ne ↦ Contains-append_left (parts n) (map (add n) (parts n)) (s ∷ lower) (falling_listed n (s ∷ lower) (less s n falls.0 ne, falls.1))
    ]
  where
    less : (s n : ℕ) → s < suc n → (s ≡ n → ⊥) → s < n
    less s n lt ne = omega (arith, lt, ne)

-- a list that begins with n isn't below n
not_below : (n : ℕ) (rest part : List ℕ) → IsFallingBelow n part → part ≡ n ∷ rest → ⊥
not_below n rest part falls e =
    let both = subst (IsFallingBelow n) e falls in
    omega (arith, both.0)

tails_apart : (n : ℕ) (xs ys : List ℕ) → n ∷ xs ≡ n ∷ ys → xs ≡ ys
tails_apart n xs ys e = ap (drop 1) e

pairs_append : {X : Type 0} (R : X → X → Type 0) (xs ys : List X) → AllPairs R xs → AllPairs R ys → ((x y : X) → Contains xs x → Contains ys y → R x y) → AllPairs R (xs ++ ys)
pairs_append R xs ys left right across i j d lt within =
    let size = length-append xs ys in
    elim (cases_lt j (length xs)) [
      | inl low ↦
          let first : i < length xs = omega (arith, lt, low) in
          subst (λ x. R x (get_or (xs ++ ys) j d)) (sym (get_or_append_left xs ys d i first))
          (subst (λ y. R (get_or xs i d) y) (sym (get_or_append_left xs ys d j low)) (left i j d lt low))
      | inr high ↦
          let j-in : j - length xs < length ys = omega (arith, within, high, size) in
          subst (λ y. R (get_or (xs ++ ys) i d) y) (sym (get_or-append_right xs ys (length xs) j d refl high))
          (elim (cases_lt i (length xs)) [
            | inl first ↦
                subst (λ x. R x (get_or ys (j - length xs) d)) (sym (get_or_append_left xs ys d i first))
                (across (get_or xs i d) (get_or ys (j - length xs) d) (Contains-get_or xs i d first) (Contains-get_or ys (j - length xs) d j-in))
            | inr second ↦
                subst (λ x. R x (get_or ys (j - length xs) d)) (sym (get_or-append_right xs ys (length xs) i d refl second))
                (right (i - length xs) (j - length xs) d (omega (arith, lt, second)) j-in)
          ])
    ]

pairs_map : (n : ℕ) (ps : List (List ℕ)) → AllPairs (λ one other. one ≢ other) ps → AllPairs (λ one other. one ≢ other) (map (add n) ps)
pairs_map n ps apart i j d lt within e =
    let j-in : j < length ps = omega (arith, within, length-map ps (add n)) in
    let i-in : i < length ps = omega (arith, lt, j-in) in
    apart i j d lt j-in (tails_apart n (get_or ps i d) (get_or ps j d) (sym (get_or-map (add n) ps i d d i-in) ∙ e ∙ get_or-map (add n) ps j d d j-in))

pub listed_once : (n : ℕ) → AllPairs (λ one other. one ≢ other) (parts n)
unfolding parts
listed_once zero = λ i j d lt within e. none i j lt within
  where
    none : (i j : ℕ) → i < j → j < 1 → ⊥
    none i j lt within = omega (arith, lt, within)
listed_once (suc n) =
    pairs_append (λ one other. one ≢ other) (parts n) (map (add n) (parts n)) (listed_once n) (pairs_map n (parts n) (listed_once n))
    (λ x y old new e.
    let rest = from_map n (parts n) y new in
    not_below n rest.0 x (listed_falls n x old) (e ∙ sym rest.2))
