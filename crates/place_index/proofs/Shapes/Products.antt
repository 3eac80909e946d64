-- Products of sizes, and factors.
use Rattle.std.proofs.Common.{◌≡◌, ℕ, zero, suc, ◌+◌, ◌*◌, ◌<◌, ◌≤◌, List, [], ◌∷◌, length, drop, get_or, refl, ap, ◌∙◌, inl, inr, arith}
use Rattle.std.proofs.lemmas.Bool.{cases_lt, lt-ltb, le-ltb}
use Rattle.std.proofs.lemmas.List.{drop_more, drop_all}
use Rattle.std.proofs.Math.Nat.{mul-le-mul_right, mul-le-mul_left}
use Rattle.place_index.specs.Shape.{product, factor_at}

pub product_cons : (s : ℕ) (rest : List ℕ) → product (s ∷ rest) ≡ s * product rest
unfolding product
product_cons s rest = refl

pub product_nil : product [] ≡ 1
unfolding product
product_nil = refl

some_factor : (a b : ℕ) → 1 ≤ a * b → 1 ≤ b
some_factor a zero some = absurd (omega (arith, some))
some_factor a (suc b) some = omega arith

some_first : (a b : ℕ) → 1 ≤ a * b → 1 ≤ a
some_first zero b some = absurd (omega (arith, some))
some_first (suc a) b some = omega arith

pub some_rest : (s : ℕ) (rest : List ℕ) → 1 ≤ product (s ∷ rest) → 1 ≤ product rest
some_rest s rest some = some_factor s (product rest) (omega (arith, some, product_cons s rest))

pub some_head : (s : ℕ) (rest : List ℕ) → 1 ≤ product (s ∷ rest) → 1 ≤ s
some_head s rest some = some_first s (product rest) (omega (arith, some, product_cons s rest))

pub some_drop : (sizes : List ℕ) (i : ℕ) → 1 ≤ product sizes → 1 ≤ product (drop i sizes)
some_drop sizes zero some = some
some_drop [] (suc i) some = some
some_drop (s ∷ sizes) (suc i) some = some_drop sizes i (some_rest s sizes some)

pub product_drop : (sizes : List ℕ) (i : ℕ) → i < length sizes → product (drop i sizes) ≡ get_or sizes i 0 * product (drop (i + 1) sizes)
product_drop sizes i lt = ap product (drop_more sizes i 0 lt) ∙ product_cons (get_or sizes i 0) (drop (i + 1) sizes)

pub product_all : (sizes : List ℕ) (i : ℕ) → length sizes ≤ i → product (drop i sizes) ≡ 1
product_all sizes i le = ap product (drop_all i sizes le) ∙ product_nil

-- a part of a product is no greater than the whole
pub part_most : (a b whole : ℕ) → a * b ≡ whole → 1 ≤ b → a ≤ whole
part_most a b whole e some = omega (arith, e, mul-le-mul_left a some)

-- ---- factors

pub factor_below : (p : ℕ) (places : List ℕ) (s : ℕ) (sizes : List ℕ) (place : ℕ) → p < place → factor_at (p ∷ places) (s ∷ sizes) place ≡ s * factor_at places sizes place
unfolding factor_at
factor_below p places s sizes place lt = rw (lt-ltb p place lt) refl

pub factor_above : (p : ℕ) (places : List ℕ) (s : ℕ) (sizes : List ℕ) (place : ℕ) → place ≤ p → factor_at (p ∷ places) (s ∷ sizes) place ≡ factor_at places sizes place
unfolding factor_at
factor_above p places s sizes place le = rw (le-ltb p place le) (once (factor_at places sizes place))
  where
    once : (n : ℕ) → 1 * n ≡ n
    once n = omega arith

factor_nil : (places : List ℕ) (place : ℕ) → factor_at places [] place ≡ 1
unfolding factor_at
factor_nil [] place = refl
factor_nil (p ∷ places) place = refl

pub factor_none : (sizes : List ℕ) (place : ℕ) → factor_at [] sizes place ≡ 1
unfolding factor_at
factor_none sizes place = refl

pub factor_most : (places sizes : List ℕ) (place : ℕ) → 1 ≤ product sizes → factor_at places sizes place ≤ product sizes
factor_most [] sizes place some = omega (arith, some, factor_none sizes place)
factor_most (p ∷ places) [] place some = omega (arith, some, factor_nil (p ∷ places) place)
factor_most (p ∷ places) (s ∷ sizes) place some =
    elim (cases_lt p place) [
      | inl lt ↦ omega (arith, factor_below p places s sizes place lt, product_cons s sizes, mul-le-mul_left s (factor_most places sizes place (some_rest s sizes some)))
      | inr le ↦ omega (arith, factor_above p places s sizes place le, product_cons s sizes, factor_most places sizes place (some_rest s sizes some), mul-le-mul_right (product sizes) (some_head s sizes some))
    ]

pub factor_some : (places sizes : List ℕ) (place : ℕ) → 1 ≤ product sizes → 1 ≤ factor_at places sizes place
factor_some [] sizes place some = omega (arith, factor_none sizes place)
factor_some (p ∷ places) [] place some = omega (arith, factor_nil (p ∷ places) place)
factor_some (p ∷ places) (s ∷ sizes) place some =
    elim (cases_lt p place) [
      | inl lt ↦ omega (arith, factor_below p places s sizes place lt, some_head s sizes some, mul-le-mul_left s (factor_some places sizes place (some_rest s sizes some)))
      | inr le ↦ omega (arith, factor_above p places s sizes place le, factor_some places sizes place (some_rest s sizes some))
    ]

-- the factor so far and what is left of it
pub factor_next_below : (places sizes : List ℕ) (place i : ℕ) → i < length places → i < length sizes → get_or places i 0 < place
    → factor_at (drop i places) (drop i sizes) place ≡ get_or sizes i 0 * factor_at (drop (i + 1) places) (drop (i + 1) sizes) place
factor_next_below places sizes place i pp ss lt =
    ap (λ l. factor_at l (drop i sizes) place) (drop_more places i 0 pp)
    ∙ ap (λ l. factor_at (get_or places i 0 ∷ drop (i + 1) places) l place) (drop_more sizes i 0 ss)
    ∙ factor_below (get_or places i 0) (drop (i + 1) places) (get_or sizes i 0) (drop (i + 1) sizes) place lt

pub factor_next_above : (places sizes : List ℕ) (place i : ℕ) → i < length places → i < length sizes → place ≤ get_or places i 0
    → factor_at (drop i places) (drop i sizes) place ≡ factor_at (drop (i + 1) places) (drop (i + 1) sizes) place
factor_next_above places sizes place i pp ss le =
    ap (λ l. factor_at l (drop i sizes) place) (drop_more places i 0 pp)
    ∙ ap (λ l. factor_at (get_or places i 0 ∷ drop (i + 1) places) l place) (drop_more sizes i 0 ss)
    ∙ factor_above (get_or places i 0) (drop (i + 1) places) (get_or sizes i 0) (drop (i + 1) sizes) place le

pub factor_all : (places sizes : List ℕ) (place i : ℕ) → length sizes ≤ i → factor_at (drop i places) (drop i sizes) place ≡ 1
factor_all places sizes place i le = ap (λ l. factor_at (drop i places) l place) (drop_all i sizes le) ∙ factor_nil (drop i places) place
