-- The sizes of the groups after the leading one, and their product.
use Rattle.std.proofs.Common.{◌≡◌, ℕ, zero, suc, ◌+◌, ◌-◌, ◌*◌, ◌<◌, ◌≤◌, cond, List, [], ◌∷◌, ◌++◌, length, take, drop, get_or, refl, sym, ap, ◌∙◌, inl, inr, zero-add, arith, append_assoc, length-append}
use Rattle.std.specs.Prelude.{sum_by}
use Rattle.std.proofs.lemmas.Bool.{cases_Bool}
use Rattle.std.proofs.lemmas.List.{drop_more, drop_all, append-nil}
use Rattle.std.proofs.lemmas.List.Sums.{sum_by-cons, sum_by_more, sum_by_more_le}
use Rattle.std.proofs.Math.Nat.{mul-le-mul_right, mul-le-mul_left}
use Rattle.place_index.specs.Choose.{choose}
use Rattle.place_index.specs.Shape.{product, other_sizes, is_pawn_code}
use Rattle.place_index.specs.declared.group.Group.{Group}
use Rattle.place_index.proofs.Counting.Choosing.{choose_none, choose_step, choose_some, choose_falling, falling, falling_none, falling_step}
use Rattle.place_index.proofs.Shapes.Products.{product_cons, product_nil}

abbrev pub men : Group → ℕ
men g = g.men

abbrev pub squares_of : ℕ → ℕ → Group → ℕ
squares_of lead free g = cond (is_pawn_code g.code) (48 - lead) free

pub other_cons : (lead free : ℕ) (g : Group) (rest : List Group) → other_sizes lead free (g ∷ rest) ≡ choose (squares_of lead free g) g.men ∷ other_sizes lead (free - g.men) rest
unfolding other_sizes
other_cons lead free g rest = refl

pub other_nil : (lead free : ℕ) → other_sizes lead free [] ≡ []
unfolding other_sizes
other_nil lead free = refl

pub squares_most : (lead free : ℕ) (g : Group) → 48 - lead ≤ free → squares_of lead free g ≤ free
squares_most lead free g le =
    elim (cases_Bool (is_pawn_code g.code)) [
      | inl t ↦ rw t le
      | inr f ↦ rw f (same free)
    ]
  where
    same : (n : ℕ) → n ≤ n
    same n = omega arith

squares_least : (lead free : ℕ) (g : Group) → 48 - lead ≤ free → 48 - lead ≤ squares_of lead free g
squares_least lead free g le =
    elim (cases_Bool (is_pawn_code g.code)) [
      | inl t ↦ rw t (same (48 - lead))
      | inr f ↦ rw f le
    ]
  where
    same : (n : ℕ) → n ≤ n
    same n = omega arith

-- ---- the loop

-- The sizes of the groups before an index are in the list, and so many squares are left.
pub record IsSized (first lead : ℕ) (groups : List Group) (i free : ℕ) (sizes : List ℕ) : Type 0 where
  pub is : sizes ++ other_sizes lead free (drop i groups) ≡ first ∷ other_sizes lead (64 - lead) groups
  pub left : free + sum_by men (take i groups) ≡ 64 - lead
  pub size : length sizes ≡ 1 + i

pub sized_none : (first lead : ℕ) (groups : List Group) → IsSized first lead groups 0 (64 - lead) (first ∷ [])
sized_none first lead groups = record { is = refl; left = omega arith; size = omega arith }

pub sized_more : (first lead : ℕ) (groups : List Group) (i free : ℕ) (sizes : List ℕ) (g d : Group) → IsSized first lead groups i free sizes → i < length groups → g ≡ get_or groups i d
    → g.men ≤ free → IsSized first lead groups (i + 1) (free - g.men) (sizes ++ choose (squares_of lead free g) g.men ∷ [])
sized_more first lead groups i free sizes g d s lt is few =
    let here : drop i groups ≡ g ∷ drop (i + 1) groups = drop_more groups i d lt ∙ ap (λ x. x ∷ drop (i + 1) groups) (sym is) in
    record {
      is = append_assoc sizes (choose (squares_of lead free g) g.men ∷ []) (other_sizes lead (free - g.men) (drop (i + 1) groups))
          ∙ ap (λ l. sizes ++ l) (sym (ap (other_sizes lead free) here ∙ other_cons lead free g (drop (i + 1) groups))) ∙ s.is;
      left = omega (arith, s.left, few, sum_by_more men groups i d lt, ap men is);
      size = omega (arith, s.size, length-append sizes (choose (squares_of lead free g) g.men ∷ []));
    }

pub sized_all : (first lead : ℕ) (groups : List Group) (i free : ℕ) (sizes : List ℕ) → IsSized first lead groups i free sizes → length groups ≤ i → sizes ≡ first ∷ other_sizes lead (64 - lead) groups
sized_all first lead groups i free sizes s all =
    sym (append-nil sizes) ∙ ap (λ l. sizes ++ l) (sym (other_nil lead free)) ∙ ap (λ l. sizes ++ other_sizes lead free l) (sym (drop_all i groups all)) ∙ s.is

-- what is left is enough for the men
pub sized_left : (first lead : ℕ) (groups : List Group) (i free : ℕ) (sizes : List ℕ) (g d : Group) → IsSized first lead groups i free sizes → i < length groups → g ≡ get_or groups i d
    → lead ≤ 3 → sum_by men groups ≤ 5 → (g.men ≤ 5) × (56 ≤ free + 5) × (free ≤ 64)
sized_left first lead groups i free sizes g d s lt is few all =
    (omega (arith, all, ap men is, sum_by_more_le men groups i d lt), omega (arith, s.left, few, all, sum_by_more_le men groups i d lt), omega (arith, s.left))

-- ---- the product

choose_grows : (n k : ℕ) → choose n k ≤ choose (suc n) k
choose_grows n zero = omega (arith, choose_none n, choose_none (suc n))
choose_grows n (suc k) = omega (arith, choose_step n k)

choose_far : (d n k : ℕ) → choose n k ≤ choose (d + n) k
choose_far zero n k =
    let e : choose (zero + n) k ≡ choose n k = ap (λ m. choose m k) (zero-add n) in
    omega (arith, e)
choose_far (suc d) n k =
    let n-is : suc d + n ≡ suc (d + n) = omega arith in
    let e : choose (suc d + n) k ≡ choose (suc (d + n)) k = ap (λ m. choose m k) n-is in
    omega (arith, e, choose_far d n k, choose_grows (d + n) k)

pub choose_mono : (m n k : ℕ) → m ≤ n → choose m k ≤ choose n k
choose_mono m n k le =
    let n-is : (n - m) + m ≡ n = omega arith in
    let e : choose ((n - m) + m) k ≡ choose n k = ap (λ i. choose i k) n-is in
    omega (arith, e, choose_far (n - m) m k)

falling_add : (n a b : ℕ) → falling n (a + b) ≡ falling n a * falling (n - a) b
falling_add n a zero =
    let e : a + zero ≡ a = omega arith in
    rw (e, falling_none (n - a)) (omega arith)
falling_add n a (suc b) =
    let e : a + suc b ≡ suc (a + b) = omega arith in
    let d : n - (a + b) ≡ n - a - b = omega arith in
    rw (e, falling_step n (a + b), falling_step (n - a) b, falling_add n a b, d) (omega arith)

-- the products of the bounds bound the product
pub both_below : (a b x y : ℕ) → a ≤ x → b ≤ y → a * b ≤ x * y
both_below a b x y aa bb = omega (arith, mul-le-mul_right b aa, mul-le-mul_left x bb)

pub product_most : (lead free : ℕ) (groups : List Group) → 48 - lead + sum_by men groups ≤ free → product (other_sizes lead free groups) ≤ falling free (sum_by men groups)
product_most lead free [] enough = omega (arith, ap product (other_nil lead free), product_nil, falling_none free)
product_most lead free (g ∷ rest) enough =
    let total = sum_by-cons men g rest in
    let here : choose (squares_of lead free g) g.men ≤ falling free g.men =
    omega (arith, choose_mono (squares_of lead free g) free g.men (squares_most lead free g (omega (arith, enough))), choose_falling free g.men) in
    let there = product_most lead (free - g.men) rest (omega (arith, enough, total)) in
    let e : falling free (sum_by men (g ∷ rest)) ≡ falling free g.men * falling (free - g.men) (sum_by men rest) = ap (falling free) total ∙ falling_add free g.men (sum_by men rest) in
    omega (
      arith,
      e,
      ap product (other_cons lead free g rest),
      product_cons (choose (squares_of lead free g) g.men) (other_sizes lead (free - g.men) rest),
      both_below (choose (squares_of lead free g) g.men) (product (other_sizes lead (free - g.men) rest)) (falling free g.men) (falling (free - g.men) (sum_by men rest)) here there,
    )

pub product_some : (lead free : ℕ) (groups : List Group) → lead ≤ 3 → 48 - lead + sum_by men groups ≤ free → sum_by men groups ≤ 5 → 1 ≤ product (other_sizes lead free groups)
product_some lead free [] low enough few = omega (arith, ap product (other_nil lead free), product_nil)
product_some lead free (g ∷ rest) low enough few =
    let total = sum_by-cons men g rest in
    let here : 1 ≤ choose (squares_of lead free g) g.men =
    choose_some (squares_of lead free g) g.men (omega (arith, low, few, total, squares_least lead free g (omega (arith, enough)))) in
    let there = product_some lead (free - g.men) rest low (omega (arith, enough, total)) (omega (arith, few, total)) in
    omega (
      arith,
      ap product (other_cons lead free g rest),
      product_cons (choose (squares_of lead free g) g.men) (other_sizes lead (free - g.men) rest),
      both_below 1 1 (choose (squares_of lead free g) g.men) (product (other_sizes lead (free - g.men) rest)) here there,
    )
