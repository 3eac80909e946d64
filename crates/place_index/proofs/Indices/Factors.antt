-- Sums of numbers times factors, the groups standing at any places.
use Rattle.std.proofs.Common.{◌≡◌, ◌≢◌, ℕ, zero, suc, ◌+◌, ◌*◌, ◌<◌, Bool, true, false, cond, eqb, List, [], ◌∷◌, ◌++◌, length, map, refl, sym, ap, ◌∙◌, inl, inr, arith}
use Rattle.std.specs.Prelude.{nat_lt, filter, Option, Some, None}
use Rattle.std.proofs.lemmas.Bool.{cases_lt, cases_eq, cases_Bool, eq-eqb, ne_eqb, lt-ltb, le-ltb, false≢true}
use Rattle.std.proofs.lemmas.Nat.{mul-add-lt, same_from_place}
use Rattle.place_index.specs.Shape.{product, factor_at, places_given, is_free, upto, places, Layout, HasGoodOrder, places_of, second_of, both_have_pawns, groups_of}
use Rattle.place_index.specs.Index.{sum_of_products}
use Rattle.place_index.proofs.Shapes.Products.{product_cons, product_nil, factor_below, factor_above, factor_none}

-- ---- different places

abbrev pub IsApart : ℕ → List ℕ → Type 0
IsApart q [] = Unit {0}
IsApart q (p ∷ ps) = (p ≢ q) × IsApart q ps

abbrev pub AreDistinct : List ℕ → Type 0
AreDistinct [] = Unit {0}
AreDistinct (p ∷ ps) = IsApart p ps × AreDistinct ps

abbrev pub AreUnder : ℕ → List ℕ → Type 0
AreUnder n [] = Unit {0}
AreUnder n (p ∷ ps) = (p < n) × AreUnder n ps

abbrev pub AreBelow : List ℕ → List ℕ → Type 0
AreBelow [] [] = Unit {0}
AreBelow [] (n ∷ numbers) = ⊥
AreBelow (s ∷ sizes) [] = ⊥
AreBelow (s ∷ sizes) (n ∷ numbers) = (n < s) × AreBelow sizes numbers

-- ---- what stands at a place

abbrev number_at : List ℕ → List ℕ → ℕ → ℕ
number_at [] ns q = 0
number_at (p ∷ ps) [] q = 0
number_at (p ∷ ps) (n ∷ ns) q = cond (eqb p q) n (number_at ps ns q)

abbrev size_at : List ℕ → List ℕ → ℕ → ℕ
size_at [] ss q = 1
size_at (p ∷ ps) [] q = 1
size_at (p ∷ ps) (s ∷ ss) q = cond (eqb p q) s (size_at ps ss q)

no_number : (ps ns : List ℕ) (q : ℕ) → IsApart q ps → number_at ps ns q ≡ 0
no_number [] ns q a = refl
no_number (p ∷ ps) [] q a = refl
no_number (p ∷ ps) (n ∷ ns) q a = rw (ne_eqb p q a.0) (no_number ps ns q a.1)

no_size : (ps ss : List ℕ) (q : ℕ) → IsApart q ps → size_at ps ss q ≡ 1
no_size [] ss q a = refl
no_size (p ∷ ps) [] q a = refl
no_size (p ∷ ps) (s ∷ ss) q a = rw (ne_eqb p q a.0) (no_size ps ss q a.1)

below_at : (ps ss ns : List ℕ) (q : ℕ) → AreBelow ss ns → number_at ps ns q < size_at ps ss q
below_at [] ss ns q b = omega arith
below_at (p ∷ ps) [] [] q b = omega arith
below_at (p ∷ ps) [] (n ∷ ns) q b = absurd b
below_at (p ∷ ps) (s ∷ ss) [] q b = absurd b
below_at (p ∷ ps) (s ∷ ss) (n ∷ ns) q b =
    elim (cases_eq p q) [
      | inl e ↦ rw (eq-eqb p q e) b.0
      | inr ne ↦ rw (ne_eqb p q ne) (below_at ps ss ns q b.1)
    ]

-- ---- the sum over the groups at places before one

abbrev part : (ℕ → ℕ) → List ℕ → List ℕ → ℕ → ℕ
part f [] ns q = 0
part f (p ∷ ps) [] q = 0
part f (p ∷ ps) (n ∷ ns) q = cond (nat_lt p q) (n * f p) 0 + part f ps ns q

part_step : (f : ℕ → ℕ) (ps ns : List ℕ) (q : ℕ) → AreDistinct ps → part f ps ns (suc q) ≡ number_at ps ns q * f q + part f ps ns q
part_step f [] ns q d = omega arith
part_step f (p ∷ ps) [] q d = omega arith
part_step f (p ∷ ps) (n ∷ ns) q d =
    elim (cases_eq p q) [
      | inl e ↦
          let apart = rw e at d.0 in
          let none : number_at ps ns q * f q ≡ 0 = ap (λ x. x * f q) (no_number ps ns q apart) ∙ zero_times (f q) in
          let same : n * f p ≡ n * f q = ap (λ x. n * f x) e in
          rw (eq-eqb p q e, lt-ltb p (suc q) (omega (arith, e)), le-ltb p q (omega (arith, e))) (omega (arith, part_step f ps ns q d.1, none, same))
      | inr ne ↦ elim (cases_lt p q) [
        | inl lt ↦ rw (ne_eqb p q ne, lt-ltb p (suc q) (omega (arith, lt)), lt-ltb p q lt) (omega (arith, part_step f ps ns q d.1))
        | inr le ↦ rw (ne_eqb p q ne, le-ltb p (suc q) (omega (arith, le, ne)), le-ltb p q le) (omega (arith, part_step f ps ns q d.1))
      ]
    ]
  where
    zero_times : (x : ℕ) → 0 * x ≡ 0
    zero_times x = omega arith

part_none : (f : ℕ → ℕ) (ps ns : List ℕ) → part f ps ns 0 ≡ 0
part_none f [] ns = refl
part_none f (p ∷ ps) [] = refl
part_none f (p ∷ ps) (n ∷ ns) = rw (le-ltb p 0 (omega arith)) (omega (arith, part_none f ps ns))

part_all : (f : ℕ → ℕ) (ps ns : List ℕ) (q : ℕ) → AreUnder q ps → part f ps ns q ≡ sum_of_products ns (map f ps)
unfolding sum_of_products
part_all f [] [] q u = refl
part_all f [] (n ∷ ns) q u = refl
part_all f (p ∷ ps) [] q u = refl
part_all f (p ∷ ps) (n ∷ ns) q u = rw (lt-ltb p q u.0) (ap (λ x. n * f p + x) (part_all f ps ns q u.1))

-- ---- the factors

factor_nil : (ps : List ℕ) (q : ℕ) → factor_at ps [] q ≡ 1
unfolding factor_at
factor_nil [] q = refl
factor_nil (p ∷ ps) q = refl

factor_first : (ps ss : List ℕ) → factor_at ps ss 0 ≡ 1
factor_first [] ss = factor_none ss 0
factor_first (p ∷ ps) [] = factor_nil (p ∷ ps) 0
factor_first (p ∷ ps) (s ∷ ss) = factor_above p ps s ss 0 (omega arith) ∙ factor_first ps ss

factor_all : (ps ss : List ℕ) (q : ℕ) → length ps ≡ length ss → AreUnder q ps → factor_at ps ss q ≡ product ss
factor_all [] [] q e u = factor_none [] q ∙ sym product_nil
factor_all [] (s ∷ ss) q e u = absurd (omega (arith, e))
factor_all (p ∷ ps) [] q e u = absurd (omega (arith, e))
factor_all (p ∷ ps) (s ∷ ss) q e u = factor_below p ps s ss q u.0 ∙ ap (λ x. s * x) (factor_all ps ss q (omega (arith, e)) u.1) ∙ sym (product_cons s ss)

factor_step : (ps ss : List ℕ) (q : ℕ) → AreDistinct ps → factor_at ps ss (suc q) ≡ size_at ps ss q * factor_at ps ss q
factor_step [] ss q d = omega (arith, factor_none ss (suc q), factor_none ss q)
factor_step (p ∷ ps) [] q d = omega (arith, factor_nil (p ∷ ps) (suc q), factor_nil (p ∷ ps) q)
factor_step (p ∷ ps) (s ∷ ss) q d =
    elim (cases_eq p q) [
      | inl e ↦
          let apart = rw e at d.0 in
          let none : size_at ps ss q * factor_at ps ss q ≡ factor_at ps ss q = ap (λ x. x * factor_at ps ss q) (no_size ps ss q apart) ∙ once (factor_at ps ss q) in
          let rest : factor_at ps ss (suc q) ≡ factor_at ps ss q = factor_step ps ss q d.1 ∙ none in
          rw (eq-eqb p q e) (factor_below p ps s ss (suc q) (omega (arith, e)) ∙ ap (λ x. s * x) (rest ∙ sym (factor_above p ps s ss q (omega (arith, e)))))
      | inr ne ↦ elim (cases_lt p q) [
        | inl lt ↦ rw (ne_eqb p q ne) (factor_below p ps s ss (suc q) (omega (arith, lt)) ∙ ap (λ x. s * x) (factor_step ps ss q d.1) ∙ swap s (size_at ps ss q) (factor_at ps ss q)
            ∙ ap (λ x. size_at ps ss q * x) (sym (factor_below p ps s ss q lt)))
        | inr le ↦ rw (ne_eqb p q ne) (factor_above p ps s ss (suc q) (omega (arith, le, ne)) ∙ factor_step ps ss q d.1
            ∙ ap (λ x. size_at ps ss q * x) (sym (factor_above p ps s ss q le)))
      ]
    ]
  where
    once : (n : ℕ) → 1 * n ≡ n
    once n = omega arith

    swap : (a b c : ℕ) → a * (b * c) ≡ b * (a * c)
    swap a b c = grind arith

-- ---- below the factor, and of one list of numbers

part_below : (ps ss ns : List ℕ) (q : ℕ) → AreDistinct ps → AreBelow ss ns → part (factor_at ps ss) ps ns q < factor_at ps ss q
part_below ps ss ns zero d b = omega (arith, part_none (factor_at ps ss) ps ns, factor_first ps ss)
part_below ps ss ns (suc q) d b =
    let step = mul-add-lt (number_at ps ns q) (factor_at ps ss q) (part (factor_at ps ss) ps ns q) (size_at ps ss q) (below_at ps ss ns q b) (part_below ps ss ns q d b) in
    omega (arith, step, part_step (factor_at ps ss) ps ns q d, factor_step ps ss q d)

part_one : (ps ss ns ms : List ℕ) (q : ℕ) → AreDistinct ps → AreBelow ss ns → AreBelow ss ms → part (factor_at ps ss) ps ns q ≡ part (factor_at ps ss) ps ms q
    → (r : ℕ) → r < q → number_at ps ns r ≡ number_at ps ms r
part_one ps ss ns ms zero d b c e r lt = absurd (omega arith)
part_one ps ss ns ms (suc q) d b c e r lt =
    let at = same_from_place (number_at ps ns q) (part (factor_at ps ss) ps ns q) (number_at ps ms q) (part (factor_at ps ss) ps ms q) (factor_at ps ss q)
    (part_below ps ss ns q d b) (part_below ps ss ms q d c) (sym (part_step (factor_at ps ss) ps ns q d) ∙ e ∙ part_step (factor_at ps ss) ps ms q d) in
    elim (cases_eq r q) [
      | inl same ↦ rw same at.0
      | inr ne ↦ part_one ps ss ns ms q d b c at.1 r (omega (arith, lt, ne))
    ]

one_list : (ps ss ns ms : List ℕ) (q : ℕ) → length ps ≡ length ss → AreDistinct ps → AreUnder q ps → AreBelow ss ns → AreBelow ss ms → ((r : ℕ) → r < q → number_at ps ns r ≡ number_at ps ms r) → ns ≡ ms
one_list [] [] [] [] q len d u b c same = refl
one_list [] [] (n ∷ ns) ms q len d u b c same = absurd b
one_list [] [] [] (m ∷ ms) q len d u b c same = absurd c
one_list [] (s ∷ ss) ns ms q len d u b c same = absurd (omega (arith, len))
one_list (p ∷ ps) [] ns ms q len d u b c same = absurd (omega (arith, len))
one_list (p ∷ ps) (s ∷ ss) [] ms q len d u b c same = absurd b
one_list (p ∷ ps) (s ∷ ss) (n ∷ ns) [] q len d u b c same = absurd c
one_list (p ∷ ps) (s ∷ ss) (n ∷ ns) (m ∷ ms) q len d u b c same =
    let head : n ≡ m = rw (eq-eqb p p refl) at (same p u.0) in
    let tail = one_list ps ss ns ms q (omega (arith, len)) d.1 u.1 b.1 c.1 (λ r lt. elim (cases_eq p r) [
      | inl e ↦ let apart = rw e at d.0 in no_number ps ns r apart ∙ sym (no_number ps ms r apart)
      | inr ne ↦ rw (ne_eqb p r ne) at (same r lt)
    ]) in
    rw (head, tail) refl

pub sum_below : (ps ss ns : List ℕ) (q : ℕ) → length ps ≡ length ss → AreDistinct ps → AreUnder q ps → AreBelow ss ns → sum_of_products ns (map (factor_at ps ss) ps) < product ss
sum_below ps ss ns q len d u b =
    omega (arith, part_below ps ss ns q d b, part_all (factor_at ps ss) ps ns q u, factor_all ps ss q len u)

pub sum_one : (ps ss ns ms : List ℕ) (q : ℕ) → length ps ≡ length ss → AreDistinct ps → AreUnder q ps → AreBelow ss ns → AreBelow ss ms
    → sum_of_products ns (map (factor_at ps ss) ps) ≡ sum_of_products ms (map (factor_at ps ss) ps) → ns ≡ ms
sum_one ps ss ns ms q len d u b c e =
    one_list ps ss ns ms q len d u b c (part_one ps ss ns ms q d b c (part_all (factor_at ps ss) ps ns q u ∙ e ∙ sym (part_all (factor_at ps ss) ps ms q u)))

-- ---- the places of a layout are different, and below the number of groups

apart_filter : (p : ℕ → Bool) (q : ℕ) (xs : List ℕ) → p q ≡ false → IsApart q (filter p xs)
apart_filter p q [] e = tt
apart_filter p q (x ∷ xs) e =
    elim (cases_Bool (p x)) [
      | inl t ↦ rw t ((λ same. false≢true (sym e ∙ ap p (sym same) ∙ t)), apart_filter p q xs e)
      | inr f ↦ rw f (apart_filter p q xs e)
    ]

apart_still : (p : ℕ → Bool) (q : ℕ) (xs : List ℕ) → IsApart q xs → IsApart q (filter p xs)
apart_still p q [] a = tt
apart_still p q (x ∷ xs) a = elim (cases_Bool (p x)) [ inl t ↦ rw t (a.0, apart_still p q xs a.1) | inr f ↦ rw f (apart_still p q xs a.1) ]

distinct_filter : (p : ℕ → Bool) (xs : List ℕ) → AreDistinct xs → AreDistinct (filter p xs)
distinct_filter p [] d = tt
distinct_filter p (x ∷ xs) d = elim (cases_Bool (p x)) [ inl t ↦ rw t (apart_still p x xs d.0, distinct_filter p xs d.1) | inr f ↦ rw f (distinct_filter p xs d.1) ]

under_filter : (p : ℕ → Bool) (n : ℕ) (xs : List ℕ) → AreUnder n xs → AreUnder n (filter p xs)
under_filter p n [] u = tt
under_filter p n (x ∷ xs) u = elim (cases_Bool (p x)) [ inl t ↦ rw t (u.0, under_filter p n xs u.1) | inr f ↦ rw f (under_filter p n xs u.1) ]

under_push : (n x : ℕ) (xs : List ℕ) → AreUnder n xs → x < n → AreUnder n (xs ++ x ∷ [])
under_push n x [] u lt = (lt, tt)
under_push n x (y ∷ xs) u lt = (u.0, under_push n x xs u.1 lt)

under_more : (n : ℕ) (xs : List ℕ) → AreUnder n xs → AreUnder (suc n) xs
under_more n [] u = tt
under_more n (x ∷ xs) u = (omega (arith, u.0), under_more n xs u.1)

apart_push : (q x : ℕ) (xs : List ℕ) → IsApart q xs → x ≢ q → IsApart q (xs ++ x ∷ [])
apart_push q x [] a ne = (ne, tt)
apart_push q x (y ∷ xs) a ne = (a.0, apart_push q x xs a.1 ne)

distinct_push : (x : ℕ) (xs : List ℕ) → AreDistinct xs → AreUnder x xs → AreDistinct (xs ++ x ∷ [])
distinct_push x [] d u = (tt, tt)
distinct_push x (y ∷ xs) d u = (apart_push y x xs d.0 (λ e. omega (arith, e, u.0)), distinct_push x xs d.1 u.1)

upto_under : (n : ℕ) → AreUnder n (upto n)
unfolding upto
upto_under zero = tt
upto_under (suc n) = under_push (suc n) n (upto n) (under_more n (upto n) (upto_under n)) (omega arith)

upto_distinct : (n : ℕ) → AreDistinct (upto n)
unfolding upto
upto_distinct zero = tt
upto_distinct (suc n) = distinct_push n (upto n) (upto_distinct n) (upto_under n)

order_taken : (order : ℕ) (second : Option ℕ) → is_free (places_given order second) order ≡ false
order_taken order None = rw (eq-eqb order order refl) refl
order_taken order (Some second) = rw (eq-eqb order order refl) refl

second_taken : (order second : ℕ) → is_free (places_given order (Some second)) second ≡ false
second_taken order second = elim (cases_Bool (eqb order second)) [ inl t ↦ rw t refl | inr f ↦ rw (f, eq-eqb second second refl) refl ]

places_distinct : (order : ℕ) (second : Option ℕ) (n : ℕ) → ((s : ℕ) → second ≡ Some s → s ≢ order) → AreDistinct (places (places_given order second) n)
unfolding places
places_distinct order None n ne = (apart_filter _ order (upto n) (order_taken order None), distinct_filter _ (upto n) (upto_distinct n))
places_distinct order (Some second) n ne =
    ((ne second refl, apart_filter _ order (upto n) (order_taken order (Some second))), (apart_filter _ second (upto n) (second_taken order second), distinct_filter _ (upto n) (upto_distinct n)))

places_under : (order : ℕ) (second : Option ℕ) (n : ℕ) → order < n → ((s : ℕ) → second ≡ Some s → s < n) → AreUnder n (places (places_given order second) n)
unfolding places
places_under order None n lt few = (lt, under_filter _ n (upto n) (upto_under n))
places_under order (Some second) n lt few = (lt, (few second refl, under_filter _ n (upto n) (upto_under n)))

pub second_is : (key second s : ℕ) → cond (both_have_pawns key) (Some second) None ≡ Some s → (both_have_pawns key ≡ true) × (second ≡ s)
second_is key second s e =
    elim (cases_Bool (both_have_pawns key)) [
      | inl t ↦ (t, same (rw t at e))
      | inr f ↦ absurd (none (rw f at e))
    ]
  where
    same : Some second ≡ Some s → second ≡ s
    same h = cc

    none : ◌≡◌ {A = Option ℕ} None (Some s) → ⊥
    none h = cc

pub layout_distinct : (l : Layout) → HasGoodOrder l → AreDistinct (places_of l)
layout_distinct l good =
    places_distinct l.order (second_of l) (length (groups_of l)) (λ s is same.
    let b = second_is l.material l.second s is in
    (good.second b.0).1 (b.1 ∙ same))

pub layout_under : (l : Layout) → HasGoodOrder l → AreUnder (length (groups_of l)) (places_of l)
layout_under l good =
    places_under l.order (second_of l) (length (groups_of l)) good.order (λ s is.
    let b = second_is l.material l.second s is in
    omega (arith, b.1, (good.second b.0).0))
