-- Sums over the symbols of blocks, and cut lengths.
use Rattle.std.proofs.Common.{◌≡◌, ℕ, zero, suc, ◌-◌, ◌+◌, ◌/◌, ◌≤◌, ◌<◌, Some, true, false, cond, List, [], ◌∷◌, ◌++◌, length, get_or, take, drop, map, refl, sym, ap, ◌∙◌, inl, inr, append_assoc, arith}
use Rattle.std.specs.Prelude.{◌⊎◌, nat_le, slice_get}
use Rattle.std.specs.List.{flat_map, All}
use Rattle.std.proofs.lemmas.Bool.{cases_Bool, leb-true, leb-false}
use Rattle.std.proofs.lemmas.List.{length-append, append-nil, take_more, drop_more, drop_all}
use Rattle.pair_dict.specs.Symbols.{HasSymbolValues, leaf, pair, values_of, left, right, symbol_count}
use Rattle.pair_dict.proofs.Settling.{has_some}
use Rattle.table_file.specs.declared.forging.codes.Code.{Code}
use Rattle.table_file.specs.Plan.{codes_size, symbols_values, value_count, IsGoodContent, IsGoodPart, AreGoodMaps, is_wide}
use Rattle.table_file.specs.declared.plan.PartPlan.{PartPlan}
use Rattle.table_file.specs.declared.kind.TableKind.{TableKind}
use Rattle.table_file.proofs.Views.{got}
use Rattle.table_file.specs.PlannedFile.{Laid, laid_part, laid_parts, cut_lengths}
use Rattle.table_file.specs.Inside.Writing.{AreCountsOf, sum_of, HasGoodValues}
use Rattle.table_file.specs.declared.plan.Content.{Content}
use Rattle.table_file.specs.declared.plan.Content.TheVariants.{Single, Pairs}

sum_append : (counts xs ys : List ℕ) → sum_of counts (xs ++ ys) ≡ sum_of counts xs + sum_of counts ys
sum_append counts [] ys = omega arith
sum_append counts (x ∷ xs) ys = let e = sum_append counts xs ys in omega (arith, e)

-- one symbol more
pub sum_more : (counts block : List ℕ) (i s : ℕ) → i < length block → s ≡ get_or block i s → sum_of counts (take (i + 1) block) ≡ sum_of counts (take i block) + get_or counts s 0
sum_more counts block i s lt is =
    let more : take (i + 1) block ≡ take i block ++ s ∷ [] = take_more block i s lt ∙ ap (λ y. take i block ++ y ∷ []) (sym is) in
    rw more (sum_append counts (take i block) (s ∷ []) ∙ omega arith)

pub sum_front : (counts block : List ℕ) (i : ℕ) → sum_of counts (take i block) ≤ sum_of counts block
sum_front counts [] zero = omega arith
sum_front counts [] (suc i) = omega arith
sum_front counts (s ∷ block) zero = omega arith
sum_front counts (s ∷ block) (suc i) = let e = sum_front counts block i in omega (arith, e)

size_append : (code : ℕ → Code) (xs ys : List ℕ) → codes_size code (xs ++ ys) ≡ codes_size code xs + codes_size code ys
size_append code [] ys = omega arith
size_append code (x ∷ xs) ys = let e = size_append code xs ys in omega (arith, e)

pub size_more : (code : ℕ → Code) (block : List ℕ) (i s : ℕ) → i < length block → s ≡ get_or block i s → codes_size code (take (i + 1) block) ≡ codes_size code (take i block) + (code s).length
size_more code block i s lt is =
    let more : take (i + 1) block ≡ take i block ++ s ∷ [] = take_more block i s lt ∙ ap (λ y. take i block ++ y ∷ []) (sym is) in
    rw more (size_append code (take i block) (s ∷ []) ∙ omega arith)

pub size_front : (code : ℕ → Code) (block : List ℕ) (i : ℕ) → codes_size code (take i block) ≤ codes_size code block
size_front code [] zero = omega arith
size_front code [] (suc i) = omega arith
size_front code (s ∷ block) zero = omega arith
size_front code (s ∷ block) (suc i) = let e = size_front code block i in omega (arith, e)

-- the sum over a block's symbols is the number of its values
pub sum_is : (symbols counts block : List ℕ) → AreCountsOf symbols counts → ((i : ℕ) → i < length block → get_or block i 0 < length counts) → sum_of counts block ≡ value_count symbols block
unfolding symbols_values
sum_is symbols counts [] h known = refl
sum_is symbols counts (s ∷ block) h known =
    let e = sum_is symbols counts block h (λ i lt. known (suc i) (omega (arith, lt))) in
    let f = h.each s (known 0 (omega arith)) in
    let g = length-append (values_of symbols s) (flat_map (values_of symbols) block) in
    omega (arith, e, f, g)

-- the length of one block more
pub cut_next : {X : Type 0} (f : X → ℕ) (xs : List X) (i : ℕ) (x : X) (done whole : List ℕ) (left count held : ℕ)
    → i < length xs → x ≡ get_or xs i x → count ≡ f x → (count ≤ left → held ≡ count) → (left < count → held ≡ left)
    → done ++ cut_lengths (map f (drop i xs)) left ≡ whole
    → (done ++ (held - 1) ∷ []) ++ cut_lengths (map f (drop (i + 1) xs)) (left - held) ≡ whole
cut_next f xs i x done whole left count held lt is count-is all cut h =
    let more : drop i xs ≡ x ∷ drop (i + 1) xs = drop_more xs i x lt ∙ ap (λ y. y ∷ drop (i + 1) xs) (sym is) in
    let rest = cut_lengths (map f (drop (i + 1) xs)) (left - held) in
    let step : cut_lengths (map f (drop i xs)) left ≡ (held - 1) ∷ rest = rw (more, ← count-is) (head (cases_Bool (nat_le count left))) in
    append_assoc done ((held - 1) ∷ []) rest ∙ ap (λ ys. done ++ ys) (sym step) ∙ h
  where
    head : ((nat_le count left ≡ true) ⊎ (nat_le count left ≡ false)) → (cond (nat_le count left) count left - 1) ∷ cut_lengths (map f (drop (i + 1) xs)) (left - count) ≡ (held - 1) ∷ cut_lengths (map f (drop (i + 1) xs)) (left - held)
    head (inl small) = let e = all (leb-true count left small) in rw (small, e) refl
    head (inr large) =
        let lt = leb-false count left large in
        let e = cut lt in
        let z : left - count ≡ left - left = omega (arith, lt) in
        rw (large, e, z) refl

-- a leaf has one value, and a pair has those of both
pub one_value : (symbols : List ℕ) (s : ℕ) (vs : List ℕ) → HasSymbolValues symbols s vs → right symbols s ≡ 4095 → vs ≡ left symbols s ∷ []
one_value symbols s vs (leaf lt e) is = refl
one_value symbols s vs (pair lt ne a b e) is = absurd (ne is)

pub record Halves (symbols : List ℕ) (s : ℕ) (vs : List ℕ) : Type 0 where
  pub first : List ℕ
  pub second : List ℕ
  pub first_has : HasSymbolValues symbols (left symbols s) first
  pub second_has : HasSymbolValues symbols (right symbols s) second
  pub both : vs ≡ first ++ second
  pub first_some : 1 ≤ length first
  pub second_some : 1 ≤ length second

pub halves_of : (symbols : List ℕ) (s : ℕ) (vs : List ℕ) → HasSymbolValues symbols s vs → (right symbols s ≡ 4095 → ⊥) → Halves symbols s vs
halves_of symbols s vs (leaf lt e) ne = absurd (ne e)
halves_of symbols s vs (pair {xs = xs} {ys = ys} lt not a b e) ne =
    record { first = xs; second = ys; first_has = a; second_has = b; both = e; first_some = has_some a; second_some = has_some b }

pub has_known : (symbols : List ℕ) (s : ℕ) (vs : List ℕ) → HasSymbolValues symbols s vs → s < symbol_count symbols
has_known symbols s vs (leaf lt e) = lt
has_known symbols s vs (pair lt ne a b e) = lt

-- ---- parts

-- one part more
pub laid_next : (material sides k : ℕ) (parts : List PartPlan) (p : PartPlan) (done whole : List Laid) (l : Laid) → k < length parts → p ≡ get_or parts k p → l ≡ laid_part material p (k / sides)
    → done ++ laid_parts material sides k (drop k parts) ≡ whole → (done ++ l ∷ []) ++ laid_parts material sides (k + 1) (drop (k + 1) parts) ≡ whole
laid_next material sides k parts p done whole l lt is laid h =
    let more : drop k parts ≡ p ∷ drop (k + 1) parts = drop_more parts k p lt ∙ ap (λ y. y ∷ drop (k + 1) parts) (sym is) in
    let rest = laid_parts material sides (k + 1) (drop (k + 1) parts) in
    let n : suc k ≡ k + 1 = omega arith in
    let step : laid_parts material sides k (drop k parts) ≡ l ∷ rest = rw (more, laid) (ap (λ j. laid_part material p (k / sides) ∷ laid_parts material sides j (drop (k + 1) parts)) n) in
    append_assoc done (l ∷ []) rest ∙ ap (λ ys. done ++ ys) (sym step) ∙ h

same_at : (xs : List PartPlan) (k : ℕ) (d : PartPlan) → k < length xs → get_or xs k d ≡ get_or xs k (get_or xs k d)
same_at [] k d lt = absurd (omega (arith, lt))
same_at (x ∷ xs) zero d lt = refl
same_at (x ∷ xs) (suc k) d lt = same_at xs k d (omega (arith, lt))

pub good_maps : (kind : TableKind) (material sides : ℕ) (parts : List PartPlan) → ((k : ℕ) (p : PartPlan) → slice_get parts k ≡ Some p → IsGoodPart kind material p (k / sides)) → All (λ p. AreGoodMaps (is_wide p) p.maps) parts
good_maps kind material sides parts each = λ k d lt. (each k (get_or parts k d) (got parts k (get_or parts k d) lt (same_at parts k d lt))).good_maps

good_values : (kind : TableKind) (content : Content) (flags size : ℕ) → IsGoodContent kind content flags size → HasGoodValues content
good_values kind (Single v) flags size h = tt
good_values kind (Pairs q) flags size h = (h.1.values, h.1.fit)

pub all_good_values : (kind : TableKind) (material sides : ℕ) (parts : List PartPlan) → ((k : ℕ) (p : PartPlan) → slice_get parts k ≡ Some p → IsGoodPart kind material p (k / sides)) → All (λ p. HasGoodValues p.content) parts
all_good_values kind material sides parts each = λ k d lt.
    let p = get_or parts k d in
    let good = each k p (got parts k p lt (same_at parts k d lt)) in
    good_values kind p.content p.flags _ good.content

-- ---- all parts

pub laid_end : (material sides k : ℕ) (parts : List PartPlan) (done whole : List Laid) → length parts ≤ k → done ++ laid_parts material sides k (drop k parts) ≡ whole → done ≡ whole
laid_end material sides k parts done whole le h =
    sym (append-nil done) ∙ ap (λ (xs : List PartPlan). done ++ laid_parts material sides k xs) (sym (drop_all k parts le)) ∙ h
