-- The functions of a look-up are what the relations decide.
use Rattle.std.proofs.Common.{◌≡◌, ◌≢◌, ◌∙◌, sym, ap, subst, refl, ℕ, zero, suc, ◌+◌, ◌<◌, ◌≤◌, Bool, true, false, cond, not, eqb, ltb, List, [], ◌∷◌, length, map, Some, None, inl, inr, arith}
use Rattle.std.specs.Prelude.{find, ◌||◌}
use Rattle.std.specs.List.{list_all, range_with_len}
use Rattle.std.specs.List.Sorted.{IsPermutation}
use Rattle.std.proofs.lemmas.Bool.{cases_Bool, cases_eq, and_parts, and_from, or_cases, or_left, or_right, eq-eqb, eqb-true, false≢true, agree_below_at}
use Rattle.board_core.specs.declared.piece.Side.{Side}
use Rattle.board_core.specs.Side.{other}
use Rattle.board_core.specs.declared.piece.Side.TheVariants.{White, Black}
use Rattle.board_core.specs.declared.parts.Parts.{Parts}
use Rattle.place_index.specs.declared.man.Man.{Man}
use Rattle.place_index.specs.Material.{men_of, pieces_of, count_of}
use Rattle.place_index.specs.Turning.{lead_file}
use Rattle.place_index.specs.Men.{codes_of, exchanged, other_side}
use Rattle.place_index.specs.Placed.{Placement, IsNamed, IsMaterialOf, IsSymmetric, IsLookedUp, men_on, is_black}
use Rattle.place_index.proofs.Materials.Arranging.{count_arranged, arranged_by_counts, arranged_length}
use Rattle.place_index.proofs.LookUp.TallyKeys.{found_key}
use Rattle.place_index.proofs.Materials.Symmetric.{codes_exchanged}
use Rattle.std.proofs.lemmas.List.Sorted.{IsPermutation-map}
use Rattle.table_file.specs.Names.{equal}
use Rattle.table_file.specs.Files.{is_symmetric}
use Rattle.judge_core.specs.LookUp.{is_named, is_material, material_of, is_exchanged, placement, placed_of}

-- ---- tests over a range

all_in : (P : ℕ → Bool) (from n i : ℕ) → list_all P (range_with_len from n) ≡ true → from ≤ i → i < from + n → P i ≡ true
all_in P from zero i all low high = absurd (omega arith)
all_in P from (suc n) i all low high =
    let both = and_parts (P from) (list_all P (range_with_len (from + 1) n)) all in
    elim (cases_eq from i) [
      | inl e ↦ ap P (sym e) ∙ both.0
      | inr ne ↦ all_in P (from + 1) n i both.1 (omega (arith, low, ne)) (omega (arith, high))
    ]

in_all : (P : ℕ → Bool) (from n : ℕ) → ((i : ℕ) → from ≤ i → i < from + n → P i ≡ true) → list_all P (range_with_len from n) ≡ true
in_all P from zero each = refl
in_all P from (suc n) each =
    and_from (P from) (list_all P (range_with_len (from + 1) n)) (each from (omega arith) (omega arith))
    (in_all P (from + 1) n (λ i low high. each i (omega (arith, low)) (omega (arith, high))))

-- the one number of a range that passes
found_one : (f : ℕ → Bool) (from n m : ℕ) → from ≤ m → m < from + n → f m ≡ true → ((k : ℕ) → from ≤ k → k < from + n → f k ≡ true → k ≡ m) → find f (range_with_len from n) ≡ Some m
found_one f from zero m low high here only = absurd (omega arith)
found_one f from (suc n) m low high here only = elim (cases_Bool (f from)) [
  | inl first ↦ rw first (ap (λ (k : ℕ). Some k) (only from (omega arith) (omega arith) first))
  | inr other ↦ rw other (found_one f (from + 1) n m (after from m low (λ e. false≢true (sym other ∙ ap f e ∙ here))) (omega (arith, high)) here (λ k a b. only k (omega (arith, a)) (omega (arith, b))))
]
  where
    after : (a b : ℕ) → a ≤ b → a ≢ b → a + 1 ≤ b
    after a b le ne = omega (arith, ne)

found_none : (f : ℕ → Bool) (from n : ℕ) → ((k : ℕ) → from ≤ k → k < from + n → f k ≡ false) → find f (range_with_len from n) ≡ None
found_none f from zero each = refl
found_none f from (suc n) each = rw (each from (omega arith) (omega arith)) (found_none f (from + 1) n (λ k a b. each k (omega (arith, a)) (omega (arith, b))))

-- ---- the men of a table

named-counts : (key : ℕ) (men : List Man) (c : ℕ) → is_named key men ≡ true → c < 16 → count_of (codes_of men) c ≡ count_of (pieces_of key) c
named-counts key men c e lt =
    let counts = λ (d : ℕ). eqb (count_of (codes_of men) d) (count_of (pieces_of key) d) in
    let both = and_parts (eqb (length (codes_of men)) (length (pieces_of key))) (list_all counts (range_with_len 0 16)) e in
    eqb-true (count_of (codes_of men) c) (count_of (pieces_of key) c) (all_in counts 0 16 c both.1 (omega arith) (omega (arith, lt)))

codes_test : (k : ℕ) → k < 145 → list_all (λ y. ltb y 16) (pieces_of k) ≡ true
unfolding pieces_of men_of
codes_test k lt = agree_below_at (λ k. list_all (λ y. ltb y 16) (pieces_of k)) (λ k. true) 145 k refl lt

pub named-is : (key : ℕ) (men : List Man) → key < 145 → is_named key men ≡ true → IsNamed key men
named-is key men known e =
    let counts = λ (d : ℕ). eqb (count_of (codes_of men) d) (count_of (pieces_of key) d) in
    let both = and_parts (eqb (length (codes_of men)) (length (pieces_of key))) (list_all counts (range_with_len 0 16)) e in
    arranged_by_counts 16 (codes_of men) (pieces_of key) (codes_test key known) (eqb-true (length (codes_of men)) (length (pieces_of key)) both.0) (λ c lt. named-counts key men c e lt)

pub is-named : (key : ℕ) (men : List Man) → IsNamed key men → is_named key men ≡ true
is-named key men p =
    let counts = λ (d : ℕ). eqb (count_of (codes_of men) d) (count_of (pieces_of key) d) in
    and_from (eqb (length (codes_of men)) (length (pieces_of key))) (list_all counts (range_with_len 0 16))
    (eq-eqb (length (codes_of men)) (length (pieces_of key)) (arranged_length (codes_of men) (pieces_of key) p))
    (in_all counts 0 16 (λ c low high. eq-eqb (count_of (codes_of men) c) (count_of (pieces_of key) c) (count_arranged (codes_of men) (pieces_of key) c p)))

one_material : (j k : ℕ) (men : List Man) → j < 145 → k < 145 → IsMaterialOf j men → IsMaterialOf k men → j ≡ k
one_material j k men lj lk mj mk = sym (found_key j men lj mj) ∙ found_key k men lk mk

-- ---- the material

material-is : (key : ℕ) (men : List Man) → key < 145 → is_material men key ≡ true → IsMaterialOf key men
unfolding is_material
material-is key men known e = elim (or_cases (is_named key men) (is_named key (exchanged men)) e) [
  | inl own ↦ inl (named-is key men known own)
  | inr other ↦ inr (named-is key (exchanged men) known other)
]

is-material : (key : ℕ) (men : List Man) → IsMaterialOf key men → is_material men key ≡ true
unfolding is_material
is-material key men m = elim m [
  | inl own ↦ or_left (is_named key men) (is_named key (exchanged men)) (is-named key men own)
  | inr other ↦ or_right (is_named key men) (is_named key (exchanged men)) (is-named key (exchanged men) other)
]

pub material_found : (p : Parts) (key : ℕ) → key < 145 → IsMaterialOf key (men_on p.men) → Some key ≡ material_of p
unfolding material_of
material_found p key known m =
    sym (found_one (is_material (men_on p.men)) 0 145 key (omega arith) (omega (arith, known)) (is-material key (men_on p.men) m)
    (λ k low high e. one_material k key (men_on p.men) (omega (arith, high)) known (material-is k (men_on p.men) (omega (arith, high)) e) m))

pub material_none : (p : Parts) → ((key : ℕ) → key < 145 → IsMaterialOf key (men_on p.men) → ⊥) → None ≡ material_of p
unfolding material_of
material_none p none = sym (found_none (is_material (men_on p.men)) 0 145 (λ k low high. elim (cases_Bool (is_material (men_on p.men) k)) [
  | inl yes' ↦ absurd (none k (omega (arith, high)) (material-is k (men_on p.men) (omega (arith, high)) yes'))
  | inr no' ↦ no'
]))

-- ---- the placement

-- the men are the same with colours exchanged
abbrev is_balanced : ℕ → Bool
is_balanced k = list_all (λ c. eqb (count_of (map other_side (pieces_of k)) c) (count_of (pieces_of k) c)) (range_with_len 0 16)

balanced_test : (k : ℕ) → k < 145 → (not (is_balanced k) || is_symmetric k) ≡ true
unfolding pieces_of men_of count_of is_symmetric
balanced_test k lt = agree_below_at (λ k. not (is_balanced k) || is_symmetric k) (λ k. true) 145 k refl lt

symmetric_is : (k : ℕ) → is_symmetric k ≡ true → IsSymmetric k
unfolding is_symmetric
symmetric_is k e = same_lists (men_of k).first (men_of k).second e
  where
    same_lists : (xs ys : List ℕ) → equal xs ys ≡ true → xs ≡ ys
    same_lists [] [] e = refl
    same_lists [] (y ∷ ys) e = absurd (false≢true e)
    same_lists (x ∷ xs) [] e = absurd (false≢true e)
    same_lists (x ∷ xs) (y ∷ ys) e =
        let both = and_parts (eqb x y) (equal xs ys) e in
        let here = eqb-true x y both.0 in
        let rest = same_lists xs ys both.1 in
        rw (here, rest) refl

-- men in the table's colours both as they are and exchanged are those of a symmetric table
both_named : (key : ℕ) (men : List Man) → key < 145 → IsNamed key men → IsNamed key (exchanged men) → is_symmetric key ≡ true
both_named key men known a b =
    let turned = IsPermutation-map other_side (codes_of men) (pieces_of key) a in
    let own = subst (λ (l : List ℕ). IsPermutation l (pieces_of key)) (codes_exchanged men) b in
    let balanced : is_balanced key ≡ true = in_all (λ c. eqb (count_of (map other_side (pieces_of key)) c) (count_of (pieces_of key) c)) 0 16
    (λ c low high. eq-eqb (count_of (map other_side (pieces_of key)) c) (count_of (pieces_of key) c)
    (sym (count_arranged (map other_side (codes_of men)) (map other_side (pieces_of key)) c turned) ∙ count_arranged (map other_side (codes_of men)) (pieces_of key) c own)) in
    after_not (is_balanced key) (is_symmetric key) balanced (balanced_test key known)
  where
    after_not : (x y : Bool) → x ≡ true → (not x || y) ≡ true → y ≡ true
    after_not true y e h = h
    after_not false y e h = absurd (false≢true e)

-- the side to move after an exchange of colours, and what it was where that is white
unswapped : (b : Bool) (side : Side) → cond b (other side) side ≡ White → b ≡ is_black side
unswapped true White e = absurd cc
unswapped true Black e = refl
unswapped false White e = refl
unswapped false Black e = absurd cc

decided : (key : ℕ) (p : Parts) (placed : Placement) → key < 145 → (l : IsLookedUp key p placed) → l.is_exchanged ≡ is_exchanged key p
decided key p placed known l = elim (cases_Bool (is_symmetric key)) [
  | inl even ↦ unswapped l.is_exchanged p.side (sym l.side ∙ l.white (symmetric_is key even)) ∙ sym (chosen even)
  | inr odd ↦ by_men l.is_exchanged odd (subst (IsNamed key) l.men l.named) ∙ sym (by_colours odd)
]
  where
    chosen : is_symmetric key ≡ true → is_exchanged key p ≡ is_black p.side
    chosen e = ap (λ b. cond b (is_black p.side) (not (is_named key (men_on p.men)))) e

    by_colours : is_symmetric key ≡ false → is_exchanged key p ≡ not (is_named key (men_on p.men))
    by_colours e = ap (λ b. cond b (is_black p.side) (not (is_named key (men_on p.men)))) e

    by_men : (b : Bool) → is_symmetric key ≡ false → IsNamed key (cond b (exchanged (men_on p.men)) (men_on p.men)) → b ≡ not (is_named key (men_on p.men))
    by_men false odd named = ap not (sym (is-named key (men_on p.men) named))
    by_men true odd named = elim (cases_Bool (is_named key (men_on p.men))) [
      | inl own ↦ absurd (false≢true (sym odd ∙ both_named key (men_on p.men) known (named-is key (men_on p.men) known own) named))
      | inr not_own ↦ ap not (sym not_own)
    ]

same_fields : (a : Placement) (key : ℕ) (men : List Man) (side : Side) (file : ℕ) → a.material ≡ key → a.men ≡ men → a.side ≡ side → a.file ≡ file → a ≡ record { material = key; men = men; side = side; file = file }
same_fields a key men side file k m s f = rw (← k, ← m, ← s, ← f) refl

same_placement : (b : Bool) (key : ℕ) (p : Parts) (placed : Placement) → placed.material ≡ key → placed.men ≡ cond b (exchanged (men_on p.men)) (men_on p.men) → placed.side ≡ cond b (other p.side) p.side → placed.file ≡ lead_file key placed.men
    → placed ≡ cond b (placement key (exchanged (men_on p.men)) (other p.side)) (placement key (men_on p.men) p.side)
same_placement true key p placed m men side file = same_fields placed key _ _ _ m men side (file ∙ ap (lead_file key) men)
same_placement false key p placed m men side file = same_fields placed key _ _ _ m men side (file ∙ ap (lead_file key) men)

pub placed_is : (key : ℕ) (p : Parts) (placed : Placement) → key < 145 → IsLookedUp key p placed → placed ≡ placed_of key p
unfolding placed_of
placed_is key p placed known l =
    same_placement l.is_exchanged key p placed l.material l.men l.side l.file
    ∙ ap (λ b. cond b (placement key (exchanged (men_on p.men)) (other p.side)) (placement key (men_on p.men) p.side)) (decided key p placed known l)
