-- Men that stand as a table wants them, and the numbers of the groups after the leading one.
use Rattle.std.proofs.Common.{◌≡◌, ℕ, ◌+◌, ◌-◌, ◌<◌, ◌≤◌, true, false, cond, IsTrue, List, [], ◌∷◌, ◌++◌, length, refl, sym, ap, ◌∙◌, subst, inl, inr, arith, length-append}
use Rattle.std.proofs.lemmas.Bool.{cases_Bool}
use Rattle.place_index.specs.Material.{pieces_of, count_of}
use Rattle.place_index.specs.Choose.{choose, IsFallingBelow}
use Rattle.place_index.specs.Men.{stands, squares_of}
use Rattle.place_index.specs.Kings.{kings_apart}
use Rattle.place_index.specs.Others.{standing, free_set_number, IsWithin, AreFreeSquares, AreEarlier, IsFreeSet}
use Rattle.place_index.specs.Shape.{is_pawn_code, other_sizes}
use Rattle.place_index.specs.Index.{squares_of_all, other_numbers}
use Rattle.place_index.specs.declared.group.Group.{Group}
use Rattle.place_index.specs.declared.man.Man.{Man}
use Rattle.place_index.proofs.Counting.Falling.{falling_falls, falling_within, falling_free, standing_above, standing_fails, standing_most, falling_same, same_falling}
use Rattle.place_index.proofs.Indices.Factors.{IsApart, AreDistinct, AreBelow}
use Rattle.place_index.proofs.Counting.FreeSets.{free_set_below, free_set_one}
use Rattle.place_index.proofs.Shapes.Grouping.{AllGroups, AreGroups}

-- Each man stands on a square of its own, and each code on as many squares as the material has men of it.
pub record IsSettled (key : ℕ) (men : List Man) : Type 0 where
  pub board : (c s : ℕ) → stands men c s ≡ true → s < 64
  pub once : (c d s : ℕ) → stands men c s ≡ true → stands men d s ≡ true → c ≡ d
  pub counts : (c : ℕ) → length (squares_of men c) ≡ count_of (pieces_of key) c
  pub pawns : (c s : ℕ) → is_pawn_code c ≡ true → stands men c s ≡ true → (8 ≤ s) × (s < 56)
  pub kings : (a b : ℕ) → stands men 6 a ≡ true → stands men 14 b ≡ true → IsTrue (kings_apart a b)

-- ---- squares of one code

pub squares_fall : (men : List Man) (c : ℕ) → IsFallingBelow 64 (squares_of men c)
unfolding squares_of
squares_fall men c = falling_falls (stands men c) 64

pub squares_within : (first last : ℕ) (men : List Man) (c : ℕ) → ((s : ℕ) → s < 64 → stands men c s ≡ true → (first ≤ s) × (s < last)) → IsWithin first last (squares_of men c)
unfolding squares_of
squares_within first last men c all = falling_within first last (stands men c) 64 all

squares_free : (earlier : List ℕ) (men : List Man) (c : ℕ) → ((s : ℕ) → s < 64 → stands men c s ≡ true → standing earlier s ≡ 0) → AreFreeSquares earlier (squares_of men c)
unfolding squares_of
squares_free earlier men c all = falling_free earlier (stands men c) 64 all

squares_most : (men : List Man) (c s : ℕ) → standing (squares_of men c) s ≤ 1
unfolding squares_of
squares_most men c s = standing_most (stands men c) 64 s

squares_none : (men : List Man) (c s : ℕ) → stands men c s ≡ false → standing (squares_of men c) s ≡ 0
unfolding squares_of
squares_none men c s e = standing_fails (stands men c) 64 s e

squares_above : (men : List Man) (c s : ℕ) → 64 ≤ s → standing (squares_of men c) s ≡ 0
unfolding squares_of
squares_above men c s le = standing_above (stands men c) 64 s le

pub squares_same : (men other : List Man) (c : ℕ) → ((s : ℕ) → s < 64 → stands men c s ≡ stands other c s) → squares_of men c ≡ squares_of other c
unfolding squares_of
squares_same men other c same = falling_same (stands men c) (stands other c) 64 same

pub same_squares : (men other : List Man) (c s : ℕ) → squares_of men c ≡ squares_of other c → s < 64 → stands men c s ≡ stands other c s
unfolding squares_of
same_squares men other c s e lt = same_falling (stands men c) (stands other c) 64 s e lt

-- falling from a bound, and within a lower one
falls_within : (first last n : ℕ) (xs : List ℕ) → IsFallingBelow n xs → IsWithin first last xs → IsFallingBelow last xs
falls_within first last n [] f w = tt
falls_within first last n (x ∷ xs) f w = (w.1, f.1)

-- ---- squares of earlier codes

standing_nil : (s : ℕ) → standing [] s ≡ 0
unfolding standing
standing_nil s = refl

pub standing_append : (xs ys : List ℕ) (s : ℕ) → standing (xs ++ ys) s ≡ standing xs s + standing ys s
unfolding standing
standing_append [] ys s = omega arith
standing_append (x ∷ xs) ys s = omega (arith, standing_append xs ys s)

within_append : (first last : ℕ) (xs ys : List ℕ) → IsWithin first last xs → IsWithin first last ys → IsWithin first last (xs ++ ys)
within_append first last [] ys a b = b
within_append first last (x ∷ xs) ys a b = (a.0, a.1, within_append first last xs ys a.2 b)

-- no man of the codes stands where another one does
earlier_none : (key : ℕ) (men : List Man) (codes : List ℕ) (c s : ℕ) → IsSettled key men → IsApart c codes → stands men c s ≡ true → standing (squares_of_all men codes) s ≡ 0
earlier_none key men [] c s h a here = standing_nil s
earlier_none key men (d ∷ codes) c s h a here =
    let other : stands men d s ≡ false = elim (cases_Bool (stands men d s)) [ inl is ↦ absurd (a.0 (h.once d c s is here)) | inr isnt ↦ isnt ] in
    omega (arith, standing_append (squares_of men d) (squares_of_all men codes) s, squares_none men d s other, earlier_none key men codes c s h a.1 here)

earlier_once : (key : ℕ) (men : List Man) (codes : List ℕ) (s : ℕ) → IsSettled key men → AreDistinct codes → standing (squares_of_all men codes) s ≤ 1
earlier_once key men [] s h d = omega (arith, standing_nil s)
earlier_once key men (c ∷ codes) s h d =
    elim (cases_Bool (stands men c s)) [
      | inl is ↦ omega (arith, standing_append (squares_of men c) (squares_of_all men codes) s, squares_most men c s, earlier_none key men codes c s h d.0 is)
      | inr isnt ↦ omega (arith, standing_append (squares_of men c) (squares_of_all men codes) s, squares_none men c s isnt, earlier_once key men codes s h d.1)
    ]

earlier_within : (first last : ℕ) (men : List Man) (codes : List ℕ) → ((c s : ℕ) → s < 64 → stands men c s ≡ true → (first ≤ s) × (s < last)) → IsWithin first last (squares_of_all men codes)
earlier_within first last men [] all = tt
earlier_within first last men (c ∷ codes) all =
    within_append first last (squares_of men c) (squares_of_all men codes) (squares_within first last men c (all c)) (earlier_within first last men codes all)

pub are_earlier : (key : ℕ) (men : List Man) (codes : List ℕ) → IsSettled key men → AreDistinct codes → AreEarlier 0 64 (squares_of_all men codes)
are_earlier key men codes h d = record {
  once = λ s. earlier_once key men codes s h d;
  within = earlier_within 0 64 men codes (λ c s lt is. (omega arith, lt));
}

pub is_free_set : (key : ℕ) (men : List Man) (codes : List ℕ) (c : ℕ) → IsSettled key men → IsApart c codes → IsFreeSet 0 64 (squares_of_all men codes) (squares_of men c)
is_free_set key men codes c h a = record {
  falling = squares_fall men c;
  within = squares_within 0 64 men c (λ s lt is. (omega arith, lt));
  free = squares_free (squares_of_all men codes) men c (λ s lt is. earlier_none key men codes c s h a is);
}

-- pawns after pawns
one_code : (first last : ℕ) (men : List Man) (c : ℕ) → IsWithin first last (squares_of men c) → IsWithin first last (squares_of_all men (c ∷ []))
one_code first last men c w = within_append first last (squares_of men c) [] w tt

pub are_earlier_pawns : (key : ℕ) (men : List Man) (c : ℕ) → IsSettled key men → is_pawn_code c ≡ true → AreEarlier 8 56 (squares_of_all men (c ∷ []))
are_earlier_pawns key men c h pawn = record {
  once = λ s. earlier_once key men (c ∷ []) s h (tt, tt);
  within = one_code 8 56 men c (squares_within 8 56 men c (λ s lt is. h.pawns c s pawn is));
}

pub is_free_pawn_set : (key : ℕ) (men : List Man) (codes : List ℕ) (c : ℕ) → IsSettled key men → IsApart c codes → is_pawn_code c ≡ true → IsFreeSet 8 56 (squares_of_all men codes) (squares_of men c)
is_free_pawn_set key men codes c h a pawn = record {
  falling = falls_within 8 56 64 (squares_of men c) (squares_fall men c) (squares_within 8 56 men c (λ s lt is. h.pawns c s pawn is));
  within = squares_within 8 56 men c (λ s lt is. h.pawns c s pawn is);
  free = squares_free (squares_of_all men codes) men c (λ s lt is. earlier_none key men codes c s h a is);
}

-- ---- the numbers of groups without pawns

sizes_cons : (lead free : ℕ) (g : Group) (gs : List Group) → is_pawn_code g.code ≡ false → other_sizes lead free (g ∷ gs) ≡ choose free g.men ∷ other_sizes lead (free - g.men) gs
unfolding other_sizes
sizes_cons lead free g gs e = rw e refl

sizes_pawns : (lead free : ℕ) (g : Group) (gs : List Group) → is_pawn_code g.code ≡ true → other_sizes lead free (g ∷ gs) ≡ choose (48 - lead) g.men ∷ other_sizes lead (free - g.men) gs
unfolding other_sizes
sizes_pawns lead free g gs e = rw e refl

pub numbers_cons : (earlier : List ℕ) (men : List Man) (g : Group) (gs : List Group) → is_pawn_code g.code ≡ false
    → other_numbers earlier men (g ∷ gs) ≡ free_set_number 0 (squares_of_all men earlier) (squares_of men g.code) ∷ other_numbers (g.code ∷ earlier) men gs
unfolding other_numbers
numbers_cons earlier men g gs e = ap (λ b. free_set_number (cond {A = ℕ} b 8 0) (squares_of_all men earlier) (squares_of men g.code) ∷ other_numbers (g.code ∷ earlier) men gs) e

pub numbers_pawns : (earlier : List ℕ) (men : List Man) (g : Group) (gs : List Group) → is_pawn_code g.code ≡ true
    → other_numbers earlier men (g ∷ gs) ≡ free_set_number 8 (squares_of_all men earlier) (squares_of men g.code) ∷ other_numbers (g.code ∷ earlier) men gs
unfolding other_numbers
numbers_pawns earlier men g gs e = ap (λ b. free_set_number (cond {A = ℕ} b 8 0) (squares_of_all men earlier) (squares_of men g.code) ∷ other_numbers (g.code ∷ earlier) men gs) e

pub numbers_nil : (earlier : List ℕ) (men : List Man) → other_numbers earlier men [] ≡ []
unfolding other_numbers
numbers_nil earlier men = refl

sizes_nil : (lead free : ℕ) → other_sizes lead free [] ≡ []
unfolding other_sizes
sizes_nil lead free = refl

-- as many squares as the material has men
group_size : (key : ℕ) (men : List Man) (pieces : List ℕ) (g : Group) → IsSettled key men → ((c : ℕ) → count_of pieces c ≡ count_of (pieces_of key) c) → g.men ≡ count_of pieces g.code
    → length (squares_of men g.code) ≡ g.men
group_size key men pieces g h same is = h.counts g.code ∙ sym (same g.code) ∙ sym is

pub numbers_below : (key lead free : ℕ) (men : List Man) (pieces earlier : List ℕ) (gs : List Group) → IsSettled key men → ((c : ℕ) → count_of pieces c ≡ count_of (pieces_of key) c)
    → AreGroups pieces earlier gs → AreDistinct earlier → AllGroups (λ c. is_pawn_code c ≡ false) gs → free ≡ 64 - length (squares_of_all men earlier)
    → AreBelow (other_sizes lead free gs) (other_numbers earlier men gs)
numbers_below key lead free men pieces earlier [] h same a d plain is = rw (sizes_nil lead free, numbers_nil earlier men) tt
numbers_below key lead free men pieces earlier (g ∷ gs) h same a d plain is =
    let size = group_size key men pieces g h same a.0 in
    let first = free_set_below 0 64 (squares_of_all men earlier) (are_earlier key men earlier h d) (squares_of men g.code) (is_free_set key men earlier g.code h a.1) in
    let e : choose (64 - 0 - length (squares_of_all men earlier)) (length (squares_of men g.code)) ≡ choose free g.men = ap (λ n. choose n (length (squares_of men g.code))) (sym is) ∙ ap (choose free) size in
    let left : free - g.men ≡ 64 - length (squares_of_all men (g.code ∷ earlier)) = omega (arith, is, size, length-append (squares_of men g.code) (squares_of_all men earlier)) in
    rw (sizes_cons lead free g gs plain.0, numbers_cons earlier men g gs plain.0)
    (omega (arith, first, e), numbers_below key lead (free - g.men) men pieces (g.code ∷ earlier) gs h same a.2 (a.1, d) plain.1 left)

same_lists : (x y : ℕ) (xs ys : List ℕ) → x ∷ xs ≡ y ∷ ys → (x ≡ y) × (xs ≡ ys)
same_lists x y xs ys e = (cc, cc)

pub numbers_one : (key : ℕ) (one other : List Man) (pieces earlier : List ℕ) (gs : List Group) → IsSettled key one → IsSettled key other
    → AreGroups pieces earlier gs → AreDistinct earlier → AllGroups (λ c. is_pawn_code c ≡ false) gs → squares_of_all one earlier ≡ squares_of_all other earlier
    → other_numbers earlier one gs ≡ other_numbers earlier other gs → AllGroups (λ c. squares_of one c ≡ squares_of other c) gs
numbers_one key one other pieces earlier [] h k a d plain same e = tt
numbers_one key one other pieces earlier (g ∷ gs) h k a d plain same e =
    let parts = same_lists _ _ _ _ (sym (numbers_cons earlier one g gs plain.0) ∙ e ∙ numbers_cons earlier other g gs plain.0) in
    let numbers : free_set_number 0 (squares_of_all one earlier) (squares_of one g.code) ≡ free_set_number 0 (squares_of_all one earlier) (squares_of other g.code) =
    parts.0 ∙ ap (λ l. free_set_number 0 l (squares_of other g.code)) (sym same) in
    let free2 : IsFreeSet 0 64 (squares_of_all one earlier) (squares_of other g.code) = subst (λ l. IsFreeSet 0 64 l (squares_of other g.code)) (sym same) (is_free_set key other earlier g.code k a.1) in
    let here : squares_of one g.code ≡ squares_of other g.code =
    free_set_one 0 64 (squares_of_all one earlier) (are_earlier key one earlier h d) (squares_of one g.code) (squares_of other g.code) (is_free_set key one earlier g.code h a.1) free2
    (h.counts g.code ∙ sym (k.counts g.code)) numbers in
    let more : squares_of_all one (g.code ∷ earlier) ≡ squares_of_all other (g.code ∷ earlier) = ap (λ l. l ++ squares_of_all one earlier) here ∙ ap (λ l. squares_of other g.code ++ l) same in
    (here, numbers_one key one other pieces (g.code ∷ earlier) gs h k a.2 (a.1, d) plain.1 more parts.1)

-- ---- with the other pawns first

abbrev pub PawnsFirst : ℕ → List Group → Type 0
PawnsFirst c [] = Unit {0}
PawnsFirst c (g ∷ gs) = (is_pawn_code g.code ≡ true → is_pawn_code c ≡ true) × AllGroups (λ c. is_pawn_code c ≡ false) gs

pub pawn_numbers_below : (key lead free c : ℕ) (men : List Man) (pieces : List ℕ) (gs : List Group) → IsSettled key men → ((c : ℕ) → count_of pieces c ≡ count_of (pieces_of key) c)
    → AreGroups pieces (c ∷ []) gs → is_pawn_code c ≡ true → PawnsFirst c gs → lead ≡ length (squares_of men c) → free ≡ 64 - lead
    → AreBelow (other_sizes lead free gs) (other_numbers (c ∷ []) men gs)
pawn_numbers_below key lead free c men pieces [] h same a pawn first lead-is free-is = rw (sizes_nil lead free, numbers_nil (c ∷ []) men) tt
pawn_numbers_below key lead free c men pieces (g ∷ gs) h same a pawn first lead-is free-is =
    let all : length (squares_of_all men (c ∷ [])) ≡ length (squares_of men c) = omega (arith, length-append (squares_of men c) []) in
    elim (cases_Bool (is_pawn_code g.code)) [
      | inr plain ↦ numbers_below key lead free men pieces (c ∷ []) (g ∷ gs) h same a (tt, tt) (plain, first.1) (omega (arith, free-is, lead-is, all))
      | inl other ↦
          let size = group_size key men pieces g h same a.0 in
          let below = free_set_below 8 56 (squares_of_all men (c ∷ [])) (are_earlier_pawns key men c h pawn) (squares_of men g.code) (is_free_pawn_set key men (c ∷ []) g.code h a.1 other) in
          let left : 56 - 8 - length (squares_of_all men (c ∷ [])) ≡ 48 - lead = omega (arith, all, lead-is) in
          let e : choose (56 - 8 - length (squares_of_all men (c ∷ []))) (length (squares_of men g.code)) ≡ choose (48 - lead) g.men =
          ap (λ n. choose n (length (squares_of men g.code))) left ∙ ap (choose (48 - lead)) size in
          let after : free - g.men ≡ 64 - length (squares_of_all men (g.code ∷ c ∷ [])) =
          omega (arith, free-is, lead-is, size, all, length-append (squares_of men g.code) (squares_of_all men (c ∷ []))) in
          rw (sizes_pawns lead free g gs other, numbers_pawns (c ∷ []) men g gs other)
          (omega (arith, below, e), numbers_below key lead (free - g.men) men pieces (g.code ∷ c ∷ []) gs h same a.2 (a.1, (tt, tt)) first.1 after)
    ]

pub pawn_numbers_one : (key c : ℕ) (one other : List Man) (pieces : List ℕ) (gs : List Group) → IsSettled key one → IsSettled key other
    → AreGroups pieces (c ∷ []) gs → is_pawn_code c ≡ true → PawnsFirst c gs → squares_of one c ≡ squares_of other c
    → other_numbers (c ∷ []) one gs ≡ other_numbers (c ∷ []) other gs → AllGroups (λ c. squares_of one c ≡ squares_of other c) gs
pawn_numbers_one key c one other pieces [] h k a pawn first same e = tt
pawn_numbers_one key c one other pieces (g ∷ gs) h k a pawn first same e =
    let all : squares_of_all one (c ∷ []) ≡ squares_of_all other (c ∷ []) = ap (λ l. l ++ []) same in
    elim (cases_Bool (is_pawn_code g.code)) [
      | inr plain ↦ numbers_one key one other pieces (c ∷ []) (g ∷ gs) h k a (tt, tt) (plain, first.1) all e
      | inl pawns ↦
          let parts = same_lists _ _ _ _ (sym (numbers_pawns (c ∷ []) one g gs pawns) ∙ e ∙ numbers_pawns (c ∷ []) other g gs pawns) in
          let numbers : free_set_number 8 (squares_of_all one (c ∷ [])) (squares_of one g.code) ≡ free_set_number 8 (squares_of_all one (c ∷ [])) (squares_of other g.code) =
          parts.0 ∙ ap (λ l. free_set_number 8 l (squares_of other g.code)) (sym all) in
          let free2 : IsFreeSet 8 56 (squares_of_all one (c ∷ [])) (squares_of other g.code) =
          subst (λ l. IsFreeSet 8 56 l (squares_of other g.code)) (sym all) (is_free_pawn_set key other (c ∷ []) g.code k a.1 pawns) in
          let here : squares_of one g.code ≡ squares_of other g.code =
          free_set_one 8 56 (squares_of_all one (c ∷ [])) (are_earlier_pawns key one c h pawn) (squares_of one g.code) (squares_of other g.code) (is_free_pawn_set key one (c ∷ []) g.code h a.1 pawns) free2
          (h.counts g.code ∙ sym (k.counts g.code)) numbers in
          let more : squares_of_all one (g.code ∷ c ∷ []) ≡ squares_of_all other (g.code ∷ c ∷ []) = ap (λ l. l ++ squares_of_all one (c ∷ [])) here ∙ ap (λ l. squares_of other g.code ++ l) all in
          (here, numbers_one key one other pieces (g.code ∷ c ∷ []) gs h k a.2 (a.1, (tt, tt)) first.1 more parts.1)
    ]
