-- The computed tests of pieces and orders say whether they are good.
use Rattle.std.proofs.Common.{◌≡◌, ℕ, zero, suc, ◌+◌, ◌-◌, ◌<◌, ◌≤◌, Bool, true, false, cond, eqb, ltb, List, length, take, slice_index, Result, Ok, Err, refl, sym, ap, subst, ◌∙◌, inl, inr, arith}
use Rattle.std.specs.Prelude.{◌&&◌, ◌||◌, not}
use Rattle.std.specs.List.{list_all, range_with_len}
use Rattle.std.specs.List.Sorted.{IsPermutation}
use Rattle.std.proofs.lemmas.Bool.{cases_Bool, cases_eq, false≢true, eqb-true, eq-eqb, ne_eqb, ltb-true, lt-ltb, and_parts, and_from, or_cases, or_left, or_right, not_from_false}
use Rattle.place_index.specs.Material.{pieces_of, count_of}
use Rattle.place_index.specs.Shape.{Layout, layout, groups_of, has_pawns, both_have_pawns, has_unique, lead_pawns, lead_code, other_pawns, other_code, IsSideBySide, AreAll, BeginsByPawns, BeginsByThree, BeginsByKings, BeginsWell, HasGoodPieces, HasGoodOrder}
use Rattle.place_index.proofs.Materials.Arranging.{arranged_by_counts, count_arranged, arranged_length}
use Rattle.place_index.proofs.Shapes.SideBySide.{side_by_side, not_side_by_side, stands, stands_is}
use Rattle.place_index.proofs.Materials.MenTables.{codes_small}
use Rattle.table_file.specs.declared.fault.TableFault.{TableFault}
use Rattle.table_file.specs.declared.fault.TableFault.TheVariants.{BadPieces, BadOrder}
use Rattle.table_file.specs.Shapes.{is_arrangement, stands_in, is_side_by_side, are_all, begins_by_pawns, begins_by_three, begins_by_kings, begins_well, are_good_pieces, are_good_orders, shape_at}

-- a test of so many numbers from one on
all_in : (P : ℕ → Bool) (from n i : ℕ) → list_all P (range_with_len from n) ≡ true → from ≤ i → i < from + n → P i ≡ true
all_in P from zero i all low high = absurd (omega (arith, low, high))
all_in P from (suc n) i all low high =
    let both = and_parts (P from) (list_all P (range_with_len (from + 1) n)) all in
    elim (cases_eq from i) [
      | inl e ↦ ap P (sym e) ∙ both.0
      | inr ne ↦ all_in P (from + 1) n i both.1 (omega (arith, low, ne)) (omega (arith, high))
    ]

in_all : (P : ℕ → Bool) (from n : ℕ) → ((i : ℕ) → from ≤ i → i < from + n → P i ≡ true) → list_all P (range_with_len from n) ≡ true
in_all P from zero each = refl
in_all P from (suc n) each =
    and_from (P from) (list_all P (range_with_len (from + 1) n)) (each from (omega arith) (omega arith))
    (in_all P (from + 1) n (λ i low high. each i (omega (arith, low)) (omega (arith, high))))

not_true : (b : Bool) → not b ≡ true → b ≡ false
not_true true e = absurd (false≢true e)
not_true false e = refl

-- ---- the arrangement

arranges : (m : ℕ) (pieces : List ℕ) → m < 145 → is_arrangement m pieces ≡ true → IsPermutation pieces (pieces_of m)
arranges m pieces known e =
    let counts = λ (c : ℕ). eqb (count_of pieces c) (count_of (pieces_of m) c) in
    let both = and_parts (eqb (length pieces) (length (pieces_of m))) (list_all counts (range_with_len 0 16)) e in
    arranged_by_counts 16 pieces (pieces_of m) (codes_small m known) (eqb-true (length pieces) (length (pieces_of m)) both.0)
    (λ c lt. eqb-true (count_of pieces c) (count_of (pieces_of m) c) (all_in counts 0 16 c both.1 (omega arith) (omega (arith, lt))))

arranged : (m : ℕ) (pieces : List ℕ) → IsPermutation pieces (pieces_of m) → is_arrangement m pieces ≡ true
arranged m pieces p =
    let counts = λ (c : ℕ). eqb (count_of pieces c) (count_of (pieces_of m) c) in
    and_from (eqb (length pieces) (length (pieces_of m))) (list_all counts (range_with_len 0 16))
    (eq-eqb (length pieces) (length (pieces_of m)) (arranged_length pieces (pieces_of m) p))
    (in_all counts 0 16 (λ c low high. eq-eqb (count_of pieces c) (count_of (pieces_of m) c) (count_arranged pieces (pieces_of m) c p)))

-- ---- equal pieces side by side

stands_same : (c : ℕ) (pieces : List ℕ) → stands c pieces ≡ stands_in c pieces
stands_same c pieces = stands_is c pieces

abbrev is_run_or_fresh : List ℕ → ℕ → Bool
is_run_or_fresh pieces k = eqb (slice_index pieces k) (slice_index pieces (k - 1)) || not (stands_in (slice_index pieces k) (take k pieces))

sides : (pieces : List ℕ) → is_side_by_side pieces ≡ true → IsSideBySide pieces
sides pieces e = side_by_side pieces (λ k one lt ne.
    elim (or_cases (eqb (slice_index pieces k) (slice_index pieces (k - 1))) (not (stands_in (slice_index pieces k) (take k pieces))) (all_in (is_run_or_fresh pieces) 1 (length pieces - 1) k e one (omega (arith, one, lt)))) [
      | inl run ↦ absurd (ne (eqb-true (slice_index pieces k) (slice_index pieces (k - 1)) run))
      | inr fresh ↦ stands_same (slice_index pieces k) (take k pieces) ∙ not_true (stands_in (slice_index pieces k) (take k pieces)) fresh
    ])

sided : (pieces : List ℕ) → IsSideBySide pieces → is_side_by_side pieces ≡ true
sided pieces s = in_all (is_run_or_fresh pieces) 1 (length pieces - 1) (λ k one high.
    elim (cases_eq (slice_index pieces k) (slice_index pieces (k - 1))) [
      | inl run ↦ or_left (eqb (slice_index pieces k) (slice_index pieces (k - 1))) (not (stands_in (slice_index pieces k) (take k pieces))) (eq-eqb (slice_index pieces k) (slice_index pieces (k - 1)) run)
      | inr ne ↦ or_right (eqb (slice_index pieces k) (slice_index pieces (k - 1))) (not (stands_in (slice_index pieces k) (take k pieces)))
          (elim (cases_Bool (stands_in (slice_index pieces k) (take k pieces))) [
            | inl stood ↦ absurd (not_side_by_side pieces k one (omega (arith, high)) ne (stands_same (slice_index pieces k) (take k pieces) ∙ stood) s)
            | inr fresh ↦ not_from_false (stands_in (slice_index pieces k) (take k pieces)) fresh
          ])
    ])

-- ---- the men that lead

alls : (pieces : List ℕ) (from n to code : ℕ) → to ≡ from + n → are_all pieces from n code ≡ true → AreAll pieces from to code
alls pieces from n to code to-is e i low high = eqb-true (slice_index pieces i) code (all_in (λ i. eqb (slice_index pieces i) code) from n i e low (omega (arith, high, to-is)))

alled : (pieces : List ℕ) (from n to code : ℕ) → to ≡ from + n → AreAll pieces from to code → are_all pieces from n code ≡ true
alled pieces from n to code to-is all = in_all (λ i. eqb (slice_index pieces i) code) from n (λ i low high. eq-eqb (slice_index pieces i) code (all i low (omega (arith, high, to-is))))

none_plus : (n : ℕ) → n ≡ 0 + n
none_plus n = omega arith

pawns : (m : ℕ) (pieces : List ℕ) → begins_by_pawns m pieces ≡ true → BeginsByPawns m pieces
pawns m pieces e =
    let both = and_parts (are_all pieces 0 (lead_pawns m) (lead_code m)) (are_all pieces (lead_pawns m) (other_pawns m) (other_code m)) e in (
      alls pieces 0 (lead_pawns m) (lead_pawns m) (lead_code m) (none_plus (lead_pawns m)) both.0,
      alls pieces (lead_pawns m) (other_pawns m) (lead_pawns m + other_pawns m) (other_code m) refl both.1,
    )

pawned : (m : ℕ) (pieces : List ℕ) → BeginsByPawns m pieces → begins_by_pawns m pieces ≡ true
pawned m pieces b =
    and_from (are_all pieces 0 (lead_pawns m) (lead_code m)) (are_all pieces (lead_pawns m) (other_pawns m) (other_code m))
    (alled pieces 0 (lead_pawns m) (lead_pawns m) (lead_code m) (none_plus (lead_pawns m)) b.0)
    (alled pieces (lead_pawns m) (other_pawns m) (lead_pawns m + other_pawns m) (other_code m) refl b.1)

threes : (pieces : List ℕ) → begins_by_three pieces ≡ true → BeginsByThree pieces
threes pieces e i lt = eqb-true (count_of pieces (slice_index pieces i)) 1 (all_in (λ i. eqb (count_of pieces (slice_index pieces i)) 1) 0 3 i e (omega arith) (omega (arith, lt)))

threed : (pieces : List ℕ) → BeginsByThree pieces → begins_by_three pieces ≡ true
threed pieces b = in_all (λ i. eqb (count_of pieces (slice_index pieces i)) 1) 0 3 (λ i low high. eq-eqb (count_of pieces (slice_index pieces i)) 1 (b i (omega (arith, high))))

kings : (pieces : List ℕ) → begins_by_kings pieces ≡ true → BeginsByKings pieces
kings pieces e =
    let a = slice_index pieces 0 in
    let b = slice_index pieces 1 in
    elim (or_cases (eqb a 6 && eqb b 14) (eqb a 14 && eqb b 6) e) [
      | inl white ↦ let both = and_parts (eqb a 6) (eqb b 14) white in inl (eqb-true a 6 both.0, eqb-true b 14 both.1)
      | inr black ↦ let both = and_parts (eqb a 14) (eqb b 6) black in inr (eqb-true a 14 both.0, eqb-true b 6 both.1)
    ]

kinged : (pieces : List ℕ) → BeginsByKings pieces → begins_by_kings pieces ≡ true
kinged pieces k =
    let a = slice_index pieces 0 in
    let b = slice_index pieces 1 in
    elim k [
      | inl white ↦ or_left (eqb a 6 && eqb b 14) (eqb a 14 && eqb b 6) (and_from (eqb a 6) (eqb b 14) (eq-eqb a 6 white.0) (eq-eqb b 14 white.1))
      | inr black ↦ or_right (eqb a 6 && eqb b 14) (eqb a 14 && eqb b 6) (and_from (eqb a 14) (eqb b 6) (eq-eqb a 14 black.0) (eq-eqb b 6 black.1))
    ]

choice : (a b x y z : Bool) → Bool
choice a b x y z = cond a x (cond b y z)

wells : (m : ℕ) (pieces : List ℕ) → begins_well m pieces ≡ true → BeginsWell m pieces
wells m pieces e = record {
  pawns = λ a. pawns m pieces (sym (first (has_pawns m) (begins_by_pawns m pieces) (cond (has_unique m) (begins_by_three pieces) (begins_by_kings pieces)) a) ∙ e);
  three = λ a b. threes pieces (sym (second (has_pawns m) (has_unique m) (begins_by_pawns m pieces) (begins_by_three pieces) (begins_by_kings pieces) a b) ∙ e);
  kings = λ a b. kings pieces (sym (third (has_pawns m) (has_unique m) (begins_by_pawns m pieces) (begins_by_three pieces) (begins_by_kings pieces) a b) ∙ e);
}
  where
    first : (a x r : Bool) → a ≡ true → cond a x r ≡ x
    first a x r e = rw e refl

    second : (a b x y z : Bool) → a ≡ false → b ≡ true → cond a x (cond b y z) ≡ y
    second a b x y z e f = rw (e, f) refl

    third : (a b x y z : Bool) → a ≡ false → b ≡ false → cond a x (cond b y z) ≡ z
    third a b x y z e f = rw (e, f) refl

welled : (m : ℕ) (pieces : List ℕ) → BeginsWell m pieces → begins_well m pieces ≡ true
welled m pieces w =
    elim (cases_Bool (has_pawns m)) [
      | inl a ↦ rw a (pawned m pieces (w.pawns a))
      | inr a ↦ elim (cases_Bool (has_unique m)) [
        | inl b ↦ rw (a, b) (threed pieces (w.three a b))
        | inr b ↦ rw (a, b) (kinged pieces (w.kings a b))
      ]
    ]

-- ---- the whole tests

pub good_pieces : (m : ℕ) (pieces : List ℕ) → m < 145 → are_good_pieces m pieces ≡ true → HasGoodPieces m pieces
unfolding are_good_pieces
good_pieces m pieces known e =
    let one = and_parts (is_arrangement m pieces) (is_side_by_side pieces && begins_well m pieces) e in
    let two = and_parts (is_side_by_side pieces) (begins_well m pieces) one.1 in
    record { arrangement = arranges m pieces known one.0; side_by_side = sides pieces two.0; begins = wells m pieces two.1 }

pub pieces_good : (m : ℕ) (pieces : List ℕ) → HasGoodPieces m pieces → are_good_pieces m pieces ≡ true
unfolding are_good_pieces
pieces_good m pieces good =
    and_from (is_arrangement m pieces) (is_side_by_side pieces && begins_well m pieces) (arranged m pieces good.arrangement)
    (and_from (is_side_by_side pieces) (begins_well m pieces) (sided pieces good.side_by_side) (welled m pieces good.begins))

pub good_orders : (l : Layout) → are_good_orders l ≡ true → HasGoodOrder l
unfolding are_good_orders
good_orders l e =
    let n = length (groups_of l) in
    let both = and_parts (ltb l.order n) (not (both_have_pawns l.material) || (ltb l.second n && not (eqb l.second l.order))) e in
    record {
      order = ltb-true l.order n both.0;
      second = λ pawned.
          elim (or_cases (not (both_have_pawns l.material)) (ltb l.second n && not (eqb l.second l.order)) both.1) [
            | inl one ↦ absurd (false≢true (sym (not_true (both_have_pawns l.material) one) ∙ pawned))
            | inr good ↦
                let parts = and_parts (ltb l.second n) (not (eqb l.second l.order)) good in
                (ltb-true l.second n parts.0, λ same. false≢true (sym (not_true (eqb l.second l.order) parts.1) ∙ eq-eqb l.second l.order same))
          ];
    }

pub orders_good : (l : Layout) → HasGoodOrder l → are_good_orders l ≡ true
unfolding are_good_orders
orders_good l good =
    let n = length (groups_of l) in
    and_from (ltb l.order n) (not (both_have_pawns l.material) || (ltb l.second n && not (eqb l.second l.order))) (lt-ltb l.order n good.order)
    (elim (cases_Bool (both_have_pawns l.material)) [
      | inl pawned ↦
          let s = good.second pawned in
          or_right (not (both_have_pawns l.material)) (ltb l.second n && not (eqb l.second l.order))
          (and_from (ltb l.second n) (not (eqb l.second l.order)) (lt-ltb l.second n s.0) (not_from_false (eqb l.second l.order) (ne_eqb l.second l.order s.1)))
      | inr one ↦ or_left (not (both_have_pawns l.material)) (ltb l.second n && not (eqb l.second l.order)) (not_from_false (both_have_pawns l.material) one)
    ])

-- ---- the shape

pub shape_is : (m : ℕ) (pieces : List ℕ) (order second file : ℕ) → HasGoodPieces m pieces → HasGoodOrder (layout m pieces order second file) → shape_at m pieces order second file ≡ Ok (layout m pieces order second file)
unfolding shape_at
shape_is m pieces order second file good ordered = rw (pieces_good m pieces good, orders_good (layout m pieces order second file) ordered) refl

pub no_pieces : (m : ℕ) (pieces : List ℕ) (order second file : ℕ) → m < 145 → (HasGoodPieces m pieces → ⊥) → shape_at m pieces order second file ≡ Err BadPieces
unfolding shape_at
no_pieces m pieces order second file known bad =
    elim (cases_Bool (are_good_pieces m pieces)) [
      | inl good ↦ absurd (bad (good_pieces m pieces known good))
      | inr other ↦ rw other refl
    ]

pub no_order : (m : ℕ) (pieces : List ℕ) (order second file : ℕ) → HasGoodPieces m pieces → (HasGoodOrder (layout m pieces order second file) → ⊥) → shape_at m pieces order second file ≡ Err BadOrder
unfolding shape_at
no_order m pieces order second file good bad =
    elim (cases_Bool (are_good_orders (layout m pieces order second file))) [
      | inl ordered ↦ absurd (bad (good_orders (layout m pieces order second file) ordered))
      | inr other ↦ rw (pieces_good m pieces good, other) refl
    ]

pub shape_ok : (m : ℕ) (pieces : List ℕ) (order second file : ℕ) (l : Layout) → m < 145 → shape_at m pieces order second file ≡ Ok l → (l ≡ layout m pieces order second file) × HasGoodPieces m pieces × HasGoodOrder l
shape_ok m pieces order second file l known e =
    elim (cases_Bool (are_good_pieces m pieces)) [
      | inr bad ↦ absurd (other_fault (sym (no_pieces m pieces order second file known (λ good. false≢true (sym bad ∙ pieces_good m pieces good))) ∙ e))
      | inl fine ↦
          let good = good_pieces m pieces known fine in
          elim (cases_Bool (are_good_orders (layout m pieces order second file))) [
            | inr bad ↦ absurd (other_fault (sym (no_order m pieces order second file good (λ ordered. false≢true (sym bad ∙ orders_good (layout m pieces order second file) ordered))) ∙ e))
            | inl ordered ↦
                let fits = good_orders (layout m pieces order second file) ordered in
                let same = ok_is (layout m pieces order second file) l (sym (shape_is m pieces order second file good fits) ∙ e) in
                (sym same, good, subst HasGoodOrder same fits)
          ]
    ]
  where
    other_fault : {C : Type 0} {x : C} {d : TableFault} → (let r : Result C TableFault = Err d in r) ≡ Ok x → ⊥
    other_fault e = cc

    ok_is : (a b : Layout) → (let r : Result Layout TableFault = Ok a in r) ≡ Ok b → a ≡ b
    ok_is a b e = cc
