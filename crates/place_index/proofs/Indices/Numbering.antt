-- The numbers of the groups, one after another.
use Rattle.std.proofs.Common.{◌≡◌, ◌≢◌, ℕ, zero, suc, ◌+◌, ◌-◌, ◌<◌, ◌≤◌, true, List, [], ◌∷◌, ◌++◌, length, take, map, slice_index, get_or, refl, sym, ap, ◌∙◌, subst, inl, inr, arith, length-append}
use Rattle.std.proofs.lemmas.Bool.{cases_eq, cases_Bool}
use Rattle.place_index.specs.Material.{pieces_of, count_of}
use Rattle.place_index.specs.Choose.{set_number}
use Rattle.place_index.specs.Men.{squares_of}
use Rattle.place_index.specs.Inside.Groups.{CountLike}
use Rattle.place_index.specs.Inside.Turned.{IsTurned}
use Rattle.place_index.specs.Inside.TurnedMen.{TurnedMen, codes_with, codes_before, AreBefore}
use Rattle.place_index.specs.Others.{taken, free_number, free_set_number}
use Rattle.place_index.specs.Shape.{Layout, has_pawns, has_unique, lead_code, other_groups, groups_of}
use Rattle.place_index.specs.Index.{lead_codes, lead_number, squares_of_all, first_square, other_numbers, numbers_of, IsPlacement, IsShape}
use Rattle.place_index.specs.declared.group.Group.{Group}
use Rattle.place_index.specs.declared.man.Man.{Man}
use Rattle.place_index.proofs.Materials.Arranging.{count_nil, count_hit, count_miss, count_arranged}
use Rattle.place_index.proofs.Shapes.Beginning.{lead_by_pawns}
use Rattle.place_index.proofs.Shapes.Greatest.{lead_least}
use Rattle.place_index.proofs.Materials.MenTables.{men_most}
use Rattle.place_index.proofs.Indices.Factors.{IsApart, AreDistinct}
use Rattle.place_index.proofs.Shapes.Grouping.{AreGroups}
use Rattle.place_index.proofs.Indices.Settled.{IsSettled}
use Rattle.place_index.proofs.Turns.Board.{settled}
use Rattle.place_index.proofs.Shapes.LayoutGroups.{pawn_groups}
use Rattle.place_index.proofs.Indices.IndexLaw.{leads_three, lead_kings, codes_by_pawns, numbers_are}

-- ---- all men with some codes are no more than all men

counts : List ℕ → List ℕ → ℕ
counts xs [] = 0
counts xs (c ∷ codes) = count_of xs c + counts xs codes

counts_still : (x : ℕ) (xs codes : List ℕ) → IsApart x codes → counts (x ∷ xs) codes ≡ counts xs codes
unfolding counts
counts_still x xs [] a = refl
counts_still x xs (c ∷ codes) a = omega (arith, count_miss x xs c (λ e. a.0 (sym e)), counts_still x xs codes a.1)

counts_more : (x : ℕ) (xs codes : List ℕ) → AreDistinct codes → counts (x ∷ xs) codes ≤ suc (counts xs codes)
unfolding counts
counts_more x xs [] d = omega arith
counts_more x xs (c ∷ codes) d =
    elim (cases_eq x c) [
      | inl e ↦
          let apart = subst (λ y. IsApart y codes) (sym e) d.0 in
          omega (arith, count_hit x xs, ap (count_of (x ∷ xs)) e, ap (count_of xs) e, counts_still x xs codes apart)
      | inr ne ↦ omega (arith, count_miss x xs c ne, counts_more x xs codes d.1)
    ]

counts_none : (codes : List ℕ) → counts [] codes ≡ 0
unfolding counts
counts_none [] = refl
counts_none (c ∷ codes) = omega (arith, count_nil c, counts_none codes)

counts_most : (xs codes : List ℕ) → AreDistinct codes → counts xs codes ≤ length xs
counts_most [] codes d = omega (arith, counts_none codes)
counts_most (x ∷ xs) codes d = omega (arith, counts_more x xs codes d, counts_most xs codes d)

squares_counts : (key : ℕ) (men : List Man) (codes : List ℕ) → IsSettled key men → length (squares_of_all men codes) ≡ counts (pieces_of key) codes
unfolding counts
squares_counts key men [] h = refl
squares_counts key men (c ∷ codes) h = omega (arith, length-append (squares_of men c) (squares_of_all men codes), h.counts c, squares_counts key men codes h)

pub squares_few : (key : ℕ) (men : List Man) (codes : List ℕ) → key < 145 → IsPlacement key men → AreDistinct codes → length (squares_of_all men codes) ≤ 5
squares_few key men codes lt p d = omega (arith, squares_counts key men codes (settled key men p), counts_most (pieces_of key) codes d, men_most key lt)

-- ---- the leading codes are different, and groups follow them

pub record Follow (l : Layout) : Type 0 where
  pub distinct : AreDistinct (lead_codes l)
  pub groups : AreGroups l.pieces (lead_codes l) (other_groups l.material l.pieces)

pub follow : (l : Layout) → IsShape l → Follow l
follow l s =
    elim (cases_Bool (has_pawns l.material)) [
      | inl pawned ↦
          let g = pawn_groups l.material l.pieces s.material pawned s.pieces in
          record { distinct = subst AreDistinct (sym (codes_by_pawns l pawned)) (tt, tt); groups = subst (λ codes. AreGroups l.pieces codes (other_groups l.material l.pieces)) (sym (codes_by_pawns l pawned)) g.grouped.groups }
      | inr plain ↦ elim (cases_Bool (has_unique l.material)) [
        | inl unique ↦
            let t = leads_three l s plain unique in
            record {
              distinct = subst AreDistinct (sym t.codes) t.grouped.distinct;
              groups = subst (λ codes. AreGroups l.pieces codes (other_groups l.material l.pieces)) (sym t.codes) (subst (AreGroups l.pieces (t.a ∷ t.b ∷ t.c ∷ [])) (sym t.groups) t.grouped.groups);
            }
        | inr common ↦
            let t = lead_kings l s plain common in
            record {
              distinct = subst AreDistinct (sym t.codes) t.grouped.distinct;
              groups = subst (λ codes. AreGroups l.pieces codes (other_groups l.material l.pieces)) (sym t.codes) (subst (AreGroups l.pieces (t.a ∷ t.b ∷ [])) (sym t.groups) t.grouped.groups);
            }
      ]
    ]

-- ---- the leading codes as the code reads them

pub codes_pawned : (l : Layout) → IsShape l → has_pawns l.material ≡ true → 3 ≤ length l.pieces → take 1 l.pieces ≡ lead_codes l
codes_pawned l s pawned least =
    let first : slice_index l.pieces 0 ≡ lead_code l.material = (s.pieces.begins.pawns pawned).0 0 (omega arith) (omega (arith, lead_by_pawns l.material pawned, lead_least l.material s.material)) in
    one l.pieces (omega (arith, least)) ∙ ap (λ x. x ∷ []) first ∙ sym (codes_by_pawns l pawned)
  where
    one : (xs : List ℕ) → 1 ≤ length xs → take 1 xs ≡ slice_index xs 0 ∷ []
    one [] some = absurd (omega (arith, some))
    one (x ∷ xs) some = refl

-- ---- what is taken

pub taken_append : (xs ys : List ℕ) (s : ℕ) → taken (xs ++ ys) s ≡ taken xs s + taken ys s
unfolding taken
taken_append [] ys s = omega arith
taken_append (x ∷ xs) ys s = omega (arith, taken_append xs ys s)

pub free_same : (first : ℕ) (one other : List ℕ) (s : ℕ) → taken one s ≡ taken other s → free_number first one s ≡ free_number first other s
unfolding free_number
free_same first one other s e = ap (λ t. s - t - first) e

mapped_same : (first : ℕ) (one other xs : List ℕ) → ((s : ℕ) → taken one s ≡ taken other s) → map (free_number first one) xs ≡ map (free_number first other) xs
mapped_same first one other [] e = refl
mapped_same first one other (x ∷ xs) e = rw (free_same first one other x (e x), mapped_same first one other xs e) refl

-- ---- the groups' numbers, one after another

others_number : (codes : List ℕ) (men : List Man) (gs : List Group) (n : ℕ) (none : Group) → n < length gs
    → slice_index (other_numbers codes men gs) n ≡ free_set_number (first_square (get_or gs n none).code) (squares_of_all men (codes_with codes gs n)) (squares_of men (get_or gs n none).code)
unfolding other_numbers
others_number codes men [] n none lt = absurd (omega (arith, lt))
others_number codes men (g ∷ gs) zero none lt = refl
others_number codes men (g ∷ gs) (suc n) none lt = others_number (g.code ∷ codes) men gs n none (omega (arith, lt))

codes_more : (codes : List ℕ) (gs : List Group) (n : ℕ) (none : Group) → n < length gs → codes_with codes gs (suc n) ≡ (get_or gs n none).code ∷ codes_with codes gs n
codes_more codes [] n none lt = absurd (omega (arith, lt))
codes_more codes (g ∷ gs) zero none lt = refl
codes_more codes (g ∷ gs) (suc n) none lt = codes_more (g.code ∷ codes) gs n none (omega (arith, lt))

codes_distinct : (pieces codes : List ℕ) (gs : List Group) (n : ℕ) → AreDistinct codes → AreGroups pieces codes gs → AreDistinct (codes_with codes gs n)
codes_distinct pieces codes gs zero d a = d
codes_distinct pieces codes [] (suc n) d a = d
codes_distinct pieces codes (g ∷ gs) (suc n) d a = codes_distinct pieces (g.code ∷ codes) gs n (a.1, d) a.2

men_counted : (pieces codes : List ℕ) (gs : List Group) (n : ℕ) (none : Group) → n < length gs → AreGroups pieces codes gs → (get_or gs n none).men ≡ count_of pieces (get_or gs n none).code
men_counted pieces codes [] n none lt a = absurd (omega (arith, lt))
men_counted pieces codes (g ∷ gs) zero none lt a = a.0
men_counted pieces codes (g ∷ gs) (suc n) none lt a = men_counted pieces (g.code ∷ codes) gs n none (omega (arith, lt)) a.2

-- a group after the leading one, at its place among all groups
pub record IsAt (t : TurnedMen) (g : Group) (place : ℕ) : Type 0 where
  pub once : g.men ≡ 1 → count_of (pieces_of t.shape.material) g.code ≡ 1
  pub room : (earlier : List ℕ) → AreBefore t place earlier → length earlier + length (squares_of t.men g.code) ≤ 5
  pub number : (earlier : List ℕ) → AreBefore t place earlier → free_set_number (first_square g.code) earlier (squares_of t.men g.code) ≡ slice_index (numbers_of t.shape t.men) place
  pub after : (earlier : List ℕ) → AreBefore t place earlier → AreBefore t (place + 1) (earlier ++ squares_of t.men g.code)

is_after : (t : TurnedMen) (n : ℕ) (none : Group) → IsTurned t → n < length (other_groups t.shape.material t.shape.pieces) → IsAt t (get_or (other_groups t.shape.material t.shape.pieces) n none) (suc n)
is_after t n none h lt =
    let others = other_groups t.shape.material t.shape.pieces in
    let g = get_or others n none in
    let codes = codes_before t.shape (suc n) in
    let f = follow t.shape h.shape in
    let more : codes_before t.shape (suc (suc n)) ≡ g.code ∷ codes = codes_more (lead_codes t.shape) others n none lt in
    let one_more : suc n + 1 ≡ suc (suc n) = omega arith in
    let next : codes_before t.shape (suc n + 1) ≡ g.code ∷ codes = ap (codes_before t.shape) one_more ∙ more in
    let distinct : AreDistinct (g.code ∷ codes) = subst AreDistinct more (codes_distinct t.shape.pieces (lead_codes t.shape) others (suc n) f.distinct f.groups) in
    record {
      once = λ one. sym (count_arranged t.shape.pieces (pieces_of t.shape.material) g.code h.shape.pieces.arrangement) ∙ sym (men_counted t.shape.pieces (lead_codes t.shape) others n none lt f.groups) ∙ one;
      room = λ earlier b. omega (arith, b.0, length-append (squares_of t.men g.code) (squares_of_all t.men codes), squares_few t.shape.material t.men (g.code ∷ codes) h.shape.material h.men distinct);
      number = λ earlier b.
          ap set_number (mapped_same (first_square g.code) earlier (squares_of_all t.men codes) (squares_of t.men g.code) b.1)
          ∙ sym (others_number (lead_codes t.shape) t.men others n none lt) ∙ sym (ap (λ xs. slice_index xs (suc n)) (numbers_are t.shape t.men));
      after = λ earlier b. subst (λ cs. CountLike (earlier ++ squares_of t.men g.code) (squares_of_all t.men cs)) (sym next) (
        omega (arith, length-append earlier (squares_of t.men g.code), length-append (squares_of t.men g.code) (squares_of_all t.men codes), b.0),
        λ s. omega (arith, taken_append earlier (squares_of t.men g.code) s, taken_append (squares_of t.men g.code) (squares_of_all t.men codes) s, b.1 s),
      );
    }

pub group_at : (t : TurnedMen) (groups : List Group) (g : Group) (place : ℕ) → IsTurned t → groups ≡ groups_of t.shape → place ≢ 0 → place < length (groups_of t.shape) → g ≡ get_or groups place g → IsAt t g place
group_at t groups g zero h e ne lt is = absurd (ne refl)
group_at t groups g (suc n) h e ne lt is =
    subst (λ x. IsAt t x (suc n)) (sym (is ∙ ap (λ gs. get_or gs (suc n) g) e)) (is_after t n g h (omega (arith, lt)))

-- the leading group comes first
pub first_number : (l : Layout) (men : List Man) → lead_number l men ≡ slice_index (numbers_of l men) 0
first_number l men = sym (ap (λ xs. slice_index xs 0) (numbers_are l men))

pub first_before : (t : TurnedMen) (earlier : List ℕ) → CountLike earlier (squares_of_all t.men (lead_codes t.shape)) → AreBefore t 1 earlier
first_before t earlier like = like

pub some_numbers : (l : Layout) (men : List Man) → 0 < length (numbers_of l men)
some_numbers l men = omega (arith, ap length (numbers_are l men))
