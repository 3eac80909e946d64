-- Indices are below the size, and each is that of one placement of the turned men.
use Rattle.std.proofs.Common.{◌≡◌, ℕ, suc, ◌-◌, ◌<◌, ◌≤◌, ◌⊎◌, true, false, cond, List, [], ◌∷◌, length, take, drop, map, slice_index, refl, sym, ap, ◌∙◌, subst, inl, inr, arith}
use Rattle.std.proofs.lemmas.Bool.{cases_lt, cases_Bool}
use Rattle.std.proofs.lemmas.List.{length-map}
use Rattle.place_index.specs.Material.{pieces_of, count_of}
use Rattle.place_index.specs.Men.{squares_of, square_of}
use Rattle.place_index.specs.Three.{three_number}
use Rattle.place_index.specs.Kings.{kings_number}
use Rattle.place_index.specs.Pawns.{pawn_number, pawn_square, pawn_numbers_of, pawns_before, pawns_number}
use Rattle.place_index.specs.Shape.{Layout, has_pawns, has_unique, lead_code, lead_men, lead_size, other_sizes, other_groups, group_sizes, places_of, factors_of, factor_at, runs, groups_of, size_of, is_pawn_code, second_of}
use Rattle.place_index.specs.Turning.{turned, turned_pawns, turned_pieces, lead_file}
use Rattle.place_index.specs.Index.{lead_codes, lead_number, lead_pawns_number, squares_of_all, other_numbers, numbers_of, sum_of_products, index_of, IsPlacement, IsShape, IndicesAreOne}
use Rattle.place_index.specs.declared.man.Man.{Man}
use Rattle.place_index.specs.declared.group.Group.{Group}
use Rattle.place_index.proofs.Materials.Arranging.{count_arranged}
use Rattle.place_index.proofs.Shapes.Beginning.{lead_by_pawns, lead_others}
use Rattle.place_index.proofs.Shapes.Greatest.{lead_least, good_length, size_by_pawns, size_by_kings, three_lead}
use Rattle.place_index.proofs.Materials.MenTables.{men_least}
use Rattle.place_index.proofs.Shapes.GroupPlaces.{placed_length}
use Rattle.place_index.proofs.Indices.Factors.{second_is, AreBelow, sum_below, sum_one, layout_distinct, layout_under}
use Rattle.place_index.proofs.Shapes.Grouping.{AllGroups, IsSided, sided}
use Rattle.place_index.proofs.Indices.Settled.{IsSettled, numbers_below, numbers_one, pawn_numbers_below, pawn_numbers_one}
use Rattle.place_index.proofs.Turns.Board.{settled}
use Rattle.place_index.proofs.Turns.Alone.{IsAlone, alone_of, squares_of_alone, square_of_alone}
use Rattle.place_index.proofs.Indices.ThreeOrder.{three_below, three_one}
use Rattle.place_index.proofs.Indices.KingOrder.{kings_below, kings_one}
use Rattle.place_index.proofs.Indices.PawnOrder.{pawns_below, pawns_one}
use Rattle.place_index.proofs.Turns.TurnedPieces.{AreThree, AreTwo, turned_three, turned_two}
use Rattle.place_index.proofs.Turns.TurnedPawns.{ArePawns, square_number, numbers_size, squares_by_numbers, turned_leading_pawns}
use Rattle.place_index.proofs.Shapes.LayoutGroups.{no_pawns_are, lead_is_pawn, lead_count, one_king, AreGrouped, AreDifferent, three_differ, three_grouped, two_differ, two_grouped, plain_tail, pawn_groups}

-- ---- the words at each kind of leading group

turned_by_pawns : (l : Layout) (men : List Man) → has_pawns l.material ≡ true → turned l men ≡ turned_pawns l.material men
unfolding turned
turned_by_pawns l men e = rw e refl

turned_by_pieces : (l : Layout) (men : List Man) → has_pawns l.material ≡ false → turned l men ≡ turned_pieces (take (lead_men l.material) l.pieces) men
unfolding turned
turned_by_pieces l men e = rw e refl

pub numbers_are : (l : Layout) (men : List Man) → numbers_of l men ≡ lead_number l men ∷ other_numbers (lead_codes l) men (other_groups l.material l.pieces)
unfolding numbers_of
numbers_are l men = refl

pub number_by_pawns : (l : Layout) (men : List Man) → has_pawns l.material ≡ true → lead_number l men ≡ lead_pawns_number (pawn_numbers_of men (lead_code l.material))
unfolding lead_number
number_by_pawns l men e = rw e refl

pub number_by_three : (l : Layout) (men : List Man) → has_pawns l.material ≡ false → has_unique l.material ≡ true
    → lead_number l men ≡ three_number (square_of men (slice_index l.pieces 0)) (square_of men (slice_index l.pieces 1)) (square_of men (slice_index l.pieces 2))
unfolding lead_number
number_by_three l men e f = rw (e, f) refl

pub number_by_kings : (l : Layout) (men : List Man) → has_pawns l.material ≡ false → has_unique l.material ≡ false
    → lead_number l men ≡ kings_number (square_of men (slice_index l.pieces 0)) (square_of men (slice_index l.pieces 1))
unfolding lead_number
number_by_kings l men e f = rw (e, f) refl

pub codes_by_pawns : (l : Layout) → has_pawns l.material ≡ true → lead_codes l ≡ lead_code l.material ∷ []
codes_by_pawns l e = rw e refl

pub codes_by_pieces : (l : Layout) → has_pawns l.material ≡ false → lead_codes l ≡ take (lead_men l.material) l.pieces
codes_by_pieces l e = rw e refl

same_counts : (l : Layout) → IsShape l → (c : ℕ) → count_of l.pieces c ≡ count_of (pieces_of l.material) c
same_counts l s c = count_arranged l.pieces (pieces_of l.material) c s.pieces.arrangement

same_lists : (x y : ℕ) (xs ys : List ℕ) → x ∷ xs ≡ y ∷ ys → (x ≡ y) × (xs ≡ ys)
same_lists x y xs ys e = (cc, cc)

empty_list : (xs : List ℕ) → length xs ≡ 0 → xs ≡ []
empty_list [] e = refl
empty_list (x ∷ xs) e = absurd (omega (arith, e))

-- codes that the material lacks stand nowhere
everywhere : (key : ℕ) (one other : List Man) → IsSettled key one → IsSettled key other → ((c : ℕ) → 1 ≤ count_of (pieces_of key) c → squares_of one c ≡ squares_of other c) → (c : ℕ) → squares_of one c ≡ squares_of other c
everywhere key one other h k same c =
    elim (cases_lt 0 (count_of (pieces_of key) c)) [
      | inl some ↦ same c (omega (arith, some))
      | inr none ↦
          let zero-is : count_of (pieces_of key) c ≡ 0 = omega (arith, none) in
          empty_list (squares_of one c) (h.counts c ∙ zero-is) ∙ sym (empty_list (squares_of other c) (k.counts c ∙ zero-is))
    ]

-- ---- leading pawns

pub pawns_are : (l : Layout) (men : List Man) → IsShape l → has_pawns l.material ≡ true → IsPlacement l.material men → lead_file l.material men ≡ l.file → ArePawns l.material (turned l men) (lead_code l.material) l.file
pawns_are l men s pawned p file =
    let some : 1 ≤ count_of (pieces_of l.material) (lead_code l.material) = omega (arith, lead_count l.material, lead_by_pawns l.material pawned, lead_least l.material s.material) in
    subst (λ t. ArePawns l.material t (lead_code l.material) l.file) (sym (turned_by_pawns l men pawned))
    (subst (ArePawns l.material (turned_pawns l.material men) (lead_code l.material)) file (turned_leading_pawns l.material men pawned (lead_is_pawn l.material) some p))

pawns_number_is : (l : Layout) (men : List Man) → has_pawns l.material ≡ true → (a : ArePawns l.material men (lead_code l.material) l.file) → lead_number l men ≡ pawns_number (pawn_square a.lead) a.others
pawns_number_is l men pawned a = number_by_pawns l men pawned ∙ ap lead_pawns_number a.numbers

others_size : (l : Layout) (men : List Man) → IsShape l → has_pawns l.material ≡ true → (a : ArePawns l.material men (lead_code l.material) l.file) → length a.others ≡ lead_men l.material - 1
others_size l men s pawned a =
    omega (arith, ap length a.numbers, numbers_size l.material men (lead_code l.material) a.placed (lead_is_pawn l.material), lead_count l.material, lead_by_pawns l.material pawned)

pawns_case_below : (l : Layout) (men : List Man) → IsShape l → has_pawns l.material ≡ true → ArePawns l.material men (lead_code l.material) l.file → AreBelow (group_sizes l) (numbers_of l men)
pawns_case_below l men s pawned a =
    let key = l.material in
    let h = settled l.material men a.placed in
    let g = pawn_groups l.material l.pieces s.material pawned s.pieces in
    let size : pawns_before l.file (length a.others) 6 ≡ lead_size l.material l.file = ap (λ n. pawns_before l.file n 6) (others_size l men s pawned a) ∙ sym (size_by_pawns l.material l.file pawned) in
    let lead : lead_men l.material ≡ length (squares_of men (lead_code l.material)) = omega (arith, h.counts (lead_code l.material), lead_count l.material, lead_by_pawns l.material pawned) in
    rw (numbers_are l men) (
      omega (arith, pawns_below l.file (pawn_square a.lead) a.others a.turned, size, pawns_number_is l men pawned a),
      subst (λ codes. AreBelow (other_sizes (lead_men l.material) (64 - lead_men l.material) (other_groups l.material l.pieces)) (other_numbers codes men (other_groups l.material l.pieces))) (sym (codes_by_pawns l pawned))
          (pawn_numbers_below l.material (lead_men l.material) (64 - lead_men l.material) (lead_code l.material) men l.pieces (other_groups l.material l.pieces) h (same_counts l s)
          g.grouped.groups (lead_is_pawn l.material) g.first lead refl),
    )

pawns_case_one : (l : Layout) (one other : List Man) → IsShape l → has_pawns l.material ≡ true → ArePawns l.material one (lead_code l.material) l.file → ArePawns l.material other (lead_code l.material) l.file
    → numbers_of l one ≡ numbers_of l other → (c : ℕ) → squares_of one c ≡ squares_of other c
pawns_case_one l one other s pawned a b e =
    let h = settled l.material one a.placed in
    let k = settled l.material other b.placed in
    let g = pawn_groups l.material l.pieces s.material pawned s.pieces in
    let parts = same_lists _ _ _ _ (sym (numbers_are l one) ∙ e ∙ numbers_are l other) in
    let lead = pawns_one l.file (pawn_square a.lead) (pawn_square b.lead) a.others b.others a.turned b.turned (others_size l one s pawned a ∙ sym (others_size l other s pawned b))
    (sym (pawns_number_is l one pawned a) ∙ parts.0 ∙ pawns_number_is l other pawned b) in
    let leads : a.lead ≡ b.lead = sym (square_number a.lead a.few) ∙ ap pawn_number lead.0 ∙ square_number b.lead b.few in
    let numbers : pawn_numbers_of one (lead_code l.material) ≡ pawn_numbers_of other (lead_code l.material) = a.numbers ∙ ap (λ x. x ∷ a.others) leads ∙ ap (λ xs. b.lead ∷ xs) lead.1 ∙ sym b.numbers in
    let first = squares_by_numbers l.material one other (lead_code l.material) h k (lead_is_pawn l.material) numbers in
    let rest : other_numbers (lead_code l.material ∷ []) one (other_groups l.material l.pieces) ≡ other_numbers (lead_code l.material ∷ []) other (other_groups l.material l.pieces) =
    subst (λ codes. other_numbers codes one (other_groups l.material l.pieces) ≡ other_numbers codes other (other_groups l.material l.pieces)) (codes_by_pawns l pawned) parts.1 in
    let groups = pawn_numbers_one l.material (lead_code l.material) one other l.pieces (other_groups l.material l.pieces) h k g.grouped.groups (lead_is_pawn l.material) g.first first rest in
    everywhere l.material one other h k (λ c some. g.grouped.covers (λ c. squares_of one c ≡ squares_of other c) (first, tt) groups c (omega (arith, some, same_counts l s c)))

-- ---- three leading men

three_pieces : (xs : List ℕ) → 3 ≤ length xs → (a : ℕ) × (b : ℕ) × (c : ℕ) × (tail : List ℕ) × (xs ≡ a ∷ b ∷ c ∷ tail)
three_pieces [] le = absurd (omega (arith, le))
three_pieces (a ∷ []) le = absurd (omega (arith, le))
three_pieces (a ∷ b ∷ []) le = absurd (omega (arith, le))
three_pieces (a ∷ b ∷ c ∷ tail) le = (a, b, c, tail, refl)

-- a shape whose leading group has three men
pub record LeadsThree (l : Layout) : Type 1 where
  pub plain : has_pawns l.material ≡ false
  pub unique : has_unique l.material ≡ true
  pub a : ℕ
  pub b : ℕ
  pub c : ℕ
  pub tail : List ℕ
  pub pieces : l.pieces ≡ a ∷ b ∷ c ∷ tail
  pub different : AreDifferent a b c tail
  pub once_a : count_of (pieces_of l.material) a ≡ 1
  pub once_b : count_of (pieces_of l.material) b ≡ 1
  pub once_c : count_of (pieces_of l.material) c ≡ 1
  pub codes : lead_codes l ≡ a ∷ b ∷ c ∷ []
  pub groups : other_groups l.material l.pieces ≡ runs tail
  pub grouped : AreGrouped l.pieces (a ∷ b ∷ c ∷ []) tail
  pub afterwards : AllGroups (λ c. is_pawn_code c ≡ false) (runs tail)

pub leads_three : (l : Layout) → IsShape l → has_pawns l.material ≡ false → has_unique l.material ≡ true → LeadsThree l
leads_three l s plain unique =
    let least : 3 ≤ length l.pieces = omega (arith, good_length l.material l.pieces s.pieces, men_least l.material s.material) in
    let p = three_pieces l.pieces least in
    let lead : lead_men l.material ≡ 3 = lead_others l.material plain ∙ ap (λ u. cond {A = ℕ} u 3 2) unique in
    let begins = s.pieces.begins.three plain unique in
    let once : (i : ℕ) → i < 3 → count_of (p.0 ∷ p.1 ∷ p.2 ∷ p.3) (slice_index (p.0 ∷ p.1 ∷ p.2 ∷ p.3) i) ≡ 1 = subst (λ xs. (i : ℕ) → i < 3 → count_of xs (slice_index xs i) ≡ 1) p.4 begins in
    let oa = once 0 (omega arith) in
    let ob = once 1 (omega arith) in
    let oc = once 2 (omega arith) in
    let counts : (c : ℕ) → count_of (p.0 ∷ p.1 ∷ p.2 ∷ p.3) c ≡ count_of (pieces_of l.material) c = λ c. ap (λ xs. count_of xs c) (sym p.4) ∙ same_counts l s c in
    let different = three_differ p.0 p.1 p.2 p.3 oa ob oc in
    let tail-is : drop 3 l.pieces ≡ p.3 = ap (drop 3) p.4 in
    record {
      plain = plain;
      unique = unique;
      a = p.0;
      b = p.1;
      c = p.2;
      tail = p.3;
      pieces = p.4;
      different = different;
      once_a = sym (counts p.0) ∙ oa;
      once_b = sym (counts p.1) ∙ ob;
      once_c = sym (counts p.2) ∙ oc;
      codes = codes_by_pieces l plain ∙ ap (λ n. take n l.pieces) lead ∙ ap (take 3) p.4;
      groups = ap (λ n. runs (drop n l.pieces)) lead ∙ ap runs tail-is;
      grouped = subst (λ xs. AreGrouped xs (p.0 ∷ p.1 ∷ p.2 ∷ []) p.3) (sym p.4) (three_grouped p.0 p.1 p.2 p.3 (subst IsSided p.4 (sided l.pieces s.pieces.side_by_side)) different);
      afterwards = subst (λ xs. AllGroups (λ c. is_pawn_code c ≡ false) (runs xs)) tail-is (plain_tail l.material 3 l.pieces (no_pawns_are l.material plain) (same_counts l s));
    }

three_are : (l : Layout) (men : List Man) → IsShape l → (t : LeadsThree l) → IsPlacement l.material men → AreThree l.material (turned l men) t.a t.b t.c
three_are l men s t p =
    let h = settled l.material men p in
    let first = alone_of l.material men t.a h t.once_a in
    let second = alone_of l.material men t.b h t.once_b in
    let third = alone_of l.material men t.c h t.once_c in
    let is : turned l men ≡ turned_pieces (t.a ∷ t.b ∷ t.c ∷ []) men = turned_by_pieces l men t.plain ∙ ap (λ codes. turned_pieces codes men) (sym (codes_by_pieces l t.plain) ∙ t.codes) in
    subst (λ u. AreThree l.material u t.a t.b t.c) (sym is)
    (turned_three l.material (no_pawns_are l.material t.plain) men t.a t.b t.c first.0 second.0 third.0 t.different.ab t.different.ac t.different.bc
    (record { placed = p; first = first.1; second = second.1; third = third.1 }))

three_number_is : (l : Layout) (men : List Man) (t : LeadsThree l) → (u : AreThree l.material men t.a t.b t.c) → lead_number l men ≡ three_number u.s0 u.s1 u.s2
three_number_is l men t u =
    number_by_three l men t.plain t.unique
    ∙ ap (λ xs. three_number (square_of men (slice_index xs 0)) (square_of men (slice_index xs 1)) (square_of men (slice_index xs 2))) t.pieces
    ∙ ap (λ s. three_number s (square_of men t.b) (square_of men t.c)) (square_of_alone men t.a u.s0 u.first)
    ∙ ap (λ s. three_number u.s0 s (square_of men t.c)) (square_of_alone men t.b u.s1 u.second)
    ∙ ap (λ s. three_number u.s0 u.s1 s) (square_of_alone men t.c u.s2 u.third)

three_squares : (men : List Man) (a b c s0 s1 s2 : ℕ) → IsAlone men a s0 → IsAlone men b s1 → IsAlone men c s2 → squares_of_all men (a ∷ b ∷ c ∷ []) ≡ s0 ∷ s1 ∷ s2 ∷ []
three_squares men a b c s0 s1 s2 x y z = rw (squares_of_alone men a s0 x, squares_of_alone men b s1 y, squares_of_alone men c s2 z) refl

three_case_below : (l : Layout) (men : List Man) → IsShape l → (t : LeadsThree l) → AreThree l.material men t.a t.b t.c → AreBelow (group_sizes l) (numbers_of l men)
three_case_below l men s t u =
    let h = settled l.material men u.placed in
    let lead : lead_men l.material ≡ 3 = lead_others l.material t.plain ∙ ap (λ u. cond {A = ℕ} u 3 2) t.unique in
    let size : length (squares_of_all men (t.a ∷ t.b ∷ t.c ∷ [])) ≡ 3 = ap length (three_squares men t.a t.b t.c u.s0 u.s1 u.s2 u.first u.second u.third) in
    rw (numbers_are l men) (
      omega (arith, three_below u.s0 u.s1 u.s2 u.turned, three_lead l.material l.file t.plain t.unique, three_number_is l men t u),
      subst (λ codes. AreBelow (other_sizes (lead_men l.material) (64 - lead_men l.material) (other_groups l.material l.pieces)) (other_numbers codes men (other_groups l.material l.pieces))) (sym t.codes)
          (subst (λ gs. AreBelow (other_sizes (lead_men l.material) (64 - lead_men l.material) gs) (other_numbers (t.a ∷ t.b ∷ t.c ∷ []) men gs)) (sym t.groups)
          (numbers_below l.material (lead_men l.material) (64 - lead_men l.material) men l.pieces (t.a ∷ t.b ∷ t.c ∷ []) (runs t.tail) h (same_counts l s)
          t.grouped.groups t.grouped.distinct t.afterwards (omega (arith, lead, size)))),
    )

three_case_one : (l : Layout) (one other : List Man) → IsShape l → (t : LeadsThree l) → AreThree l.material one t.a t.b t.c → AreThree l.material other t.a t.b t.c
    → numbers_of l one ≡ numbers_of l other → (c : ℕ) → squares_of one c ≡ squares_of other c
three_case_one l one other s t u v e =
    let h = settled l.material one u.placed in
    let k = settled l.material other v.placed in
    let parts = same_lists _ _ _ _ (sym (numbers_are l one) ∙ e ∙ numbers_are l other) in
    let lead = three_one u.s0 u.s1 u.s2 v.s0 v.s1 v.s2 u.turned v.turned (sym (three_number_is l one t u) ∙ parts.0 ∙ three_number_is l other t v) in
    let fa : squares_of one t.a ≡ squares_of other t.a = squares_of_alone one t.a u.s0 u.first ∙ ap (λ s. s ∷ []) lead.0 ∙ sym (squares_of_alone other t.a v.s0 v.first) in
    let fb : squares_of one t.b ≡ squares_of other t.b = squares_of_alone one t.b u.s1 u.second ∙ ap (λ s. s ∷ []) lead.1 ∙ sym (squares_of_alone other t.b v.s1 v.second) in
    let fc : squares_of one t.c ≡ squares_of other t.c = squares_of_alone one t.c u.s2 u.third ∙ ap (λ s. s ∷ []) lead.2 ∙ sym (squares_of_alone other t.c v.s2 v.third) in
    let all : squares_of_all one (t.a ∷ t.b ∷ t.c ∷ []) ≡ squares_of_all other (t.a ∷ t.b ∷ t.c ∷ []) = rw (fa, fb, fc) refl in
    let rest : other_numbers (t.a ∷ t.b ∷ t.c ∷ []) one (runs t.tail) ≡ other_numbers (t.a ∷ t.b ∷ t.c ∷ []) other (runs t.tail) =
    subst (λ gs. other_numbers (t.a ∷ t.b ∷ t.c ∷ []) one gs ≡ other_numbers (t.a ∷ t.b ∷ t.c ∷ []) other gs) t.groups
    (subst (λ codes. other_numbers codes one (other_groups l.material l.pieces) ≡ other_numbers codes other (other_groups l.material l.pieces)) t.codes parts.1) in
    let groups = numbers_one l.material one other l.pieces (t.a ∷ t.b ∷ t.c ∷ []) (runs t.tail) h k t.grouped.groups t.grouped.distinct t.afterwards all rest in
    everywhere l.material one other h k (λ c some. t.grouped.covers (λ c. squares_of one c ≡ squares_of other c) (fa, (fb, (fc, tt))) groups c (omega (arith, some, same_counts l s c)))

-- ---- two leading kings

two_pieces : (xs : List ℕ) → 2 ≤ length xs → (a : ℕ) × (b : ℕ) × (tail : List ℕ) × (xs ≡ a ∷ b ∷ tail)
two_pieces [] le = absurd (omega (arith, le))
two_pieces (a ∷ []) le = absurd (omega (arith, le))
two_pieces (a ∷ b ∷ tail) le = (a, b, tail, refl)

pub record LeadKings (l : Layout) : Type 1 where
  pub plain : has_pawns l.material ≡ false
  pub common : has_unique l.material ≡ false
  pub a : ℕ
  pub b : ℕ
  pub tail : List ℕ
  pub pieces : l.pieces ≡ a ∷ b ∷ tail
  pub kings : ((a ≡ 6) × (b ≡ 14)) ⊎ ((a ≡ 14) × (b ≡ 6))
  pub once_a : count_of (pieces_of l.material) a ≡ 1
  pub once_b : count_of (pieces_of l.material) b ≡ 1
  pub codes : lead_codes l ≡ a ∷ b ∷ []
  pub groups : other_groups l.material l.pieces ≡ runs tail
  pub grouped : AreGrouped l.pieces (a ∷ b ∷ []) tail
  pub afterwards : AllGroups (λ c. is_pawn_code c ≡ false) (runs tail)

king_counts : (key a b : ℕ) → key < 145 → ((a ≡ 6) × (b ≡ 14)) ⊎ ((a ≡ 14) × (b ≡ 6)) → (count_of (pieces_of key) a ≡ 1) × (count_of (pieces_of key) b ≡ 1)
king_counts key a b lt kings =
    let k = one_king key lt in
    elim kings [
      | inl e ↦ (ap (count_of (pieces_of key)) e.0 ∙ k.0, ap (count_of (pieces_of key)) e.1 ∙ k.1)
      | inr e ↦ (ap (count_of (pieces_of key)) e.0 ∙ k.1, ap (count_of (pieces_of key)) e.1 ∙ k.0)
    ]

pub lead_kings : (l : Layout) → IsShape l → has_pawns l.material ≡ false → has_unique l.material ≡ false → LeadKings l
lead_kings l s plain common =
    let least : 2 ≤ length l.pieces = omega (arith, good_length l.material l.pieces s.pieces, men_least l.material s.material) in
    let p = two_pieces l.pieces least in
    let lead : lead_men l.material ≡ 2 = lead_others l.material plain ∙ ap (λ u. cond {A = ℕ} u 3 2) common in
    let kings : ((p.0 ≡ 6) × (p.1 ≡ 14)) ⊎ ((p.0 ≡ 14) × (p.1 ≡ 6)) =
    subst (λ xs. ((slice_index xs 0 ≡ 6) × (slice_index xs 1 ≡ 14)) ⊎ ((slice_index xs 0 ≡ 14) × (slice_index xs 1 ≡ 6))) p.3 (s.pieces.begins.kings plain common) in
    let once = king_counts l.material p.0 p.1 s.material kings in
    let counts : (c : ℕ) → count_of (p.0 ∷ p.1 ∷ p.2) c ≡ count_of (pieces_of l.material) c = λ c. ap (λ xs. count_of xs c) (sym p.3) ∙ same_counts l s c in
    let different = two_differ p.0 p.1 p.2 (counts p.0 ∙ once.0) (counts p.1 ∙ once.1) in
    let tail-is : drop 2 l.pieces ≡ p.2 = ap (drop 2) p.3 in
    record {
      plain = plain;
      common = common;
      a = p.0;
      b = p.1;
      tail = p.2;
      pieces = p.3;
      kings = kings;
      once_a = once.0;
      once_b = once.1;
      codes = codes_by_pieces l plain ∙ ap (λ n. take n l.pieces) lead ∙ ap (take 2) p.3;
      groups = ap (λ n. runs (drop n l.pieces)) lead ∙ ap runs tail-is;
      grouped = subst (λ xs. AreGrouped xs (p.0 ∷ p.1 ∷ []) p.2) (sym p.3) (two_grouped p.0 p.1 p.2 (subst IsSided p.3 (sided l.pieces s.pieces.side_by_side)) different);
      afterwards = subst (λ xs. AllGroups (λ c. is_pawn_code c ≡ false) (runs xs)) tail-is (plain_tail l.material 2 l.pieces (no_pawns_are l.material plain) (same_counts l s));
    }

pub two_are : (l : Layout) (men : List Man) → IsShape l → (t : LeadKings l) → IsPlacement l.material men → AreTwo l.material (turned l men) t.a t.b
two_are l men s t p =
    let h = settled l.material men p in
    let first = alone_of l.material men t.a h t.once_a in
    let second = alone_of l.material men t.b h t.once_b in
    let is : turned l men ≡ turned_pieces (t.a ∷ t.b ∷ []) men = turned_by_pieces l men t.plain ∙ ap (λ codes. turned_pieces codes men) (sym (codes_by_pieces l t.plain) ∙ t.codes) in
    subst (λ u. AreTwo l.material u t.a t.b) (sym is)
    (turned_two l.material (no_pawns_are l.material t.plain) men t.a t.b first.0 second.0 t.kings (record { placed = p; first = first.1; second = second.1; third = second.1 }))

kings_number_is : (l : Layout) (men : List Man) (t : LeadKings l) → (u : AreTwo l.material men t.a t.b) → lead_number l men ≡ kings_number u.s0 u.s1
kings_number_is l men t u =
    number_by_kings l men t.plain t.common
    ∙ ap (λ xs. kings_number (square_of men (slice_index xs 0)) (square_of men (slice_index xs 1))) t.pieces
    ∙ ap (λ s. kings_number s (square_of men t.b)) (square_of_alone men t.a u.s0 u.first)
    ∙ ap (λ s. kings_number u.s0 s) (square_of_alone men t.b u.s1 u.second)

two_squares : (men : List Man) (a b s0 s1 : ℕ) → IsAlone men a s0 → IsAlone men b s1 → squares_of_all men (a ∷ b ∷ []) ≡ s0 ∷ s1 ∷ []
two_squares men a b s0 s1 x y = rw (squares_of_alone men a s0 x, squares_of_alone men b s1 y) refl

kings_case_below : (l : Layout) (men : List Man) → IsShape l → (t : LeadKings l) → AreTwo l.material men t.a t.b → AreBelow (group_sizes l) (numbers_of l men)
kings_case_below l men s t u =
    let h = settled l.material men u.placed in
    let lead : lead_men l.material ≡ 2 = lead_others l.material t.plain ∙ ap (λ u. cond {A = ℕ} u 3 2) t.common in
    let size : length (squares_of_all men (t.a ∷ t.b ∷ [])) ≡ 2 = ap length (two_squares men t.a t.b u.s0 u.s1 u.first u.second) in
    rw (numbers_are l men) (
      omega (arith, kings_below u.s0 u.s1 u.turned, size_by_kings l.material l.file t.plain t.common, kings_number_is l men t u),
      subst (λ codes. AreBelow (other_sizes (lead_men l.material) (64 - lead_men l.material) (other_groups l.material l.pieces)) (other_numbers codes men (other_groups l.material l.pieces))) (sym t.codes)
          (subst (λ gs. AreBelow (other_sizes (lead_men l.material) (64 - lead_men l.material) gs) (other_numbers (t.a ∷ t.b ∷ []) men gs)) (sym t.groups)
          (numbers_below l.material (lead_men l.material) (64 - lead_men l.material) men l.pieces (t.a ∷ t.b ∷ []) (runs t.tail) h (same_counts l s)
          t.grouped.groups t.grouped.distinct t.afterwards (omega (arith, lead, size)))),
    )

kings_case_one : (l : Layout) (one other : List Man) → IsShape l → (t : LeadKings l) → AreTwo l.material one t.a t.b → AreTwo l.material other t.a t.b
    → numbers_of l one ≡ numbers_of l other → (c : ℕ) → squares_of one c ≡ squares_of other c
kings_case_one l one other s t u v e =
    let h = settled l.material one u.placed in
    let k = settled l.material other v.placed in
    let parts = same_lists _ _ _ _ (sym (numbers_are l one) ∙ e ∙ numbers_are l other) in
    let lead = kings_one u.s0 u.s1 v.s0 v.s1 u.turned v.turned (sym (kings_number_is l one t u) ∙ parts.0 ∙ kings_number_is l other t v) in
    let fa : squares_of one t.a ≡ squares_of other t.a = squares_of_alone one t.a u.s0 u.first ∙ ap (λ s. s ∷ []) lead.0 ∙ sym (squares_of_alone other t.a v.s0 v.first) in
    let fb : squares_of one t.b ≡ squares_of other t.b = squares_of_alone one t.b u.s1 u.second ∙ ap (λ s. s ∷ []) lead.1 ∙ sym (squares_of_alone other t.b v.s1 v.second) in
    let all : squares_of_all one (t.a ∷ t.b ∷ []) ≡ squares_of_all other (t.a ∷ t.b ∷ []) = rw (fa, fb) refl in
    let rest : other_numbers (t.a ∷ t.b ∷ []) one (runs t.tail) ≡ other_numbers (t.a ∷ t.b ∷ []) other (runs t.tail) =
    subst (λ gs. other_numbers (t.a ∷ t.b ∷ []) one gs ≡ other_numbers (t.a ∷ t.b ∷ []) other gs) t.groups
    (subst (λ codes. other_numbers codes one (other_groups l.material l.pieces) ≡ other_numbers codes other (other_groups l.material l.pieces)) t.codes parts.1) in
    let groups = numbers_one l.material one other l.pieces (t.a ∷ t.b ∷ []) (runs t.tail) h k t.grouped.groups t.grouped.distinct t.afterwards all rest in
    everywhere l.material one other h k (λ c some. t.grouped.covers (λ c. squares_of one c ≡ squares_of other c) (fa, (fb, tt)) groups c (omega (arith, some, same_counts l s c)))

-- ---- all shapes

pub turned_placement : (l : Layout) (men : List Man) → IsShape l → IsPlacement l.material men → lead_file l.material men ≡ l.file → IsPlacement l.material (turned l men)
turned_placement l men s p file =
    elim (cases_Bool (has_pawns l.material)) [
      | inl pawned ↦ (pawns_are l men s pawned p file).placed
      | inr plain ↦ elim (cases_Bool (has_unique l.material)) [
        | inl unique ↦ (three_are l men s (leads_three l s plain unique) p).placed
        | inr common ↦ (two_are l men s (lead_kings l s plain common) p).placed
      ]
    ]

pub all_below : (l : Layout) (men : List Man) → IsShape l → IsPlacement l.material men → lead_file l.material men ≡ l.file → AreBelow (group_sizes l) (numbers_of l (turned l men))
all_below l men s p file =
    elim (cases_Bool (has_pawns l.material)) [
      | inl pawned ↦ pawns_case_below l (turned l men) s pawned (pawns_are l men s pawned p file)
      | inr plain ↦ elim (cases_Bool (has_unique l.material)) [
        | inl unique ↦ let t = leads_three l s plain unique in three_case_below l (turned l men) s t (three_are l men s t p)
        | inr common ↦ let t = lead_kings l s plain common in kings_case_below l (turned l men) s t (two_are l men s t p)
      ]
    ]

all_one : (l : Layout) (one other : List Man) → IsShape l → IsPlacement l.material one → IsPlacement l.material other → lead_file l.material one ≡ l.file → lead_file l.material other ≡ l.file
    → numbers_of l (turned l one) ≡ numbers_of l (turned l other) → (c : ℕ) → squares_of (turned l one) c ≡ squares_of (turned l other) c
all_one l one other s p q fp fq e =
    elim (cases_Bool (has_pawns l.material)) [
      | inl pawned ↦ pawns_case_one l (turned l one) (turned l other) s pawned (pawns_are l one s pawned p fp) (pawns_are l other s pawned q fq) e
      | inr plain ↦ elim (cases_Bool (has_unique l.material)) [
        | inl unique ↦ let t = leads_three l s plain unique in three_case_one l (turned l one) (turned l other) s t (three_are l one s t p) (three_are l other s t q) e
        | inr common ↦ let t = lead_kings l s plain common in kings_case_one l (turned l one) (turned l other) s t (two_are l one s t p) (two_are l other s t q) e
      ]
    ]

-- as many places as sizes
sizes_length : (lead free : ℕ) (gs : List Group) → length (other_sizes lead free gs) ≡ length gs
unfolding other_sizes
sizes_length lead free [] = refl
sizes_length lead free (g ∷ gs) = ap suc (sizes_length lead (free - g.men) gs)

places_size : (l : Layout) → IsShape l → length (places_of l) ≡ length (groups_of l)
places_size l s = placed_length l.order (second_of l) (length (groups_of l)) s.order.order (λ x is.
    let b = second_is l.material l.second x is in
    (omega (arith, b.1, (s.order.second b.0).0), λ same. (s.order.second b.0).1 (b.1 ∙ same)))

places_length : (l : Layout) → IsShape l → length (places_of l) ≡ length (group_sizes l)
places_length l s = places_size l s ∙ ap suc (sym (sizes_length (lead_men l.material) (64 - lead_men l.material) (other_groups l.material l.pieces)))

index_sum : (l : Layout) (men : List Man) → index_of l men ≡ sum_of_products (numbers_of l (turned l men)) (map (factor_at (places_of l) (group_sizes l)) (places_of l))
unfolding index_of
index_sum l men = refl

numbers_length : (codes : List ℕ) (men : List Man) (gs : List Group) → length (other_numbers codes men gs) ≡ length gs
unfolding other_numbers
numbers_length codes men [] = refl
numbers_length codes men (g ∷ gs) = ap suc (numbers_length (g.code ∷ codes) men gs)

pub products_length : (l : Layout) (men : List Man) → IsShape l → length (numbers_of l men) ≡ length (factors_of l)
products_length l men s =
    ap length (numbers_are l men) ∙ ap suc (numbers_length (lead_codes l) men (other_groups l.material l.pieces)) ∙ sym (places_size l s)
    ∙ sym (length-map (places_of l) (factor_at (places_of l) (group_sizes l)))

pub factors_size : (l : Layout) → IsShape l → length (factors_of l) ≡ length (groups_of l)
factors_size l s = length-map (places_of l) (factor_at (places_of l) (group_sizes l)) ∙ places_size l s

pub index_products : (l : Layout) (men : List Man) → sum_of_products (numbers_of l (turned l men)) (factors_of l) ≡ index_of l men
unfolding index_of
index_products l men = refl

pub index_below : (l : Layout) (men : List Man) → IsShape l → IsPlacement l.material men → lead_file l.material men ≡ l.file → index_of l men < size_of l
index_below l men s p file =
    omega (arith, index_sum l men, sum_below (places_of l) (group_sizes l) (numbers_of l (turned l men)) (length (groups_of l)) (places_length l s) (layout_distinct l s.order) (layout_under l s.order) (all_below l men s p file))

index_one : (l : Layout) (one other : List Man) → IsShape l → IsPlacement l.material one → IsPlacement l.material other → lead_file l.material one ≡ l.file → lead_file l.material other ≡ l.file
    → index_of l one ≡ index_of l other → (c : ℕ) → squares_of (turned l one) c ≡ squares_of (turned l other) c
index_one l one other s p q fp fq e =
    all_one l one other s p q fp fq
    (sum_one (places_of l) (group_sizes l) (numbers_of l (turned l one)) (numbers_of l (turned l other)) (length (groups_of l)) (places_length l s) (layout_distinct l s.order) (layout_under l s.order)
    (all_below l one s p fp) (all_below l other s q fq) (sym (index_sum l one) ∙ e ∙ index_sum l other))

pub indices_are_one : IndicesAreOne
indices_are_one l s = ((λ men p file. index_below l men s p file), (λ one other p q fp fq e. index_one l one other s p q fp fq e))
