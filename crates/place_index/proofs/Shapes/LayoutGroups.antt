-- The groups of a shape by its kind of leading group: pawns, three men, two kings.
use Rattle.std.proofs.Common.{◌≡◌, ◌≢◌, ℕ, zero, suc, ◌+◌, ◌<◌, ◌≤◌, ◌⊎◌, Bool, true, false, eqb, List, [], ◌∷◌, ◌++◌, length, take, drop, get_or, refl, sym, ap, ◌∙◌, subst, inl, inr, arith}
use Rattle.std.specs.Prelude.{◌&&◌}
use Rattle.std.proofs.lemmas.Bool.{cases_Bool, eqb-true, or_cases, not-false, false≢true}
use Rattle.place_index.specs.Material.{pieces_of, count_of, white_pawns, black_pawns}
use Rattle.place_index.specs.Shape.{HasGoodPieces, runs, has_pawns, black_leads, lead_code, other_code, lead_pawns, other_pawns, lead_men, is_pawn_code}
use Rattle.place_index.specs.declared.group.Group.{Group}
use Rattle.place_index.proofs.Materials.Arranging.{count_cons, count_nil, count_hit, count_miss, count_append, count_arranged}
use Rattle.place_index.proofs.Shapes.Beginning.{lead_by_pawns}
use Rattle.place_index.proofs.Shapes.Greatest.{good_length}
use Rattle.place_index.proofs.Materials.KeyWalk.{each, each_pieces, pieces}
use Rattle.place_index.proofs.Materials.MenTables.{pawns_within}
use Rattle.place_index.proofs.Indices.Factors.{IsApart, AreDistinct}
use Rattle.place_index.proofs.Shapes.Grouping.{AllOf, AllGroups, all_map, runs_all, all_runs, count_apart, all_at, IsSided, sided, sided_drop, AreRuns, are_runs, runs_begin, begins, AreGroups, are_groups}
use Rattle.place_index.proofs.Indices.Settled.{PawnsFirst}
use Rattle.place_index.proofs.Turns.TurnedPieces.{HasNoPawns}

-- ---- the material

pub pawn_codes : (c : ℕ) → is_pawn_code c ≡ true → (c ≡ 1) ⊎ (c ≡ 9)
pawn_codes c h =
    elim (or_cases (eqb c 1) (eqb c 9) h) [
      | inl one ↦ inl (eqb-true c 1 one)
      | inr nine ↦ inr (eqb-true c 9 nine)
    ]

pub no_pawns_are : (key : ℕ) → has_pawns key ≡ false → HasNoPawns key
no_pawns_are key none c pawn =
    let sum : white_pawns key + black_pawns key ≡ 0 = eqb-true _ _ (not-false _ none) in
    elim (pawn_codes c pawn) [
      | inl e ↦ rw e (omega (arith, sum))
      | inr e ↦ rw e (omega (arith, sum))
    ]

pub lead_is_pawn : (key : ℕ) → is_pawn_code (lead_code key) ≡ true
unfolding lead_code
lead_is_pawn key = elim (cases_Bool (black_leads key)) [ inl t ↦ rw t refl | inr f ↦ rw f refl ]

pub lead_count : (key : ℕ) → count_of (pieces_of key) (lead_code key) ≡ lead_pawns key
unfolding lead_code lead_pawns
lead_count key = elim (cases_Bool (black_leads key)) [ inl t ↦ rw t refl | inr f ↦ rw f refl ]

other_count : (key : ℕ) → count_of (pieces_of key) (other_code key) ≡ other_pawns key
unfolding other_code other_pawns
other_count key = elim (cases_Bool (black_leads key)) [ inl t ↦ rw t refl | inr f ↦ rw f refl ]

other_pawn : (key c : ℕ) → is_pawn_code c ≡ true → c ≢ lead_code key → c ≡ other_code key
unfolding lead_code other_code
other_pawn key c pawn ne =
    elim (cases_Bool (black_leads key)) [
      | inl t ↦ rw t (elim (pawn_codes c pawn) [ inl one ↦ one | inr nine ↦ absurd ((rw t at ne) nine) ])
      | inr f ↦ rw f (elim (pawn_codes c pawn) [ inl one ↦ absurd ((rw f at ne) one) | inr nine ↦ nine ])
    ]

kings_test : (k : ℕ) → k < 145 → (eqb (count_of (pieces_of k) 6) 1 && eqb (count_of (pieces_of k) 14) 1) ≡ true
unfolding each pieces count_of
kings_test k lt = each_pieces (λ k ps. eqb (count_of ps 6) 1 && eqb (count_of ps 14) 1) refl k lt

both_true : (a b : Bool) → (a && b) ≡ true → (a ≡ true) × (b ≡ true)
both_true true b h = (refl, h)
both_true false b h = absurd (false≢true h)

pub one_king : (k : ℕ) → k < 145 → (count_of (pieces_of k) 6 ≡ 1) × (count_of (pieces_of k) 14 ≡ 1)
one_king k lt = let b = both_true _ _ (kings_test k lt) in (eqb-true _ _ b.0, eqb-true _ _ b.1)

-- ---- lists

all_found : (P : ℕ → Type 0) (xs : List ℕ) → ((x : ℕ) → 1 ≤ count_of xs x → P x) → AllOf P xs
all_found P [] f = tt
all_found P (x ∷ xs) f = (f x (omega (arith, count_hit x xs)), all_found P xs (λ y some. f y (more y some)))
  where
    more : (y : ℕ) → 1 ≤ count_of xs y → 1 ≤ count_of (x ∷ xs) y
    more y some = omega (arith, some, count_cons x xs y)

all_append : (P : ℕ → Type 0) (xs ys : List ℕ) → AllOf P xs → AllOf P ys → AllOf P (xs ++ ys)
all_append P [] ys a b = b
all_append P (x ∷ xs) ys a b = (a.0, all_append P xs ys a.1 b)

take_and_drop : (n : ℕ) (xs : List ℕ) → take n xs ++ drop n xs ≡ xs
take_and_drop zero xs = refl
take_and_drop (suc n) [] = refl
take_and_drop (suc n) (x ∷ xs) = ap (λ l. x ∷ l) (take_and_drop n xs)

count_parts : (n : ℕ) (xs : List ℕ) (c : ℕ) → count_of xs c ≡ count_of (take n xs) c + count_of (drop n xs) c
count_parts n xs c = ap (λ l. count_of l c) (sym (take_and_drop n xs)) ∙ count_append (take n xs) (drop n xs) c

-- ---- what the groups of a shape are

pub record AreGrouped (pieces lead tail : List ℕ) : Type 1 where
  pub distinct : AreDistinct lead
  pub groups : AreGroups pieces lead (runs tail)
  pub covers : (P : ℕ → Type 0) → AllOf P lead → AllGroups P (runs tail) → (c : ℕ) → 1 ≤ count_of pieces c → P c

grouped : (pieces lead tail : List ℕ) → IsSided tail → ((d : ℕ) → 1 ≤ count_of tail d → IsApart d lead × (count_of pieces d ≡ count_of tail d)) → AreGroups pieces lead (runs tail)
grouped pieces lead tail s f =
    are_groups pieces tail lead (runs tail) (are_runs tail s)
    (runs_all (λ d. IsApart d lead) tail (all_found (λ d. IsApart d lead) tail (λ d some. (f d some).0)))
    (runs_all (λ d. count_of pieces d ≡ count_of tail d) tail (all_found (λ d. count_of pieces d ≡ count_of tail d) tail (λ d some. (f d some).1)))

-- ---- three men

abbrev pub IsOnce : List ℕ → ℕ → Type 0
IsOnce pieces c = count_of pieces c ≡ 1

-- a code that occurs once comes no more after its first place
no_more : (x c : ℕ) (xs : List ℕ) → count_of (x ∷ xs) c ≡ 1 → x ≡ c → count_of xs c ≡ 0
no_more x c xs once e = omega (arith, once, count_hit x xs, ap (count_of (x ∷ xs)) e, ap (count_of xs) e)

differs : (x c : ℕ) (xs : List ℕ) → count_of (x ∷ xs) c ≡ 0 → (x ≢ c) × (count_of xs c ≡ 0)
differs x c xs none =
    let ne : x ≢ c = λ e. omega (arith, none, count_hit x xs, ap (count_of (x ∷ xs)) e) in
    (ne, omega (arith, none, count_miss x xs c ne))

pub record AreDifferent (a b c : ℕ) (tail : List ℕ) : Type 0 where
  pub ab : a ≢ b
  pub ac : a ≢ c
  pub bc : b ≢ c
  pub no_a : count_of tail a ≡ 0
  pub no_b : count_of tail b ≡ 0
  pub no_c : count_of tail c ≡ 0

pub three_differ : (a b c : ℕ) (tail : List ℕ) → IsOnce (a ∷ b ∷ c ∷ tail) a → IsOnce (a ∷ b ∷ c ∷ tail) b → IsOnce (a ∷ b ∷ c ∷ tail) c → AreDifferent a b c tail
three_differ a b c tail oa ob oc =
    let a1 = differs b a (c ∷ tail) (no_more a a (b ∷ c ∷ tail) oa refl) in
    let a2 = differs c a tail a1.1 in
    let b0 : count_of (b ∷ c ∷ tail) b ≡ 1 = sym (count_miss a (b ∷ c ∷ tail) b (λ e. a1.0 (sym e))) ∙ ob in
    let b2 = differs c b tail (no_more b b (c ∷ tail) b0 refl) in
    let c0 : count_of (c ∷ tail) c ≡ 1 = sym (count_miss b (c ∷ tail) c (λ e. b2.0 (sym e))) ∙ sym (count_miss a (b ∷ c ∷ tail) c (λ e. a2.0 (sym e))) ∙ oc in
    record { ab = λ e. a1.0 (sym e); ac = λ e. a2.0 (sym e); bc = λ e. b2.0 (sym e); no_a = a2.1; no_b = b2.1; no_c = no_more c c tail c0 refl }

missing : (d a : ℕ) (tail : List ℕ) → 1 ≤ count_of tail d → count_of tail a ≡ 0 → a ≢ d
missing d a tail some none e = omega (arith, some, none, ap (count_of tail) e)

pub three_grouped : (a b c : ℕ) (tail : List ℕ) → IsSided (a ∷ b ∷ c ∷ tail) → AreDifferent a b c tail → AreGrouped (a ∷ b ∷ c ∷ tail) (a ∷ b ∷ c ∷ []) tail
three_grouped a b c tail s h = record {
  distinct = (((λ e. h.ab (sym e)), ((λ e. h.ac (sym e)), tt)), (((λ e. h.bc (sym e)), tt), (tt, tt)));
  groups = grouped (a ∷ b ∷ c ∷ tail) (a ∷ b ∷ c ∷ []) tail (sided_drop 3 (a ∷ b ∷ c ∷ tail) s) (λ d some.
      let na = missing d a tail some h.no_a in
      let nb = missing d b tail some h.no_b in
      let nc = missing d c tail some h.no_c in
      ((na, (nb, (nc, tt))), count_miss a (b ∷ c ∷ tail) d na ∙ count_miss b (c ∷ tail) d nb ∙ count_miss c tail d nc));
  covers = λ P lead gs x some. all_at P x (a ∷ b ∷ c ∷ tail) (lead.0, (lead.1.0, (lead.1.1.0, all_runs P tail gs))) some;
}

-- ---- two kings

pub record AreTwoDifferent (a b : ℕ) (tail : List ℕ) : Type 0 where
  pub ab : a ≢ b
  pub no_a : count_of tail a ≡ 0
  pub no_b : count_of tail b ≡ 0

pub two_differ : (a b : ℕ) (tail : List ℕ) → IsOnce (a ∷ b ∷ tail) a → IsOnce (a ∷ b ∷ tail) b → AreTwoDifferent a b tail
two_differ a b tail oa ob =
    let a1 = differs b a tail (no_more a a (b ∷ tail) oa refl) in
    let b0 : count_of (b ∷ tail) b ≡ 1 = sym (count_miss a (b ∷ tail) b (λ e. a1.0 (sym e))) ∙ ob in
    record { ab = λ e. a1.0 (sym e); no_a = a1.1; no_b = no_more b b tail b0 refl }

pub two_grouped : (a b : ℕ) (tail : List ℕ) → IsSided (a ∷ b ∷ tail) → AreTwoDifferent a b tail → AreGrouped (a ∷ b ∷ tail) (a ∷ b ∷ []) tail
two_grouped a b tail s h = record {
  distinct = (((λ e. h.ab (sym e)), tt), (tt, tt));
  groups = grouped (a ∷ b ∷ tail) (a ∷ b ∷ []) tail (sided_drop 2 (a ∷ b ∷ tail) s) (λ d some.
      let na = missing d a tail some h.no_a in
      let nb = missing d b tail some h.no_b in
      ((na, (nb, tt)), count_miss a (b ∷ tail) d na ∙ count_miss b tail d nb));
  covers = λ P lead gs x some. all_at P x (a ∷ b ∷ tail) (lead.0, (lead.1.0, all_runs P tail gs)) some;
}

-- ---- no pawns after these

pub plain_groups : (key : ℕ) (pieces lead tail : List ℕ) → HasNoPawns key → ((c : ℕ) → count_of pieces c ≡ count_of (pieces_of key) c) → ((d : ℕ) → 1 ≤ count_of tail d → count_of pieces d ≡ count_of tail d)
    → AllGroups (λ c. is_pawn_code c ≡ false) (runs tail)
plain_groups key pieces lead tail none same more =
    runs_all (λ c. is_pawn_code c ≡ false) tail (all_found (λ c. is_pawn_code c ≡ false) tail (λ d some.
    elim (cases_Bool (is_pawn_code d)) [
      | inl pawn ↦ absurd (omega (arith, some, more d some, same d, none d pawn))
      | inr plain ↦ plain
    ]))

-- a tail has no more of a code than the whole
pub tail_less : (n : ℕ) (pieces : List ℕ) (d : ℕ) → count_of (drop n pieces) d ≤ count_of pieces d
tail_less n pieces d = omega (arith, count_parts n pieces d)

pub plain_tail : (key n : ℕ) (pieces : List ℕ) → HasNoPawns key → ((c : ℕ) → count_of pieces c ≡ count_of (pieces_of key) c) → AllGroups (λ c. is_pawn_code c ≡ false) (runs (drop n pieces))
plain_tail key n pieces none same =
    runs_all (λ c. is_pawn_code c ≡ false) (drop n pieces) (all_found (λ c. is_pawn_code c ≡ false) (drop n pieces) (λ d some.
    elim (cases_Bool (is_pawn_code d)) [
      | inl pawn ↦ absurd (omega (arith, some, tail_less n pieces d, same d, none d pawn))
      | inr plain ↦ plain
    ]))

-- ---- leading pawns

taken_all : (P : ℕ → Type 0) (n : ℕ) (xs : List ℕ) → n ≤ length xs → ((i : ℕ) → i < n → P (get_or xs i 0)) → AllOf P (take n xs)
taken_all P zero xs le f = tt
taken_all P (suc n) [] le f = absurd (omega (arith, le))
taken_all P (suc n) (x ∷ xs) le f = (f 0 (omega arith), taken_all P n xs (omega (arith, le)) (λ i lt. f (suc i) (omega (arith, lt))))

count_all : (c : ℕ) (xs : List ℕ) → AllOf (λ x. x ≡ c) xs → count_of xs c ≡ length xs
count_all c [] a = count_nil c
count_all c (x ∷ xs) a = omega (arith, count_all c xs a.1, count_hit x xs, ap (count_of (x ∷ xs)) a.0, ap (count_of xs) a.0)

length_taken : (n : ℕ) (xs : List ℕ) → n ≤ length xs → length (take n xs) ≡ n
length_taken zero xs le = refl
length_taken (suc n) [] le = absurd (omega (arith, le))
length_taken (suc n) (x ∷ xs) le = ap suc (length_taken n xs (omega (arith, le)))

dropped_first : (n : ℕ) (xs : List ℕ) (x : ℕ) (rest : List ℕ) → drop n xs ≡ x ∷ rest → get_or xs n 0 ≡ x
dropped_first zero (y ∷ xs) x rest e = heads y x xs rest e
  where
    heads : (a b : ℕ) (us vs : List ℕ) → a ∷ us ≡ b ∷ vs → a ≡ b
    heads a b us vs h = cc
dropped_first zero [] x rest e = absurd (nothing x rest e)
  where
    nothing : (x : ℕ) (rest : List ℕ) → [] ≡ x ∷ rest → ⊥
    nothing x rest h = cc
dropped_first (suc n) [] x rest e = absurd (nothing x rest e)
  where
    nothing : (x : ℕ) (rest : List ℕ) → [] ≡ x ∷ rest → ⊥
    nothing x rest h = cc
dropped_first (suc n) (y ∷ xs) x rest e = dropped_first n xs x rest e

pub record ArePawnGroups (key : ℕ) (pieces : List ℕ) : Type 1 where
  pub grouped : AreGrouped pieces (lead_code key ∷ []) (drop (lead_men key) pieces)
  pub first : PawnsFirst (lead_code key) (runs (drop (lead_men key) pieces))

rest_plain : (key : ℕ) (pieces tail : List ℕ) (gs : List Group) → AreRuns tail gs → AllGroups (λ d. (d ≢ lead_code key) × (1 ≤ count_of pieces d)) gs
    → ((d : ℕ) → is_pawn_code d ≡ true → d ≢ lead_code key → 1 ≤ count_of pieces d → begins d gs) → PawnsFirst (lead_code key) gs
rest_plain key pieces tail [] r a f = tt
rest_plain key pieces tail (g ∷ gs) r a f = ((λ _. lead_is_pawn key), plain gs a.1 r.1)
  where
    plain : (hs : List Group) → AllGroups (λ d. (d ≢ lead_code key) × (1 ≤ count_of pieces d)) hs → AllGroups (λ d. d ≢ g.code) hs → AllGroups (λ d. is_pawn_code d ≡ false) hs
    plain [] x y = tt
    plain (h ∷ hs) x y = (
      elim (cases_Bool (is_pawn_code h.code)) [
        | inl pawn ↦ absurd (y.0 (sym (f h.code pawn x.0.0 x.0.1)))
        | inr isnt ↦ isnt
      ],
      plain hs x.1 y.1,
    )

pub pawn_groups : (key : ℕ) (pieces : List ℕ) → key < 145 → has_pawns key ≡ true → HasGoodPieces key pieces → ArePawnGroups key pieces
pawn_groups key pieces lt pawned good =
    record {
      grouped = record { distinct = (tt, tt); groups = groups; covers = λ P lead gs c some. covers P lead gs c some };
      first = rest_plain key pieces tail (runs tail) (are_runs tail sides)
          (runs_all (λ d. (d ≢ lead_code key) × (1 ≤ count_of pieces d)) tail (all_found (λ d. (d ≢ lead_code key) × (1 ≤ count_of pieces d)) tail (λ d some.
          ((λ e. missing d (lead_code key) tail some none (sym e)), omega (arith, some, tail_less (lead_men key) pieces d)))))
          (λ d pawn ne some. begin d pawn ne some (drop (lead_men key) pieces) refl);
    }
  where
    tail : List ℕ
    tail = drop (lead_men key) pieces

    same : (c : ℕ) → count_of pieces c ≡ count_of (pieces_of key) c
    same c = count_arranged pieces (pieces_of key) c good.arrangement

    lead-is : lead_men key ≡ lead_pawns key
    lead-is = lead_by_pawns key pawned

    within : lead_men key ≤ length pieces
    within = omega (arith, lead-is, pawns_within key lt, good_length key pieces good)

    front : AllOf (λ x. x ≡ lead_code key) (take (lead_men key) pieces)
    front = taken_all (λ x. x ≡ lead_code key) (lead_men key) pieces within (λ i below. (good.begins.pawns pawned).0 i (omega arith) (omega (arith, below, lead-is)))

    none : count_of tail (lead_code key) ≡ 0
    none = omega (
      arith,
      count_parts (lead_men key) pieces (lead_code key),
      count_all (lead_code key) (take (lead_men key) pieces) front,
      length_taken (lead_men key) pieces within,
      same (lead_code key),
      lead_count key,
      lead-is,
    )

    sides : IsSided tail
    sides = sided_drop (lead_men key) pieces (sided pieces good.side_by_side)

    others : (d : ℕ) → 1 ≤ count_of tail d → IsApart d (lead_code key ∷ []) × (count_of pieces d ≡ count_of tail d)
    others d some =
        let ne = missing d (lead_code key) tail some none in
        let away : count_of (take (lead_men key) pieces) d ≡ 0 = count_apart d (take (lead_men key) pieces) (all_map (λ x. x ≡ lead_code key) (λ x. x ≢ d) (take (lead_men key) pieces) (λ x e f. ne (sym e ∙ f)) front) in
        ((ne, tt), omega (arith, count_parts (lead_men key) pieces d, away))

    groups : AreGroups pieces (lead_code key ∷ []) (runs tail)
    groups = grouped pieces (lead_code key ∷ []) tail sides others

    covers : (P : ℕ → Type 0) → AllOf P (lead_code key ∷ []) → AllGroups P (runs tail) → (c : ℕ) → 1 ≤ count_of pieces c → P c
    covers P lead gs c some =
        let all : AllOf P (take (lead_men key) pieces ++ tail) =
        all_append P (take (lead_men key) pieces) tail (all_map (λ x. x ≡ lead_code key) P (take (lead_men key) pieces) (λ x e. subst P (sym e) lead.0) front) (all_runs P tail gs) in
        all_at P c pieces (subst (AllOf P) (take_and_drop (lead_men key) pieces) all) some

    begin : (d : ℕ) → is_pawn_code d ≡ true → d ≢ lead_code key → 1 ≤ count_of pieces d → (xs : List ℕ) → drop (lead_men key) pieces ≡ xs → begins d (runs xs)
    begin d pawn ne some [] e =
        let away : count_of (take (lead_men key) pieces) d ≡ 0 = count_apart d (take (lead_men key) pieces) (all_map (λ x. x ≡ lead_code key) (λ x. x ≢ d) (take (lead_men key) pieces) (λ x p f. ne (sym f ∙ p)) front) in
        absurd (omega (arith, some, count_parts (lead_men key) pieces d, away, ap (λ l. count_of l d) e, count_nil d))
    begin d pawn ne some (x ∷ xs) e =
        let is = other_pawn key d pawn ne in
        let some-others : 1 ≤ other_pawns key = omega (arith, some, same d, ap (count_of (pieces_of key)) is, other_count key) in
        let at = (good.begins.pawns pawned).1 (lead_men key) (omega (arith, lead-is)) (omega (arith, lead-is, some-others)) in
        subst (λ z. begins z (runs (x ∷ xs))) (sym (dropped_first (lead_men key) pieces x xs e) ∙ at ∙ sym is) (runs_begin x xs)
