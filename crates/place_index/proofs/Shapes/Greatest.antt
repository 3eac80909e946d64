-- The leading group's size, and the greatest size of all shapes.
use Rattle.std.proofs.Common.{◌≡◌, ℕ, zero, suc, ◌+◌, ◌-◌, ◌*◌, ◌/◌, ◌%◌, ◌<◌, ◌≤◌, true, false, cond, eqb, leb, List, [], ◌∷◌, length, drop, slice_index, refl, sym, ap, ◌∙◌, inl, inr, arith, length-drop}
use Rattle.std.specs.Prelude.{sum_by, ◌&&◌}
use Rattle.std.proofs.lemmas.Bool.{agree_below_at, eqb-true, leb-true, and_parts, cases_Bool}
use Rattle.place_index.specs.Choose.{choose}
use Rattle.place_index.specs.Material.{pieces_of}
use Rattle.place_index.specs.Pawns.{pawn_number, pawns_before}
use Rattle.place_index.specs.Counting.{count_before}
use Rattle.place_index.specs.Kings.{kings_size}
use Rattle.place_index.specs.Shape.{HasGoodPieces, layout, has_pawns, has_unique, lead_men, lead_size, other_groups, other_sizes, product, runs, size_of, greatest_size}
use Rattle.place_index.specs.declared.tables.TheConstants.{PAWN_PLACEMENTS}
use Rattle.place_index.proofs.Materials.Arranging.{arranged_length}
use Rattle.place_index.proofs.Shapes.Beginning.{lead_by_pawns, lead_others}
use Rattle.place_index.proofs.Counting.Choosing.{pascal, choose_pascal, falling}
use Rattle.place_index.proofs.Materials.MenTables.{leading_table, leading_least, leading_most, men_most}
use Rattle.place_index.proofs.Shapes.Products.{product_cons}
use Rattle.place_index.proofs.Shapes.Runs.{men_of_runs, no_runs, runs_forward}
use Rattle.place_index.proofs.Shapes.Sizing.{men, product_most, product_some, both_below}

-- ---- leading pawns

-- the placements as they compute
placements : ℕ → ℕ → ℕ → ℕ
placements file others zero = 0
placements file others (suc ranks) = placements file others ranks + pascal (pawn_number (8 * suc ranks + file)) others

placements_are : (file others ranks : ℕ) → pawns_before file others ranks ≡ placements file others ranks
unfolding pawns_before placements
placements_are file others zero = refl
placements_are file others (suc ranks) =
    ap (λ x. x + choose (pawn_number (8 * suc ranks + file)) others) (placements_are file others ranks)
    ∙ ap (λ x. placements file others ranks + x) (choose_pascal (pawn_number (8 * suc ranks + file)) others)

placements_test : (i : ℕ) → i < 12 → eqb (slice_index PAWN_PLACEMENTS i) (placements (i % 4) (i / 4) 6) ≡ true
unfolding placements pascal pawn_number
placements_test i lt = agree_below_at (λ i. eqb (slice_index PAWN_PLACEMENTS i) (placements (i % 4) (i / 4) 6)) (λ i. true) 12 i refl lt

abbrev limits : List ℕ
limits = 6 ∷ 252 ∷ 5201 ∷ []

placements_range : (i : ℕ) → i < 12 → (leb 1 (slice_index PAWN_PLACEMENTS i) && leb (slice_index PAWN_PLACEMENTS i) (slice_index limits (i / 4))) ≡ true
placements_range i lt = agree_below_at (λ i. leb 1 (slice_index PAWN_PLACEMENTS i) && leb (slice_index PAWN_PLACEMENTS i) (slice_index limits (i / 4))) (λ i. true) 12 i refl lt

placements_table : (file others : ℕ) → file < 4 → others < 3 → slice_index PAWN_PLACEMENTS (others * 4 + file) ≡ pawns_before file others 6
placements_table file others ff oo =
    let a : (others * 4 + file) % 4 ≡ file = omega arith in
    let b : (others * 4 + file) / 4 ≡ others = omega arith in
    let lt : others * 4 + file < 12 = omega arith in
    rw (a, b) at (eqb-true _ _ (placements_test (others * 4 + file) lt)) ∙ sym (placements_are file others 6)

placements_some : (file others : ℕ) → file < 4 → others < 3 → 1 ≤ pawns_before file others 6
placements_some file others ff oo =
    let lt : others * 4 + file < 12 = omega arith in
    omega (arith, placements_table file others ff oo, leb-true _ _ (and_parts (leb 1 (slice_index PAWN_PLACEMENTS (others * 4 + file))) _ (placements_range (others * 4 + file) lt)).0)

placements_most : (file others : ℕ) → file < 4 → others < 3 → pawns_before file others 6 ≤ slice_index limits others
placements_most file others ff oo =
    let b : (others * 4 + file) / 4 ≡ others = omega arith in
    let lt : others * 4 + file < 12 = omega arith in
    let most : slice_index PAWN_PLACEMENTS (others * 4 + file) ≤ slice_index limits ((others * 4 + file) / 4) =
    leb-true _ _ (and_parts (leb 1 (slice_index PAWN_PLACEMENTS (others * 4 + file))) _ (placements_range (others * 4 + file) lt)).1 in
    omega (arith, placements_table file others ff oo, most, ap (slice_index limits) b)

-- ---- the leading group

kings_are : kings_size ≡ 462
unfolding kings_size count_before
kings_are = refl

pub lead_least : (key : ℕ) → key < 145 → 1 ≤ lead_men key
lead_least key lt = omega (arith, leading_table key lt, leading_least key lt)

pub lead_most : (key : ℕ) → key < 145 → lead_men key ≤ 3
lead_most key lt = omega (arith, leading_table key lt, leading_most key lt)

pub size_by_pawns : (key file : ℕ) → has_pawns key ≡ true → lead_size key file ≡ pawns_before file (lead_men key - 1) 6
unfolding lead_size
size_by_pawns key file pawned = rw pawned (ap (λ n. pawns_before file (n - 1) 6) (sym (lead_by_pawns key pawned)))

pub pawns_lead : (key file : ℕ) → key < 145 → file < 4 → has_pawns key ≡ true → slice_index PAWN_PLACEMENTS ((lead_men key - 1) * 4 + file) ≡ lead_size key file
pawns_lead key file lt ff pawned =
    placements_table file (lead_men key - 1) ff (omega (arith, lead_least key lt, lead_most key lt)) ∙ sym (size_by_pawns key file pawned)

pub three_lead : (key file : ℕ) → has_pawns key ≡ false → has_unique key ≡ true → lead_size key file ≡ 31332
unfolding lead_size
three_lead key file none some = rw (none, some) refl

pub size_by_kings : (key file : ℕ) → has_pawns key ≡ false → has_unique key ≡ false → lead_size key file ≡ kings_size
unfolding lead_size
size_by_kings key file none missing = rw (none, missing) refl

pub kings_lead : (key file : ℕ) → has_pawns key ≡ false → has_unique key ≡ false → lead_size key file ≡ 462
unfolding lead_size
kings_lead key file none missing = rw (none, missing) kings_are

-- by how many men lead
abbrev lead_limits : List ℕ
lead_limits = 0 ∷ 6 ∷ 462 ∷ 31332 ∷ []

abbrev rest_limits : List ℕ
rest_limits = 0 ∷ 14295960 ∷ 226920 ∷ 3660 ∷ []

limits_grow : (n : ℕ) → n < 3 → slice_index limits n ≤ slice_index lead_limits (n + 1)
limits_grow zero lt = omega arith
limits_grow (suc zero) lt = omega arith
limits_grow (suc (suc zero)) lt = omega arith
limits_grow (suc (suc (suc n))) lt = absurd (omega (arith, lt))

lead_size_most : (key file : ℕ) → key < 145 → file < 4 → (1 ≤ lead_size key file) × (lead_size key file ≤ slice_index lead_limits (lead_men key))
lead_size_most key file lt ff =
    elim (cases_Bool (has_pawns key)) [
      | inl pawned ↦
          let least = lead_least key lt in
          let few : lead_men key - 1 < 3 = omega (arith, least, lead_most key lt) in
          let back : lead_men key - 1 + 1 ≡ lead_men key = omega (arith, least) in (
            omega (arith, size_by_pawns key file pawned, placements_some file (lead_men key - 1) ff few),
            omega (arith, size_by_pawns key file pawned, placements_most file (lead_men key - 1) ff few, limits_grow (lead_men key - 1) few, ap (slice_index lead_limits) back),
          )
      | inr none ↦ elim (cases_Bool (has_unique key)) [
        | inl some ↦
            let three : lead_men key ≡ 3 = lead_others key none ∙ ap (λ u. cond {A = ℕ} u 3 2) some in
            (omega (arith, three_lead key file none some), omega (arith, three_lead key file none some, ap (slice_index lead_limits) three))
        | inr missing ↦
            let two : lead_men key ≡ 2 = lead_others key none ∙ ap (λ u. cond {A = ℕ} u 3 2) missing in
            (omega (arith, kings_lead key file none missing), omega (arith, kings_lead key file none missing, ap (slice_index lead_limits) two))
      ]
    ]

-- ---- the rest

rest_test : (i : ℕ) → i < 18 → leb (falling (64 - (1 + i / 6)) (i % 6 - (1 + i / 6))) (slice_index rest_limits (1 + i / 6)) ≡ true
unfolding falling
rest_test i lt = agree_below_at (λ i. leb (falling (64 - (1 + i / 6)) (i % 6 - (1 + i / 6))) (slice_index rest_limits (1 + i / 6))) (λ i. true) 18 i refl lt

rest_most : (lead n : ℕ) → 1 ≤ lead → lead ≤ 3 → n ≤ 5 → falling (64 - lead) (n - lead) ≤ slice_index rest_limits lead
rest_most lead n least most few =
    let a : 1 + (6 * (lead - 1) + n) / 6 ≡ lead = omega arith in
    let b : (6 * (lead - 1) + n) % 6 ≡ n = omega arith in
    leb-true _ _ (rw (a, b) at (rest_test (6 * (lead - 1) + n) (omega arith)))

all_limits : (lead : ℕ) → lead ≤ 3 → slice_index lead_limits lead * slice_index rest_limits lead ≤ greatest_size
all_limits zero le = omega arith
all_limits (suc zero) le = omega arith
all_limits (suc (suc zero)) le = omega arith
all_limits (suc (suc (suc zero))) le = omega arith
all_limits (suc (suc (suc (suc n)))) le = absurd (omega (arith, le))

all_men : (xs : List ℕ) → sum_by men (runs xs) ≡ length xs
all_men [] = ap (sum_by men) (sym (runs_forward []) ∙ no_runs 0)
all_men (x ∷ xs) = ap (sum_by men) (sym (runs_forward (x ∷ xs))) ∙ men_of_runs 0 (x ∷ xs) (omega arith) ∙ omega arith

pub rest_men : (key : ℕ) (pieces : List ℕ) → sum_by men (other_groups key pieces) ≡ length pieces - lead_men key
rest_men key pieces = all_men (drop (lead_men key) pieces) ∙ length-drop (lead_men key) pieces

pub good_length : (key : ℕ) (pieces : List ℕ) → HasGoodPieces key pieces → length pieces ≡ length (pieces_of key)
good_length key pieces good = arranged_length pieces (pieces_of key) good.arrangement

pub size_is_some : (key : ℕ) (pieces : List ℕ) (order second file : ℕ) → key < 145 → file < 4 → HasGoodPieces key pieces → 1 ≤ size_of (layout key pieces order second file)
size_is_some key pieces order second file lt ff good =
    let length-is = good_length key pieces good in
    let rest = product_some (lead_men key) (64 - lead_men key) (other_groups key pieces) (lead_most key lt)
    (omega (arith, lead_least key lt, lead_most key lt, rest_men key pieces, length-is, men_most key lt)) (omega (arith, rest_men key pieces, length-is, men_most key lt, lead_least key lt)) in
    omega (
      arith,
      product_cons (lead_size key file) (other_sizes (lead_men key) (64 - lead_men key) (other_groups key pieces)),
      both_below 1 1 (lead_size key file) (product (other_sizes (lead_men key) (64 - lead_men key) (other_groups key pieces))) (lead_size_most key file lt ff).0 rest,
    )

pub size_is_within : (key : ℕ) (pieces : List ℕ) (order second file : ℕ) → key < 145 → file < 4 → HasGoodPieces key pieces → size_of (layout key pieces order second file) ≤ greatest_size
size_is_within key pieces order second file lt ff good =
    let length-is = good_length key pieces good in
    let men-are = rest_men key pieces in
    let rest = product_most (lead_men key) (64 - lead_men key) (other_groups key pieces)
    (omega (arith, lead_least key lt, lead_most key lt, men-are, length-is, men_most key lt)) in
    let limit = rest_most (lead_men key) (length pieces) (lead_least key lt) (lead_most key lt) (omega (arith, length-is, men_most key lt)) in
    omega (
      arith,
      product_cons (lead_size key file) (other_sizes (lead_men key) (64 - lead_men key) (other_groups key pieces)),
      all_limits (lead_men key) (lead_most key lt),
      both_below (lead_size key file) (product (other_sizes (lead_men key) (64 - lead_men key) (other_groups key pieces))) (slice_index lead_limits (lead_men key)) (slice_index rest_limits (lead_men key))
          (lead_size_most key file lt ff).1 (omega (arith, rest, limit, ap (falling (64 - lead_men key)) men-are)),
    )
