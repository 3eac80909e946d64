-- How many men a material has, and how many lead.
use Rattle.std.proofs.Common.{◌≡◌, ℕ, ◌+◌, ◌<◌, ◌≤◌, true, cond, eqb, leb, ltb, length, slice_index, refl, arith}
use Rattle.std.specs.Prelude.{◌&&◌}
use Rattle.std.specs.List.{list_all}
use Rattle.std.proofs.lemmas.Bool.{agree_below_at, eqb-true, leb-true, lt-ltb, le-ltb, and_parts}
use Rattle.place_index.specs.Material.{pieces_of, count_of}
use Rattle.place_index.specs.Shape.{has_unique, lead_men, lead_pawns, other_pawns}
use Rattle.place_index.specs.declared.tables.TheConstants.{LEADING_MEN}
use Rattle.place_index.proofs.Materials.KeyWalk.{each, each_pieces, pieces, white_in, black_in, pawns_in, black_leads_in, lead_pawns_in, other_pawns_in, unique_in, lead_men_in}

men_test : (k : ℕ) → k < 145 → eqb (length (pieces_of k)) (cond (ltb k 5) 3 (cond (ltb k 35) 4 5)) ≡ true
unfolding each pieces
men_test k lt = each_pieces (λ k ps. eqb (length ps) (cond (ltb k 5) 3 (cond (ltb k 35) 4 5))) refl k lt

pub men_three : (k : ℕ) → k < 5 → length (pieces_of k) ≡ 3
men_three k lt = rw (lt-ltb k 5 lt) at (eqb-true _ _ (men_test k (omega arith)))

pub men_four : (k : ℕ) → 5 ≤ k → k < 35 → length (pieces_of k) ≡ 4
men_four k le lt = rw (le-ltb k 5 le, lt-ltb k 35 lt) at (eqb-true _ _ (men_test k (omega arith)))

pub men_five : (k : ℕ) → 35 ≤ k → k < 145 → length (pieces_of k) ≡ 5
men_five k le lt =
    let le5 : 5 ≤ k = omega arith in
    rw (le-ltb k 5 le5, le-ltb k 35 le) at (eqb-true _ _ (men_test k lt))

pub leading_table : (k : ℕ) → k < 145 → slice_index LEADING_MEN k ≡ lead_men k
unfolding each pieces count_of lead_men lead_pawns has_unique white_in black_in pawns_in black_leads_in lead_pawns_in unique_in lead_men_in
leading_table k lt = eqb-true _ _ (each_pieces (λ k ps. eqb (slice_index LEADING_MEN k) (lead_men_in ps)) refl k lt)

leading_range : (k : ℕ) → k < 145 → (leb 1 (slice_index LEADING_MEN k) && leb (slice_index LEADING_MEN k) 3) ≡ true
leading_range k lt = agree_below_at (λ k. leb 1 (slice_index LEADING_MEN k) && leb (slice_index LEADING_MEN k) 3) (λ k. true) 145 k refl lt

pub leading_least : (k : ℕ) → k < 145 → 1 ≤ slice_index LEADING_MEN k
leading_least k lt = leb-true _ _ (and_parts (leb 1 (slice_index LEADING_MEN k)) (leb (slice_index LEADING_MEN k) 3) (leading_range k lt)).0

pub leading_most : (k : ℕ) → k < 145 → slice_index LEADING_MEN k ≤ 3
leading_most k lt = leb-true _ _ (and_parts (leb 1 (slice_index LEADING_MEN k)) (leb (slice_index LEADING_MEN k) 3) (leading_range k lt)).1

-- with pawns, all pawns are among the men
pawns_test : (k : ℕ) → k < 145 → leb (lead_pawns k + other_pawns k) (length (pieces_of k)) ≡ true
unfolding each pieces count_of lead_pawns other_pawns white_in black_in black_leads_in lead_pawns_in other_pawns_in
pawns_test k lt = each_pieces (λ k ps. leb (lead_pawns_in ps + other_pawns_in ps) (length ps)) refl k lt

pub pawns_within : (k : ℕ) → k < 145 → lead_pawns k + other_pawns k ≤ length (pieces_of k)
pawns_within k lt = leb-true _ _ (pawns_test k lt)

-- all codes are small
pub codes_small : (k : ℕ) → k < 145 → list_all (λ c. ltb c 16) (pieces_of k) ≡ true
unfolding each pieces
codes_small k lt = each_pieces (λ k ps. list_all (λ c. ltb c 16) ps) refl k lt

men_least_test : (k : ℕ) → k < 145 → leb 3 (length (pieces_of k)) ≡ true
unfolding each pieces
men_least_test k lt = each_pieces (λ k ps. leb 3 (length ps)) refl k lt

pub men_least : (k : ℕ) → k < 145 → 3 ≤ length (pieces_of k)
men_least k lt = leb-true _ _ (men_least_test k lt)

men_most_test : (k : ℕ) → k < 145 → leb (length (pieces_of k)) 5 ≡ true
unfolding each pieces
men_most_test k lt = each_pieces (λ k ps. leb (length ps) 5) refl k lt

pub men_most : (k : ℕ) → k < 145 → length (pieces_of k) ≤ 5
men_most k lt = leb-true _ _ (men_most_test k lt)
