-- The tables of the code against the definitions.
use Rattle.std.proofs.Common.{◌≡◌, ℕ, zero, suc, ◌+◌, ◌*◌, ◌/◌, ◌%◌, ◌<◌, ◌≤◌, true, eqb, leb, slice_index, refl, sym, ◌∙◌, arith}
use Rattle.std.proofs.lemmas.Bool.{agree_below_at, eqb-true, leb-true}
use Rattle.place_index.specs.Counting.{count_before}
use Rattle.place_index.proofs.Counting.Choosing.{pascal, choose_pascal}
use Rattle.place_index.specs.Three.{triangle_number, lower_number}
use Rattle.place_index.specs.Pawns.{pawn_number, pawn_square, pawns_before}
use Rattle.place_index.specs.declared.tables.TheConstants.{TRIANGLE, LOWER, KINGS, PAWN_NUMBERS, PAWN_SQUARES, PAWNS_BEFORE}

pub triangle_table : (s : ℕ) → s < 64 → slice_index TRIANGLE s ≡ triangle_number s
unfolding triangle_number
triangle_table s lt = eqb-true _ _ (agree_below_at (λ s. eqb (slice_index TRIANGLE s) (triangle_number s)) (λ s. true) 64 s refl lt)

pub lower_table : (s : ℕ) → s < 64 → slice_index LOWER s ≡ lower_number s
unfolding count_before
lower_table s lt = eqb-true _ _ (agree_below_at (λ s. eqb (slice_index LOWER s) (lower_number s)) (λ s. true) 64 s refl lt)

pub number_table : (s : ℕ) → s < 64 → slice_index PAWN_NUMBERS s ≡ pawn_number s
unfolding pawn_number
number_table s lt = eqb-true _ _ (agree_below_at (λ s. eqb (slice_index PAWN_NUMBERS s) (pawn_number s)) (λ s. true) 64 s refl lt)

pub number_most : (s : ℕ) → s < 64 → pawn_number s ≤ 48
unfolding pawn_number
number_most s lt = leb-true _ _ (agree_below_at (λ s. leb (pawn_number s) 48) (λ s. true) 64 s refl lt)

pub square_table : (n : ℕ) → n < 48 → slice_index PAWN_SQUARES n ≡ pawn_square n
unfolding pawn_square
square_table n lt = eqb-true _ _ (agree_below_at (λ n. eqb (slice_index PAWN_SQUARES n) (pawn_square n)) (λ n. true) 48 n refl lt)

pub square_below : (n : ℕ) → n < 48 → pawn_square n < 64
unfolding pawn_square
square_below n lt = leb-true (suc (pawn_square n)) 64 (agree_below_at (λ n. leb (suc (pawn_square n)) 64) (λ n. true) 48 n refl lt)

-- the place of file, others and ranks in the table
-- pawns_before as it computes
before_pascal : ℕ → ℕ → ℕ → ℕ
before_pascal file others zero = 0
before_pascal file others (suc ranks) = before_pascal file others ranks + pascal (pawn_number (8 * suc ranks + file)) others

before_is : (file others ranks : ℕ) → pawns_before file others ranks ≡ before_pascal file others ranks
unfolding pawns_before before_pascal
before_is file others zero = refl
before_is file others (suc ranks) = rw (before_is file others ranks, choose_pascal (pawn_number (8 * suc ranks + file)) others) refl

before_test : (i : ℕ) → i < 84 → eqb (slice_index PAWNS_BEFORE i) (before_pascal (i / 7 % 4) (i / 28) (i % 7)) ≡ true
unfolding before_pascal pascal pawn_number
before_test i lt = agree_below_at (λ i. eqb (slice_index PAWNS_BEFORE i) (before_pascal (i / 7 % 4) (i / 28) (i % 7))) (λ i. true) 84 i refl lt

pub before_most : (i : ℕ) → i < 84 → slice_index PAWNS_BEFORE i ≤ 5201
before_most i lt = leb-true _ _ (agree_below_at (λ i. leb (slice_index PAWNS_BEFORE i) 5201) (λ i. true) 84 i refl lt)

pub before_table : (f k n : ℕ) → f < 4 → k ≤ 2 → n ≤ 6 → slice_index PAWNS_BEFORE ((k * 4 + f) * 7 + n) ≡ pawns_before f k n
before_table f k n ff kk nn =
    let a : ((k * 4 + f) * 7 + n) / 7 % 4 ≡ f = omega arith in
    let b : ((k * 4 + f) * 7 + n) / 28 ≡ k = omega arith in
    let c : ((k * 4 + f) * 7 + n) % 7 ≡ n = omega arith in
    let lt : (k * 4 + f) * 7 + n < 84 = omega arith in
    rw (a, b, c) at (eqb-true _ _ (before_test ((k * 4 + f) * 7 + n) lt)) ∙ sym (before_is f k n)

pub triangle_most : (s : ℕ) → s < 64 → slice_index TRIANGLE s ≤ 10
triangle_most s lt = leb-true _ _ (agree_below_at (λ s. leb (slice_index TRIANGLE s) 10) (λ s. true) 64 s refl lt)

pub lower_most : (s : ℕ) → s < 64 → slice_index LOWER s ≤ 28
lower_most s lt = leb-true _ _ (agree_below_at (λ s. leb (slice_index LOWER s) 28) (λ s. true) 64 s refl lt)

pub king_most : (i : ℕ) → i < 640 → slice_index KINGS i ≤ 462
king_most i lt = leb-true _ _ (agree_below_at (λ i. leb (slice_index KINGS i) 462) (λ i. true) 640 i refl lt)

pub sizes_few : (f k : ℕ) → f < 4 → k ≤ 2 → pawns_before f k 6 ≤ 5201
sizes_few f k ff kk =
    let lt : (k * 4 + f) * 7 + 6 < 84 = omega arith in
    omega (arith, before_table f k 6 ff kk (omega arith), before_most ((k * 4 + f) * 7 + 6) lt)
