-- The table of turned squares.
use Rattle.std.proofs.Common.{◌≡◌, ℕ, ◌+◌, ◌*◌, ◌<◌, Bool, true, false, eqb, ltb, slice_index, refl}
use Rattle.std.proofs.lemmas.Bool.{agree_below_at, eqb-true, ltb-true}
use Rattle.place_index.specs.Inside.Turns.{turn_number, turn_square}
use Rattle.place_index.specs.declared.turn.Turn.{Turn}
use Rattle.place_index.specs.declared.tables.TheConstants.{TURNED}

turn : Bool → Bool → Bool → Turn
turn l b a = record { left_right = l; bottom_top = b; across = a }

row_test : (l b a : Bool) (s : ℕ) → s < 64 → eqb (slice_index TURNED (64 * turn_number (turn l b a) + s)) (turn_square (turn l b a) s) ≡ true
unfolding turn turn_number turn_square
row_test false false false s lt = agree_below_at (λ s. eqb (slice_index TURNED (64 * turn_number (turn false false false) + s)) (turn_square (turn false false false) s)) (λ s. true) 64 s refl lt
row_test true false false s lt = agree_below_at (λ s. eqb (slice_index TURNED (64 * turn_number (turn true false false) + s)) (turn_square (turn true false false) s)) (λ s. true) 64 s refl lt
row_test false true false s lt = agree_below_at (λ s. eqb (slice_index TURNED (64 * turn_number (turn false true false) + s)) (turn_square (turn false true false) s)) (λ s. true) 64 s refl lt
row_test true true false s lt = agree_below_at (λ s. eqb (slice_index TURNED (64 * turn_number (turn true true false) + s)) (turn_square (turn true true false) s)) (λ s. true) 64 s refl lt
row_test false false true s lt = agree_below_at (λ s. eqb (slice_index TURNED (64 * turn_number (turn false false true) + s)) (turn_square (turn false false true) s)) (λ s. true) 64 s refl lt
row_test true false true s lt = agree_below_at (λ s. eqb (slice_index TURNED (64 * turn_number (turn true false true) + s)) (turn_square (turn true false true) s)) (λ s. true) 64 s refl lt
row_test false true true s lt = agree_below_at (λ s. eqb (slice_index TURNED (64 * turn_number (turn false true true) + s)) (turn_square (turn false true true) s)) (λ s. true) 64 s refl lt
row_test true true true s lt = agree_below_at (λ s. eqb (slice_index TURNED (64 * turn_number (turn true true true) + s)) (turn_square (turn true true true) s)) (λ s. true) 64 s refl lt

pub turned_table : (t : Turn) (s : ℕ) → s < 64 → slice_index TURNED (64 * turn_number t + s) ≡ turn_square t s
unfolding turn
turned_table t s lt = eqb-true _ _ (row_test t.left_right t.bottom_top t.across s lt)

pub turned_small : (i : ℕ) → i < 512 → slice_index TURNED i < 64
turned_small i lt = ltb-true _ _ (agree_below_at (λ i. ltb (slice_index TURNED i) 64) (λ i. true) 512 i refl lt)
