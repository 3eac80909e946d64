-- The bits of sets of squares.
use Rattle.std.proofs.Common.{ℕ, zero, suc, ◌≡◌, ◌<◌, ◌≤◌, ◌+◌, ◌*◌, ◌/◌, ◌%◌, List, [], ◌∷◌, Option, Some, None, Bool, true, false, cond, ◌↔◌, IsTrue, is_some, max, bit_or, count_ones, count_by, map, length, refl, sym, ap, ◌∙◌, arith, inl, inr}
use Rattle.std.specs.Int.{bit_at}
use Rattle.std.proofs.lemmas.Bool.{cases_lt, cases_eq}
use Rattle.std.proofs.lemmas.Nat.Bits.{bit_at_lowest, bit_at-suc, bit_at-zero, bit_at_or, same_from_bits}
use Rattle.std.proofs.lemmas.List.{get_or_past}
use Rattle.board_core.specs.declared.piece.Piece.{Piece}
use Rattle.board_core.specs.Attack.{man_at}
use Rattle.std.proofs.lemmas.Simd.{ones-mask_l}
use lib.Lanes.{mask_l}
use Rattle.board_core.specs.declared.piece.Side.{Side}
use Rattle.board_core.specs.declared.piece.Side.TheVariants.{White, Black}
use Rattle.board_core.specs.Position.{is_of, is_same_side}
use Rattle.board_core.specs.Sides.{squares_where, sides_of, IsOccupied}

abbrev pub bit_of : Bool → ℕ
bit_of b = cond b 1 0

halves : (b : Bool) (n : ℕ) → ((cond b 1 0 + 2 * n) % 2 ≡ cond b 1 0) × ((cond b 1 0 + 2 * n) / 2 ≡ n)
halves true n = omega arith
halves false n = omega arith

-- a bit is set where what stands on its square passes the test
pub squares_where_bit : (test : Option Piece → Bool) → test None ≡ false → (men : List (Option Piece)) (s : ℕ) → bit_at (squares_where test men) s ≡ bit_of (test (man_at men s))
unfolding squares_where
squares_where_bit test none [] s = bit_at-zero s ∙ rw none refl
squares_where_bit test none (man ∷ others) zero = bit_at_lowest _ ∙ (halves (test man) (squares_where test others)).0
squares_where_bit test none (man ∷ others) (suc s) = bit_at-suc _ s ∙ ap (λ n. bit_at n s) (halves (test man) (squares_where test others)).1 ∙ squares_where_bit test none others s

pub same_set : (test : Option Piece → Bool) → test None ≡ false → (men : List (Option Piece)) (set : ℕ) → ((s : ℕ) → bit_at set s ≡ bit_of (test (man_at men s))) → set ≡ squares_where test men
same_set test none men set bits = same_from_bits set (squares_where test men) (λ s. bits s ∙ sym (squares_where_bit test none men s))

-- the set has the squares below n whose men pass the test, and no other
pub record IsBelow (test : Option Piece → Bool) (men : List (Option Piece)) (n set : ℕ) : Type 0 where
  pub below : (s : ℕ) → s < n → bit_at set s ≡ bit_of (test (man_at men s))
  pub above : (s : ℕ) → n ≤ s → bit_at set s ≡ 0

pub IsBelow-none : (test : Option Piece → Bool) (men : List (Option Piece)) → IsBelow test men 0 0
IsBelow-none test men = record {
  below = λ s lt. absurd (omega arith);
  above = λ s _. bit_at-zero s;
}

-- the next square's man passes no test
pub IsBelow-skip : (test : Option Piece → Bool) (men : List (Option Piece)) (n set : ℕ) → IsBelow test men n set → test (man_at men n) ≡ false → IsBelow test men (n + 1) set
IsBelow-skip test men n set h fails = record {
  below = λ s lt. elim (cases_eq s n) [
    | inl e ↦ rw (e, fails) (h.above n (omega arith))
    | inr ne ↦ h.below s (omega arith)
  ];
  above = λ s le. h.above s (omega arith);
}

pub IsBelow-all : (test : Option Piece → Bool) → test None ≡ false → (men : List (Option Piece)) (n set : ℕ) → length men ≤ n → IsBelow test men n set → set ≡ squares_where test men
IsBelow-all test none men n set long h = same_set test none men set (λ s. elim (cases_lt s n) [
  | inl lt ↦ h.below s lt
  | inr ge ↦ h.above s (omega arith) ∙ sym (ap (λ o. bit_of (test o)) (get_or_past men s None (omega arith)) ∙ rw none refl)
])

as_mask : (test : Option Piece → Bool) (men : List (Option Piece)) → squares_where test men ≡ mask_l (map test men)
unfolding squares_where
as_mask test [] = refl
as_mask test (man ∷ others) = ap (λ n. bit_of (test man) + 2 * n) (as_mask test others)

-- as many squares as men that pass the test
pub squares_counted : (test : Option Piece → Bool) (men : List (Option Piece)) → count_ones (squares_where test men) ≡ count_by test men
squares_counted test men = ap count_ones (as_mask test men) ∙ ones-mask_l test men

either_side : (o : Option Piece) → max (bit_of (is_of White o)) (bit_of (is_of Black o)) ≡ bit_of (is_some o)
either_side None = refl
either_side (Some man) = of_one man.side
  where
    of_one : (side : Side) → max (bit_of (is_same_side White side)) (bit_of (is_same_side Black side)) ≡ 1
    of_one White = refl
    of_one Black = refl

is_one : (b : Bool) → (bit_of b ≡ 1) ↔ IsTrue b
is_one true = (λ _. refl, λ _. refl)
is_one false = (λ e. absurd (omega arith), λ t. let f = t in cc)

-- the squares of both sides are those on which men stand
pub both_sides : (men : List (Option Piece)) → IsOccupied men (bit_or (sides_of men).white (sides_of men).black)
both_sides men = λ s.
    let bits : bit_at (bit_or (sides_of men).white (sides_of men).black) s ≡ bit_of (is_some (man_at men s)) =
    bit_at_or (sides_of men).white (sides_of men).black s
    ∙ rw (squares_where_bit (is_of White) refl men s, squares_where_bit (is_of Black) refl men s) (either_side (man_at men s)) in
    let one = is_one (is_some (man_at men s)) in
    (λ h. one.0 (sym bits ∙ h), λ t. bits ∙ one.1 t)
