-- The sets of the squares of the two sides, and the sweep for the king.
use Rattle.std.proofs.Common.{ℕ, ◌≡◌, ◌≢◌, ◌<◌, ◌+◌, List, length, set, Bool, true, false, Option, Some, None, refl, sym, ap, ◌∙◌, arith, inl, inr}
use Rattle.std.specs.Int.{bit_at}
use Rattle.std.proofs.lemmas.Bool.{cases_eq, cases_lt}
use Rattle.std.proofs.lemmas.List.{get_or_past, get_or-set_same, get_or-set_other}
use Rattle.std.proofs.lemmas.Nat.Bits.{bit_at-zero, bit_at-lt}
use Rattle.board_core.specs.declared.piece.Piece.{Piece}
use Rattle.board_core.specs.declared.piece.Side.{Side}
use Rattle.board_core.specs.declared.sides.Sides.{Sides}
use Rattle.board_core.specs.declared.piece.Side.TheVariants.{White, Black}
use Rattle.board_core.specs.declared.piece.Kind.TheVariants.{King}
use Rattle.board_core.specs.Attack.{man_at}
use Rattle.board_core.specs.Moves.{Stands, IsTaken}
use Rattle.board_core.specs.Position.{is_of}
use Rattle.board_core.specs.Sides.{squares_where, side_squares, sides_of}
use Rattle.board_core.proofs.Computed.{Decides-of}
use Rattle.board_core.proofs.SetBits.{bit_of, squares_where_bit, same_set}
use Rattle.board_core.proofs.Sweep.{Rests, Rests-between, zero_one}

piece_of_side : (man : Piece) (side : Side) → man.side ≡ side → man ≡ record { side = side; kind = man.kind }
piece_of_side man side e = rw (sym e) refl

pub taken : (men : List (Option Piece)) (s : ℕ) (man : Piece) (side : Side) → man_at men s ≡ Some man → man.side ≡ side → IsTaken men side s
taken men s man side there e = (man.kind, there ∙ ap (λ (x : Piece). Some x) (piece_of_side man side e))

one_is_true : (b : Bool) → bit_of b ≡ 1 → b ≡ true
one_is_true true e = refl
one_is_true false e = absurd (omega arith)

-- a square is in a side's set where a man of that side stands, and nowhere else
pub in_set : (men : List (Option Piece)) (side : Side) (s : ℕ) → IsTaken men side s → bit_at (squares_where (is_of side) men) s ≡ 1
in_set men side s t = squares_where_bit (is_of side) refl men s ∙ ap bit_of ((Decides-of side (man_at men s)).1 t)

pub set_only : (men : List (Option Piece)) (side : Side) (s : ℕ) → bit_at (squares_where (is_of side) men) s ≡ 1 → IsTaken men side s
set_only men side s bit = (Decides-of side (man_at men s)).0 (one_is_true _ (sym (squares_where_bit (is_of side) refl men s) ∙ bit))

pub side_set : (men : List (Option Piece)) (side : Side) → side_squares (sides_of men) side ≡ squares_where (is_of side) men
side_set men White = refl
side_set men Black = refl

pub has_some : (set s : ℕ) → bit_at set s ≡ 1 → 0 < set
has_some set s bit = elim (cases_eq set 0) [
  | inl e ↦ absurd (zero_one _ (bit_at-zero s) (rw e at bit))
  | inr ne ↦ omega arith
]

-- a sweep of a side's squares that begins
pub Rests-all : (men : List (Option Piece)) (side : Side) → Rests (IsTaken men side) 0 (squares_where (is_of side) men)
Rests-all men side = record {
  within = omega arith;
  gone = λ s lt. absurd (omega arith);
  rest = λ s b _ t. in_set men side s t;
}

-- no king stands below the square after the lowest, where none stood below `next` nor on the lowest
pub no_king_below : (men : List (Option Piece)) (side : Side) (next set lowest : ℕ) → Rests (IsTaken men side) next set → ((s : ℕ) → s < lowest → bit_at set s ≡ 0) → lowest < 64
    → ((s : ℕ) → s < next → Stands men s side King → ⊥) → (Stands men lowest side King → ⊥) → (s : ℕ) → s < lowest + 1 → Stands men s side King → ⊥
no_king_below men side next set lowest r first b below here s lt st = elim (cases_lt s next) [
  | inl x ↦ below s x st
  | inr ge ↦ elim (cases_eq s lowest) [
    | inl e ↦ here (rw e at st)
    | inr ne ↦ Rests-between _ next set lowest s r first (omega arith) ge (omega arith) (King, st)
  ]
]

-- the king is still to come, so the set isn't empty
pub king_to_come : (men : List (Option Piece)) (side : Side) (next set king : ℕ) → Rests (IsTaken men side) next set → ((s : ℕ) → s < next → Stands men s side King → ⊥) → king < 64 → Stands men king side King → 0 < set
king_to_come men side next set king r below b st = elim (cases_lt king next) [
  | inl x ↦ absurd (below king x st)
  | inr ge ↦ has_some set king (r.rest king b (omega arith) (King, st))
]

-- the sets of one side and of the other
pub set_of_side : (men : List (Option Piece)) (side : Side) (sides : Sides) (s : ℕ) → sides ≡ sides_of men → IsTaken men side s → bit_at (side_squares sides side) s ≡ 1
set_of_side men side sides s e t = rw (e, side_set men side) (in_set men side s t)

-- the set of one test, once a man stands on a square or leaves it
module _ (test : Option Piece → Bool) (none : test None ≡ false) (men : List (Option Piece)) (square : ℕ) (man : Option Piece) (set-1 set-2 : ℕ) (len : length men ≡ 64) (is : set-1 ≡ squares_where test men) where
  bit_before : (s : ℕ) → bit_at set-1 s ≡ bit_of (test (man_at men s))
  bit_before s = rw is (squares_where_bit test none men s)

  pub put_set : square < 64 → bit_at set-2 square ≡ bit_of (test man) → ((s : ℕ) → s < 64 → s ≢ square → bit_at set-2 s ≡ bit_at set-1 s) → ((s : ℕ) → s ≢ square → bit_at set-2 s ≡ 1 → bit_at set-1 s ≡ 1) → set-2 ≡ squares_where test (set men square man)
  put_set on_board here others only = same_set test none (set men square man) set-2 (λ s. elim (cases_eq s square) [
    | inl e ↦ rw (e, get_or-set_same men square man None (omega (arith, len))) here
    | inr ne ↦ elim (cases_lt s 64) [
      | inl lt ↦ others s lt ne ∙ bit_before s ∙ ap (λ o. bit_of (test o)) (sym (get_or-set_other men square s man None ne))
      | inr ge ↦
          let bare : man_at men s ≡ None = get_or_past men s None (omega (arith, ge, len)) in
          let before : bit_at set-1 s ≡ 0 = bit_before s ∙ rw (bare, none) refl in
          let after : bit_at set-2 s ≡ 0 = elim (cases_eq (bit_at set-2 s) 1) [
            | inl one ↦ absurd (zero_one _ before (only s ne one))
            | inr other ↦ omega (arith, bit_at-lt set-2 s)
          ] in
          after ∙ sym (ap (λ o. bit_of (test o)) (get_or-set_other men square s man None ne ∙ bare) ∙ rw none refl)
    ]
  ])
