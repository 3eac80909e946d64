-- What ties the computed words to the relations. The functions of src/laws.rt carry these.
use Rattle.std.specs.Prelude.{◌≡◌, ◌↔◌, ◌+◌, ◌≤◌, IsTrue, IsFalse, List, Option, Some}
use Rattle.board_core.specs.declared.piece.Piece.{Piece}
use Rattle.board_core.specs.declared.piece.Side.{Side}
use Rattle.board_core.specs.declared.parts.Parts.{Parts}
use Rattle.board_core.specs.declared.moves.Move.{Move}
use Rattle.board_core.specs.Attack.{IsInCheck}
use Rattle.board_core.specs.Moves.{Legal, IsLegal, HasLegal, HasLegalCaptures}
use Rattle.board_core.specs.Position.{IsPosition}
use Rattle.board_core.specs.Computed.{is_in_check}
use Rattle.board_core.specs.ComputedMoves.{position_after, is_legal, legal_moves, is_capture, legal_captures, count_of_men}

abbrev pub CheckIsComputed : Type 0
CheckIsComputed = (men : List (Option Piece)) (side : Side) → IsTrue (is_in_check men side) ↔ IsInCheck men side

abbrev pub PositionAfterIsComputed : Type 0
PositionAfterIsComputed = (p : Parts) (m : Move) (q : Parts) → (position_after p m ≡ Some q) ↔ Legal p m q

-- what stands after a legal move of a position is a position
abbrev pub PositionAfterIsAPosition : Type 0
PositionAfterIsAPosition = (p : Parts) (m : Move) (q : Parts) → IsPosition p → position_after p m ≡ Some q → IsPosition q

abbrev pub LegalIsComputed : Type 0
LegalIsComputed = (p : Parts) (m : Move) → IsTrue (is_legal p m) ↔ IsLegal p m

-- the computed list has the legal moves, and no other list has them
abbrev pub LegalMovesAreListed : Type 0
LegalMovesAreListed = (p : Parts) (moves : List Move) → HasLegal p moves ↔ (moves ≡ legal_moves p)

abbrev pub LegalCapturesAreListed : Type 0
LegalCapturesAreListed = (p : Parts) (moves : List Move) → HasLegalCaptures p moves ↔ (moves ≡ legal_captures p)

-- a capture takes one man, and no other move takes or adds one
abbrev pub CaptureTakesOneMan : Type 0
CaptureTakesOneMan =
    (p : Parts) (m : Move) (q : Parts) → IsPosition p → Legal p m q → IsTrue (is_capture p m) → count_of_men q + 1 ≡ count_of_men p

abbrev pub OtherMoveKeepsTheMen : Type 0
OtherMoveKeepsTheMen =
    (p : Parts) (m : Move) (q : Parts) → IsPosition p → Legal p m q → IsFalse (is_capture p m) → count_of_men q ≡ count_of_men p

abbrev pub PositionHasTwoToThirtyTwoMen : Type 0
PositionHasTwoToThirtyTwoMen = (p : Parts) → IsPosition p → (2 ≤ count_of_men p) × (count_of_men p ≤ 32)
