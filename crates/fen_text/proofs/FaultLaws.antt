-- A text has one first fault.
use Rattle.std.proofs.Common.{◌≡◌, ℕ, List, length, refl, ap, subst}
use Rattle.board_core.specs.declared.parts.Parts.{Parts}
use Rattle.board_core.specs.declared.position.PositionFault.{PositionFault}
use Rattle.board_core.specs.declared.position.PositionFault.TheVariants.{BadKings, TooManyMen, PawnOnEdge, BadCastling, BadEnPassant, OpponentInCheck, BadCounter}
use Rattle.board_core.specs.Position.{IsFirstFault}
use Rattle.fen_text.specs.declared.fault.FenFault.{FenFault}
use Rattle.fen_text.specs.declared.fault.FenFault.TheVariants.{FieldCount, BadPlacement, BadSide, BadCastlingText, BadSquare, BadNumber, BadPosition}
use Rattle.fen_text.specs.Placement.{SpellsPlacement}
use Rattle.fen_text.specs.Fields.{SpellsSide, SpellsCastling, SpellsEnPassant}
use Rattle.fen_text.specs.Fen.{SixFields, HasPlacement, HasSide, HasCastling, HasSquare, IsFirstFenFault}
use Rattle.fen_text.proofs.FenLaws.{same_fields, spells_one, has_fields}

-- parts have one first fault
position_fault_one : (p : Parts) (a b : PositionFault) → IsFirstFault p a → IsFirstFault p b → a ≡ b
position_fault_one p BadKings BadKings f g = refl
position_fault_one p BadKings TooManyMen f g = absurd (f g.0)
position_fault_one p BadKings PawnOnEdge f g = absurd (f g.0)
position_fault_one p BadKings BadCastling f g = absurd (f g.0)
position_fault_one p BadKings BadEnPassant f g = absurd (f g.0)
position_fault_one p BadKings OpponentInCheck f g = absurd (f g.0)
position_fault_one p BadKings BadCounter f g = absurd (f g.0)
position_fault_one p TooManyMen BadKings f g = absurd (g f.0)
position_fault_one p TooManyMen TooManyMen f g = refl
position_fault_one p TooManyMen PawnOnEdge f g = absurd (f.1 g.1)
position_fault_one p TooManyMen BadCastling f g = absurd (f.1 g.1)
position_fault_one p TooManyMen BadEnPassant f g = absurd (f.1 g.1)
position_fault_one p TooManyMen OpponentInCheck f g = absurd (f.1 g.1)
position_fault_one p TooManyMen BadCounter f g = absurd (f.1 g.1)
position_fault_one p PawnOnEdge BadKings f g = absurd (g f.0)
position_fault_one p PawnOnEdge TooManyMen f g = absurd (g.1 f.1)
position_fault_one p PawnOnEdge PawnOnEdge f g = refl
position_fault_one p PawnOnEdge BadCastling f g = absurd (f.2 g.2)
position_fault_one p PawnOnEdge BadEnPassant f g = absurd (f.2 g.2)
position_fault_one p PawnOnEdge OpponentInCheck f g = absurd (f.2 g.2)
position_fault_one p PawnOnEdge BadCounter f g = absurd (f.2 g.2)
position_fault_one p BadCastling BadKings f g = absurd (g f.0)
position_fault_one p BadCastling TooManyMen f g = absurd (g.1 f.1)
position_fault_one p BadCastling PawnOnEdge f g = absurd (g.2 f.2)
position_fault_one p BadCastling BadCastling f g = refl
position_fault_one p BadCastling BadEnPassant f g = absurd (f.3 g.3)
position_fault_one p BadCastling OpponentInCheck f g = absurd (f.3 g.3)
position_fault_one p BadCastling BadCounter f g = absurd (f.3 g.3)
position_fault_one p BadEnPassant BadKings f g = absurd (g f.0)
position_fault_one p BadEnPassant TooManyMen f g = absurd (g.1 f.1)
position_fault_one p BadEnPassant PawnOnEdge f g = absurd (g.2 f.2)
position_fault_one p BadEnPassant BadCastling f g = absurd (g.3 f.3)
position_fault_one p BadEnPassant BadEnPassant f g = refl
position_fault_one p BadEnPassant OpponentInCheck f g = absurd (f.4 g.4)
position_fault_one p BadEnPassant BadCounter f g = absurd (f.4 g.4)
position_fault_one p OpponentInCheck BadKings f g = absurd (g f.0)
position_fault_one p OpponentInCheck TooManyMen f g = absurd (g.1 f.1)
position_fault_one p OpponentInCheck PawnOnEdge f g = absurd (g.2 f.2)
position_fault_one p OpponentInCheck BadCastling f g = absurd (g.3 f.3)
position_fault_one p OpponentInCheck BadEnPassant f g = absurd (g.4 f.4)
position_fault_one p OpponentInCheck OpponentInCheck f g = refl
position_fault_one p OpponentInCheck BadCounter f g = absurd (f.5 g.5)
position_fault_one p BadCounter BadKings f g = absurd (g f.0)
position_fault_one p BadCounter TooManyMen f g = absurd (g.1 f.1)
position_fault_one p BadCounter PawnOnEdge f g = absurd (g.2 f.2)
position_fault_one p BadCounter BadCastling f g = absurd (g.3 f.3)
position_fault_one p BadCounter BadEnPassant f g = absurd (g.4 f.4)
position_fault_one p BadCounter OpponentInCheck f g = absurd (g.5 f.5)
position_fault_one p BadCounter BadCounter f g = refl

-- what the fields of a text spell is the same however they are given
placement_of : (t : List ℕ) (f g : SixFields t) → HasPlacement g → HasPlacement f
placement_of t f g h = (h.0, subst (λ (s : List ℕ). SpellsPlacement s h.0) (same_fields t g f).placement h.1)

side_of : (t : List ℕ) (f g : SixFields t) → HasSide g → HasSide f
side_of t f g h = (h.0, subst (λ (s : List ℕ). SpellsSide s h.0) (same_fields t g f).side h.1)

castling_of : (t : List ℕ) (f g : SixFields t) → HasCastling g → HasCastling f
castling_of t f g h = (h.0, subst (λ (s : List ℕ). SpellsCastling s h.0) (same_fields t g f).castling h.1)

square_of : (t : List ℕ) (f g : SixFields t) → HasSquare g → HasSquare f
square_of t f g h = (h.0, subst (λ (s : List ℕ). SpellsEnPassant s h.0) (same_fields t g f).en_passant h.1)

-- a text has one first fault
pub fault_one : (t : List ℕ) (a b : FenFault) → IsFirstFenFault t a → IsFirstFenFault t b → a ≡ b
fault_one t FieldCount FieldCount f g = refl
fault_one t FieldCount BadPlacement f g = absurd (f (ap length g.0.cut))
fault_one t FieldCount BadSide f g = absurd (f (ap length g.0.cut))
fault_one t FieldCount BadCastlingText f g = absurd (f (ap length g.0.cut))
fault_one t FieldCount BadSquare f g = absurd (f (ap length g.0.cut))
fault_one t FieldCount BadNumber f g = absurd (f (ap length g.0.cut))
fault_one t FieldCount (BadPosition b) f g = absurd (f (ap length g.1.fields.cut))
fault_one t BadPlacement FieldCount f g = absurd (g (ap length f.0.cut))
fault_one t BadPlacement BadPlacement f g = refl
fault_one t BadPlacement BadSide f g = absurd (f.1 (placement_of t f.0 g.0 g.1))
fault_one t BadPlacement BadCastlingText f g = absurd (f.1 (placement_of t f.0 g.0 g.1))
fault_one t BadPlacement BadSquare f g = absurd (f.1 (placement_of t f.0 g.0 g.1))
fault_one t BadPlacement BadNumber f g = absurd (f.1 (placement_of t f.0 g.0 g.1))
fault_one t BadPlacement (BadPosition b) f g = absurd (f.1 (has_fields t g.0 f.0 g.1).0)
fault_one t BadSide FieldCount f g = absurd (g (ap length f.0.cut))
fault_one t BadSide BadPlacement f g = absurd (g.1 (placement_of t g.0 f.0 f.1))
fault_one t BadSide BadSide f g = refl
fault_one t BadSide BadCastlingText f g = absurd (f.2 (side_of t f.0 g.0 g.2))
fault_one t BadSide BadSquare f g = absurd (f.2 (side_of t f.0 g.0 g.2))
fault_one t BadSide BadNumber f g = absurd (f.2 (side_of t f.0 g.0 g.2))
fault_one t BadSide (BadPosition b) f g = absurd (f.2 (has_fields t g.0 f.0 g.1).1)
fault_one t BadCastlingText FieldCount f g = absurd (g (ap length f.0.cut))
fault_one t BadCastlingText BadPlacement f g = absurd (g.1 (placement_of t g.0 f.0 f.1))
fault_one t BadCastlingText BadSide f g = absurd (g.2 (side_of t g.0 f.0 f.2))
fault_one t BadCastlingText BadCastlingText f g = refl
fault_one t BadCastlingText BadSquare f g = absurd (f.3 (castling_of t f.0 g.0 g.3))
fault_one t BadCastlingText BadNumber f g = absurd (f.3 (castling_of t f.0 g.0 g.3))
fault_one t BadCastlingText (BadPosition b) f g = absurd (f.3 (has_fields t g.0 f.0 g.1).2)
fault_one t BadSquare FieldCount f g = absurd (g (ap length f.0.cut))
fault_one t BadSquare BadPlacement f g = absurd (g.1 (placement_of t g.0 f.0 f.1))
fault_one t BadSquare BadSide f g = absurd (g.2 (side_of t g.0 f.0 f.2))
fault_one t BadSquare BadCastlingText f g = absurd (g.3 (castling_of t g.0 f.0 f.3))
fault_one t BadSquare BadSquare f g = refl
fault_one t BadSquare BadNumber f g = absurd (f.4 (square_of t f.0 g.0 g.4))
fault_one t BadSquare (BadPosition b) f g = absurd (f.4 (has_fields t g.0 f.0 g.1).3)
fault_one t BadNumber FieldCount f g = absurd (g (ap length f.0.cut))
fault_one t BadNumber BadPlacement f g = absurd (g.1 (placement_of t g.0 f.0 f.1))
fault_one t BadNumber BadSide f g = absurd (g.2 (side_of t g.0 f.0 f.2))
fault_one t BadNumber BadCastlingText f g = absurd (g.3 (castling_of t g.0 f.0 f.3))
fault_one t BadNumber BadSquare f g = absurd (g.4 (square_of t g.0 f.0 f.4))
fault_one t BadNumber BadNumber f g = refl
fault_one t BadNumber (BadPosition b) f g = absurd (f.5 (has_fields t g.0 f.0 g.1).4)
fault_one t (BadPosition a) FieldCount f g = absurd (g (ap length f.1.fields.cut))
fault_one t (BadPosition a) BadPlacement f g = absurd (g.1 (has_fields t f.0 g.0 f.1).0)
fault_one t (BadPosition a) BadSide f g = absurd (g.2 (has_fields t f.0 g.0 f.1).1)
fault_one t (BadPosition a) BadCastlingText f g = absurd (g.3 (has_fields t f.0 g.0 f.1).2)
fault_one t (BadPosition a) BadSquare f g = absurd (g.4 (has_fields t f.0 g.0 f.1).3)
fault_one t (BadPosition a) BadNumber f g = absurd (g.5 (has_fields t f.0 g.0 f.1).4)
fault_one t (BadPosition a) (BadPosition b) f g =
    ap (λ (x : PositionFault). BadPosition x) (position_fault_one g.0 a b (subst (λ (p : Parts). IsFirstFault p a) (spells_one t f.0 g.0 f.1 g.1) f.2) g.2)
