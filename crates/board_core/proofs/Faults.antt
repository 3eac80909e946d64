-- At most one fault of parts is the first one.
use Rattle.std.proofs.Common.{◌≡◌, refl}
use Rattle.board_core.specs.declared.parts.Parts.{Parts}
use Rattle.board_core.specs.declared.position.PositionFault.{PositionFault}
use Rattle.board_core.specs.declared.position.PositionFault.TheVariants.{BadKings, TooManyMen, PawnOnEdge, BadCastling, BadEnPassant, OpponentInCheck, BadCounter}
use Rattle.board_core.specs.Position.{IsPosition, IsFirstFault}

-- a position has no fault
pub no_fault : (p : Parts) (f : PositionFault) → IsFirstFault p f → IsPosition p → ⊥
no_fault p BadKings h v = h v.kings
no_fault p TooManyMen h v = h.1 v.few
no_fault p PawnOnEdge h v = h.2 v.pawns
no_fault p BadCastling h v = h.3 v.rights
no_fault p BadEnPassant h v = h.4 v.en_passant
no_fault p OpponentInCheck h v = h.5 v.quiet
no_fault p BadCounter h v = h.6 v.counters

pub one_fault : (p : Parts) (f g : PositionFault) → IsFirstFault p f → IsFirstFault p g → f ≡ g
one_fault p BadKings BadKings h k = refl
one_fault p BadKings TooManyMen h k = absurd (h k.0)
one_fault p BadKings PawnOnEdge h k = absurd (h k.0)
one_fault p BadKings BadCastling h k = absurd (h k.0)
one_fault p BadKings BadEnPassant h k = absurd (h k.0)
one_fault p BadKings OpponentInCheck h k = absurd (h k.0)
one_fault p BadKings BadCounter h k = absurd (h k.0)
one_fault p TooManyMen BadKings h k = absurd (k h.0)
one_fault p TooManyMen TooManyMen h k = refl
one_fault p TooManyMen PawnOnEdge h k = absurd (h.1 k.1)
one_fault p TooManyMen BadCastling h k = absurd (h.1 k.1)
one_fault p TooManyMen BadEnPassant h k = absurd (h.1 k.1)
one_fault p TooManyMen OpponentInCheck h k = absurd (h.1 k.1)
one_fault p TooManyMen BadCounter h k = absurd (h.1 k.1)
one_fault p PawnOnEdge BadKings h k = absurd (k h.0)
one_fault p PawnOnEdge TooManyMen h k = absurd (k.1 h.1)
one_fault p PawnOnEdge PawnOnEdge h k = refl
one_fault p PawnOnEdge BadCastling h k = absurd (h.2 k.2)
one_fault p PawnOnEdge BadEnPassant h k = absurd (h.2 k.2)
one_fault p PawnOnEdge OpponentInCheck h k = absurd (h.2 k.2)
one_fault p PawnOnEdge BadCounter h k = absurd (h.2 k.2)
one_fault p BadCastling BadKings h k = absurd (k h.0)
one_fault p BadCastling TooManyMen h k = absurd (k.1 h.1)
one_fault p BadCastling PawnOnEdge h k = absurd (k.2 h.2)
one_fault p BadCastling BadCastling h k = refl
one_fault p BadCastling BadEnPassant h k = absurd (h.3 k.3)
one_fault p BadCastling OpponentInCheck h k = absurd (h.3 k.3)
one_fault p BadCastling BadCounter h k = absurd (h.3 k.3)
one_fault p BadEnPassant BadKings h k = absurd (k h.0)
one_fault p BadEnPassant TooManyMen h k = absurd (k.1 h.1)
one_fault p BadEnPassant PawnOnEdge h k = absurd (k.2 h.2)
one_fault p BadEnPassant BadCastling h k = absurd (k.3 h.3)
one_fault p BadEnPassant BadEnPassant h k = refl
one_fault p BadEnPassant OpponentInCheck h k = absurd (h.4 k.4)
one_fault p BadEnPassant BadCounter h k = absurd (h.4 k.4)
one_fault p OpponentInCheck BadKings h k = absurd (k h.0)
one_fault p OpponentInCheck TooManyMen h k = absurd (k.1 h.1)
one_fault p OpponentInCheck PawnOnEdge h k = absurd (k.2 h.2)
one_fault p OpponentInCheck BadCastling h k = absurd (k.3 h.3)
one_fault p OpponentInCheck BadEnPassant h k = absurd (k.4 h.4)
one_fault p OpponentInCheck OpponentInCheck h k = refl
one_fault p OpponentInCheck BadCounter h k = absurd (h.5 k.5)
one_fault p BadCounter BadKings h k = absurd (k h.0)
one_fault p BadCounter TooManyMen h k = absurd (k.1 h.1)
one_fault p BadCounter PawnOnEdge h k = absurd (k.2 h.2)
one_fault p BadCounter BadCastling h k = absurd (k.3 h.3)
one_fault p BadCounter BadEnPassant h k = absurd (k.4 h.4)
one_fault p BadCounter OpponentInCheck h k = absurd (k.5 h.5)
one_fault p BadCounter BadCounter h k = refl
