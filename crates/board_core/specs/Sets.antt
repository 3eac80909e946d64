-- The men that sets of squares show, and a position by them.
use Rattle.std.specs.Prelude.{ℕ, zero, suc, ◌==◌, Bool, true, false, List, [], ◌∷◌, Option, Some, None}
use Rattle.std.specs.Int.{bit_at}
use Rattle.board_core.specs.declared.piece.Piece.{Piece}
use Rattle.board_core.specs.declared.piece.Side.{Side}
use Rattle.board_core.specs.declared.piece.Side.TheVariants.{White, Black}
use Rattle.board_core.specs.declared.piece.Kind.{Kind}
use Rattle.board_core.specs.declared.piece.Kind.TheVariants.{Pawn, Knight, Bishop, Rook, Queen, King}
use Rattle.board_core.specs.declared.parts.Parts.{Parts}
use Rattle.board_core.specs.declared.sets.Sets.{Sets}
use Rattle.board_core.specs.declared.sets.State.{State}

-- whether a square is in a set
abbrev pub is_in : ℕ → ℕ → Bool
is_in set s = bit_at set s == 1

-- the side whose man stands on a square: white, where its set has it
abbrev pub side_by : Bool → Bool → Option Side
side_by true black = Some White
side_by false true = Some Black
side_by false false = None

-- this kind, where its set has the square, or what the sets after it tell
abbrev pub kind_or : Kind → Bool → Option Kind → Option Kind
kind_or this true others = Some this
kind_or this false others = others

abbrev pub kind_on : Sets → ℕ → Option Kind
kind_on sets s =
    kind_or King (is_in sets.kings s) (kind_or Pawn (is_in sets.pawns s) (kind_or Rook (is_in sets.rooks s)
    (kind_or Queen (is_in sets.queens s) (kind_or Bishop (is_in sets.bishops s) (kind_or Knight (is_in sets.knights s) None)))))

-- a man, where there are a side and a kind
abbrev pub man_by : Option Side → Option Kind → Option Piece
man_by None kind = None
man_by (Some side) None = None
man_by (Some side) (Some kind) = Some (record { side = side; kind = kind })

-- what the sets show on a square: a man of the first side and of the first kind that have it
abbrev pub man_on : Sets → ℕ → Option Piece
man_on sets s = man_by (side_by (is_in sets.white s) (is_in sets.black s)) (kind_on sets s)

-- what they show on n squares from this one on
unfoldable pub shown_from : Sets → ℕ → ℕ → List (Option Piece)
shown_from sets zero s = []
shown_from sets (suc n) s = man_on sets s ∷ shown_from sets n (suc s)

-- what they show on the 64 squares
abbrev pub men_shown : Sets → List (Option Piece)
men_shown sets = shown_from sets 64 0

-- the parts of a position by its sets and its state
abbrev pub parts_of : Sets → State → Parts
parts_of sets state = record {
  men = men_shown sets;
  side = state.side;
  rights = state.rights;
  en_passant = state.en_passant;
  halfmove = state.halfmove;
  fullmove = state.fullmove;
}
