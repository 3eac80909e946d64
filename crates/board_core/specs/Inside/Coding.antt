-- The codes of men, a byte for each square; no public contract cites these.
use Rattle.std.specs.Prelude.{ℕ, zero, suc, ◌+◌, ◌%◌, cond, nat_lt, List, map, Option, Some, None, ◌≡◌}
use Rattle.board_core.specs.declared.piece.Piece.{Piece}
use Rattle.board_core.specs.declared.piece.Side.{Side}
use Rattle.board_core.specs.declared.piece.Side.TheVariants.{White, Black}
use Rattle.board_core.specs.declared.piece.Kind.{Kind}
use Rattle.board_core.specs.declared.piece.Kind.TheVariants.{Pawn, Knight, Bishop, Rook, Queen, King}

abbrev pub kind_code : Kind → ℕ
kind_code Pawn = 1
kind_code Knight = 2
kind_code Bishop = 3
kind_code Rook = 4
kind_code Queen = 5
kind_code King = 6

abbrev pub side_code : Side → ℕ
side_code White = 0
side_code Black = 8

-- what stands on a square: 0 for nothing, 1 to 6 for white's pawn, knight, bishop, rook, queen and king, 9 to 14 for black's
abbrev pub code_on_square : Option Piece → ℕ
code_on_square None = 0
code_on_square (Some man) = side_code man.side + kind_code man.kind

abbrev pub coded_kind : ℕ → Kind
coded_kind zero = King
coded_kind (suc zero) = Pawn
coded_kind (suc (suc zero)) = Knight
coded_kind (suc (suc (suc zero))) = Bishop
coded_kind (suc (suc (suc (suc zero)))) = Rook
coded_kind (suc (suc (suc (suc (suc zero))))) = Queen
coded_kind (suc (suc (suc (suc (suc (suc n)))))) = King

abbrev pub coded_side : ℕ → Side
coded_side code = cond (nat_lt code 8) White Black

-- what a code stands for
abbrev pub coded_man : ℕ → Option Piece
coded_man zero = None
coded_man (suc n) = Some (record { side = coded_side (suc n); kind = coded_kind (suc n % 8) })

abbrev pub coded_men : List ℕ → List (Option Piece)
coded_men codes = map coded_man codes

abbrev pub square_codes : List (Option Piece) → List ℕ
square_codes men = map code_on_square men

-- each is the code of what it stands for
abbrev pub AreSquareCodes : List ℕ → Type 0
AreSquareCodes codes = square_codes (coded_men codes) ≡ codes
