-- The rows of the table of the squares that a man reaches on an empty board.
use Rattle.std.specs.Prelude.{ℕ}
use Rattle.board_core.specs.declared.piece.Side.{Side}
use Rattle.board_core.specs.declared.piece.Side.TheVariants.{White, Black}
use Rattle.board_core.specs.declared.piece.Kind.{Kind}
use Rattle.board_core.specs.declared.piece.Kind.TheVariants.{Pawn, Knight, Bishop, Rook, Queen, King}

abbrev pub row_of : Side → Kind → ℕ
row_of White Pawn = 0
row_of Black Pawn = 1
row_of side Knight = 2
row_of side Bishop = 3
row_of side Rook = 4
row_of side Queen = 5
row_of side King = 6
