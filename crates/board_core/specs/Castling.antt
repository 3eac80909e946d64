-- The squares of castling (FIDE articles 2.3 and 3.8.2), and the rights to it.
use Rattle.std.specs.Prelude.{ℕ, Bool, ◌||◌}
use Rattle.board_core.specs.declared.piece.Side.{Side}
use Rattle.board_core.specs.declared.piece.Side.TheVariants.{White, Black}
use Rattle.board_core.specs.declared.piece.Wing.{Wing}
use Rattle.board_core.specs.declared.piece.Wing.TheVariants.{KingSide, QueenSide}
use Rattle.board_core.specs.declared.parts.Rights.{Rights}

-- whether this side has not lost this castling
abbrev pub has_right : Rights → Side → Wing → Bool
has_right r White KingSide = r.white_king
has_right r White QueenSide = r.white_queen
has_right r Black KingSide = r.black_king
has_right r Black QueenSide = r.black_queen

-- whether some castling has not been lost
abbrev pub has_any_right : Rights → Bool
has_any_right r = r.white_king || r.white_queen || r.black_king || r.black_queen

-- where the kings begin: e1 and e8
abbrev pub king_home : Side → ℕ
king_home White = 4
king_home Black = 60

-- where the rooks begin: the corners
abbrev pub rook_home : Side → Wing → ℕ
rook_home White KingSide = 7
rook_home White QueenSide = 0
rook_home Black KingSide = 63
rook_home Black QueenSide = 56

-- where the king goes: g1, c1, g8 and c8
abbrev pub king_end : Side → Wing → ℕ
king_end White KingSide = 6
king_end White QueenSide = 2
king_end Black KingSide = 62
king_end Black QueenSide = 58

-- and where the rook goes: f1, d1, f8 and d8
abbrev pub rook_end : Side → Wing → ℕ
rook_end White KingSide = 5
rook_end White QueenSide = 3
rook_end Black KingSide = 61
rook_end Black QueenSide = 59
