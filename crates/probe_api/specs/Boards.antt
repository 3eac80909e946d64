-- Positions as plain numbers: sets of squares, and what a position has besides its men.
use Rattle.std.specs.Prelude.{ℕ, Bool, true, false, Option, Some, None, nat_eq, nat_lt}
use Rattle.board_core.specs.declared.parts.Parts.{Parts}
use Rattle.board_core.specs.declared.parts.Rights.{Rights}
use Rattle.board_core.specs.declared.piece.Side.{Side}
use Rattle.board_core.specs.declared.piece.Side.TheVariants.{White, Black}
use Rattle.board_core.specs.declared.sets.Sets.{Sets}
use Rattle.board_core.specs.declared.sets.State.{State}
use Rattle.board_core.specs.Sets.{is_in, parts_of}
use Rattle.probe_api.specs.declared.board.Board.{Board}

abbrev pub sets_on : Board → Sets
sets_on b =
    record { white = b.white; black = b.black; kings = b.kings; queens = b.queens; rooks = b.rooks; bishops = b.bishops; knights = b.knights; pawns = b.pawns }

abbrev pub side_when : Bool → Side
side_when true = White
side_when false = Black

-- white where the number is 0
abbrev pub side_to_move : ℕ → Side
side_to_move n = side_when (nat_eq n 0)

-- each right by a bit of its own
abbrev pub rights_on : ℕ → Rights
rights_on n = record { white_king = is_in n 0; white_queen = is_in n 1; black_king = is_in n 2; black_queen = is_in n 3 }

abbrev pub passed_when : Bool → ℕ → Option ℕ
passed_when true n = Some n
passed_when false n = None

-- a square of the board, or none
abbrev pub square_or_none : ℕ → Option ℕ
square_or_none n = passed_when (nat_lt n 64) n

abbrev pub state_on : Board → State
state_on b = record { side = side_to_move b.side; rights = rights_on b.rights; en_passant = square_or_none b.passed; halfmove = b.halfmove; fullmove = b.fullmove }

-- the parts that a board shows
abbrev pub shown : Board → Parts
shown b = parts_of (sets_on b) (state_on b)
