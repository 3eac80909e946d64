-- The legal moves as values, beside the relation of Moves.antt: the position after a move, the list of the legal moves, and that of the captures.
use Rattle.std.specs.Prelude.{ℕ, zero, suc, ◌+◌, ◌*◌, ◌/◌, ◌%◌, Bool, true, false, not, ◌&&◌, ◌||◌, ◌==◌, nat_lt, nat_le, List, [], ◌∷◌, Option, Some, None, is_some, is_none, if◌then◌else◌, find, filter, count_by, option_and_then}
use Rattle.std.specs.List.{list_any}
use Rattle.board_core.specs.declared.piece.Piece.{Piece}
use Rattle.board_core.specs.declared.piece.Side.{Side}
use Rattle.board_core.specs.declared.piece.Kind.{Kind}
use Rattle.board_core.specs.declared.piece.Kind.TheVariants.{Pawn, Knight, Bishop, Rook, Queen, King}
use Rattle.board_core.specs.declared.piece.Promotion.{Promotion}
use Rattle.board_core.specs.declared.piece.Promotion.TheVariants.{Queen as ToQueen, Rook as ToRook, Bishop as ToBishop, Knight as ToKnight}
use Rattle.board_core.specs.declared.piece.Wing.{Wing}
use Rattle.board_core.specs.declared.piece.Wing.TheVariants.{KingSide, QueenSide}
use Rattle.board_core.specs.declared.parts.Parts.{Parts}
use Rattle.board_core.specs.declared.moves.Move.{Move}
use Rattle.board_core.specs.declared.moves.MoveCase.{MoveCase}
use Rattle.board_core.specs.declared.moves.MoveCase.TheVariants.{Plain, Advance, DoubleStep, PawnCapture, EnPassant, Castle}
use Rattle.board_core.specs.Side.{other}
use Rattle.board_core.specs.Square.{rank_of}
use Rattle.board_core.specs.Attack.{man_at, forward}
use Rattle.board_core.specs.Castling.{has_right, king_home, rook_home, king_end}
use Rattle.board_core.specs.Position.{is_same_side, is_of, is_king_of}
use Rattle.board_core.specs.Moves.{first_rank, last_rank, after, place_of}
use Rattle.board_core.specs.Computed.{each_below, is_along, is_clear, is_pawn_attack, attacks, is_attacked, is_in_check}

abbrev pub is_pawn : Kind → Bool
is_pawn Pawn = true
is_pawn Knight = false
is_pawn Bishop = false
is_pawn Rook = false
is_pawn Queen = false
is_pawn King = false

-- whether a pawn of this side stands there
abbrev pub is_pawn_of : Side → Option Piece → Bool
is_pawn_of side None = false
is_pawn_of side (Some man) = is_same_side side man.side && is_pawn man.kind

-- a promotion is named exactly where the pawn reaches its last rank
abbrev pub promotes : Side → ℕ → Option Promotion → Bool
promotes side to None = not (rank_of to == last_rank side)
promotes side to (Some k) = rank_of to == last_rank side

abbrev pub is_square : Option ℕ → ℕ → Bool
is_square None s = false
is_square (Some e) s = e == s

-- a step or a ray of a man other than a pawn
abbrev pub is_plain : Parts → Move → Bool
is_plain p m =
    attacks p.men p.side (man_at p.men m.from) m.from m.to && not (is_pawn_of p.side (man_at p.men m.from)) && not (is_of p.side (man_at p.men m.to)) && is_none m.promotion

abbrev pub is_advance : Parts → Move → Bool
is_advance p m =
    is_pawn_of p.side (man_at p.men m.from) && is_along (forward p.side) 1 m.from m.to && is_none (man_at p.men m.to) && promotes p.side m.to m.promotion

abbrev pub is_double_step : Parts → Move → Bool
is_double_step p m =
    is_pawn_of p.side (man_at p.men m.from) && (rank_of m.from == first_rank p.side) && is_along (forward p.side) 2 m.from m.to && is_clear p.men (forward p.side) 2 m.from && is_none (man_at p.men m.to) && is_none m.promotion

abbrev pub is_pawn_capture : Parts → Move → Bool
is_pawn_capture p m =
    is_pawn_of p.side (man_at p.men m.from) && is_pawn_attack p.side m.from m.to && is_of (other p.side) (man_at p.men m.to) && promotes p.side m.to m.promotion

unfoldable pub is_en_passant : Parts → Move → Bool
is_en_passant p m =
    is_pawn_of p.side (man_at p.men m.from) && is_pawn_attack p.side m.from m.to && is_square p.en_passant m.to && is_none (man_at p.men m.to) && is_none m.promotion

-- a square strictly between two of one rank, and one from the one to the other
abbrev pub is_between : ℕ → ℕ → ℕ → Bool
is_between a s b = (nat_lt a s && nat_lt s b) || (nat_lt b s && nat_lt s a)

abbrev pub is_on_way : ℕ → ℕ → ℕ → Bool
is_on_way a s b = (nat_le a s && nat_le s b) || (nat_le b s && nat_le s a)

abbrev pub is_way_empty : List (Option Piece) → ℕ → ℕ → Bool
is_way_empty men a b = each_below 64 (λ s. not (is_between a s b) || is_none (man_at men s))

abbrev pub is_way_safe : List (Option Piece) → Side → ℕ → ℕ → Bool
is_way_safe men by a b = each_below 64 (λ s. not (is_on_way a s b) || not (is_attacked men by s))

abbrev pub is_castle : Parts → Move → Wing → Bool
is_castle p m wing =
    is_king_of p.side (man_at p.men m.from) && has_right p.rights p.side wing && (m.from == king_home p.side) && (m.to == king_end p.side wing) && is_way_empty p.men (king_home p.side) (rook_home p.side wing) && is_way_safe p.men (other p.side) (king_home p.side) (king_end p.side wing) && is_none m.promotion

abbrev pub is_move : Parts → Move → MoveCase → Bool
is_move p m Plain = is_plain p m
is_move p m Advance = is_advance p m
is_move p m DoubleStep = is_double_step p m
is_move p m PawnCapture = is_pawn_capture p m
is_move p m EnPassant = is_en_passant p m
is_move p m (Castle wing) = is_castle p m wing

abbrev pub cases : List MoveCase
cases = Plain ∷ Advance ∷ DoubleStep ∷ PawnCapture ∷ EnPassant ∷ Castle KingSide ∷ Castle QueenSide ∷ []

abbrev pub is_on_board : Move → Bool
is_on_board m = nat_lt m.from 64 && nat_lt m.to 64

-- the case of the rules under which the move goes, leaving the king's safety aside
unfoldable pub case_of : Parts → Move → Option MoveCase
case_of p m = if is_on_board m then find (is_move p m) cases else None

-- the position, unless a king of this side is attacked in it
abbrev pub unless_in_check : Side → Parts → Option Parts
unless_in_check side q = if is_in_check q.men side then None else Some q

-- the position after a move that is legal
unfoldable pub position_after : Parts → Move → Option Parts
position_after p m = option_and_then (λ c. unless_in_check p.side (after p m c)) (case_of p m)

abbrev pub is_legal : Parts → Move → Bool
is_legal p m = is_some (position_after p m)

-- the move at a place in the order of from, to and promotion
abbrev pub promotion_at : ℕ → Option Promotion
promotion_at zero = None
promotion_at (suc zero) = Some ToQueen
promotion_at (suc (suc zero)) = Some ToRook
promotion_at (suc (suc (suc zero))) = Some ToBishop
promotion_at (suc (suc (suc (suc n)))) = Some ToKnight

abbrev pub move_at : ℕ → Move
move_at n = record { from = n / 5 / 64; to = n / 5 % 64; promotion = promotion_at (n % 5) }

-- the n moves at the places from k on, and all moves between squares of the board
unfoldable pub moves_from : ℕ → ℕ → List Move
moves_from k zero = []
moves_from k (suc n) = move_at k ∷ moves_from (k + 1) n

unfoldable pub all_moves : List Move
all_moves = moves_from 0 (64 * 320)

-- the legal moves, each once, in order of from, to and promotion
unfoldable pub legal_moves : Parts → List Move
legal_moves p = filter (is_legal p) all_moves

abbrev pub has_some : List Move → Bool
has_some [] = false
has_some (m ∷ moves) = true

-- whether there is a legal move
unfoldable pub has_legal_move : Parts → Bool
has_legal_move p = has_some (legal_moves p)

-- the move takes what stands on its square, or a pawn en passant
abbrev pub is_capture : Parts → Move → Bool
is_capture p m = is_some (man_at p.men m.to) || is_en_passant p m

-- those of the legal moves that take a man
abbrev pub legal_captures : Parts → List Move
legal_captures p = filter (is_capture p) (legal_moves p)

-- a pawn of the side to move leaves the move's square
abbrev pub is_pawn_move : Parts → Move → Bool
is_pawn_move p m = is_pawn_of p.side (man_at p.men m.from)

-- those of the legal moves that are moves of pawns
abbrev pub legal_pawn_moves : Parts → List Move
legal_pawn_moves p = filter (is_pawn_move p) (legal_moves p)

-- the move comes after this one in the order of moves; each does where there is none
abbrev pub is_later : Option Move → Move → Bool
is_later None m = true
is_later (Some last) m = nat_lt (place_of last) (place_of m)

-- those of the legal captures that come after this move, or all of them
unfoldable pub captures_after : Parts → Option Move → List Move
captures_after p last = filter (is_later last) (legal_captures p)

-- whether some move other than en passant is legal
unfoldable pub has_move_besides_en_passant : Parts → Bool
has_move_besides_en_passant p = list_any (λ m. not (is_en_passant p m)) (legal_moves p)

-- how many men stand on the board
abbrev pub count_of_men : Parts → ℕ
count_of_men p = count_by is_some p.men
