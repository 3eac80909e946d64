-- The ends of a game on the board: checkmate, stalemate and men that can't mate (FIDE Laws of Chess, articles 5.1.1, 5.2.1 and
-- 5.2.2), as relations and computed.
use Rattle.std.specs.Prelude.{ℕ, ◌+◌, ◌%◌, Bool, true, false, not, ◌&&◌, ◌||◌, ◌==◌, nat_le, List, [], ◌∷◌, Option, Some, None}
use Rattle.std.specs.List.{list_any, range_with_len}
use Rattle.board_core.specs.declared.piece.Piece.{Piece}
use Rattle.board_core.specs.declared.piece.Kind.{Kind}
use Rattle.board_core.specs.declared.piece.Kind.TheVariants.{Pawn, Knight, Bishop, Rook, Queen, King}
use Rattle.board_core.specs.declared.parts.Parts.{Parts}
use Rattle.board_core.specs.declared.moves.Move.{Move}
use Rattle.board_core.specs.Attack.{man_at, IsInCheck}
use Rattle.board_core.specs.Computed.{is_in_check}
use Rattle.board_core.specs.ComputedMoves.{legal_moves, count_of_men}
use Rattle.board_core.specs.Moves.{IsLegal}
use Rattle.board_core.specs.Square.{file_of, rank_of}

-- ---- no legal move

-- the side to move has no legal move
abbrev pub HasNoMove : Parts → Type 0
HasNoMove p = (m : Move) → IsLegal p m → ⊥

-- it has none, and is in check: checkmate (FIDE article 5.1.1)
abbrev pub IsCheckmate : Parts → Type 0
IsCheckmate p = HasNoMove p × IsInCheck p.men p.side

-- it has none, and is not in check: stalemate (FIDE article 5.2.1)
abbrev pub IsStalemate : Parts → Type 0
IsStalemate p = HasNoMove p × (IsInCheck p.men p.side → ⊥)

-- the same computed
abbrev pub has_no_move : List Move → Bool
has_no_move [] = true
has_no_move (m ∷ moves) = false

abbrev pub is_checkmate : Parts → Bool
is_checkmate p = is_in_check p.men p.side && has_no_move (legal_moves p)

abbrev pub is_stalemate : Parts → Bool
is_stalemate p = not (is_in_check p.men p.side) && has_no_move (legal_moves p)

-- ---- men that can't mate (FIDE article 5.2.2), as chess programs decide it: by their kinds alone, without looking at moves

-- a light square, as b1 (FIDE article 2.1)
abbrev pub is_light : ℕ → Bool
is_light s = (file_of s + rank_of s) % 2 == 1

-- a pawn, a rook or a queen, on any square
abbrev pub pawn_or_major : ℕ → Kind → Bool
pawn_or_major s Pawn = true
pawn_or_major s Knight = false
pawn_or_major s Bishop = false
pawn_or_major s Rook = true
pawn_or_major s Queen = true
pawn_or_major s King = false

abbrev pub knight : ℕ → Kind → Bool
knight s Pawn = false
knight s Knight = true
knight s Bishop = false
knight s Rook = false
knight s Queen = false
knight s King = false

-- a bishop, if bishops count on this square
abbrev pub bishop_if : Bool → Kind → Bool
bishop_if counts Pawn = false
bishop_if counts Knight = false
bishop_if counts Bishop = counts
bishop_if counts Rook = false
bishop_if counts Queen = false
bishop_if counts King = false

-- a bishop on a light square, and one on a dark square
abbrev pub light_bishop : ℕ → Kind → Bool
light_bishop s kind = bishop_if (is_light s) kind

abbrev pub dark_bishop : ℕ → Kind → Bool
dark_bishop s kind = bishop_if (not (is_light s)) kind

-- a man of such a kind stands on the square
abbrev pub is_man : (Kind → Bool) → Option Piece → Bool
is_man test None = false
is_man test (Some man) = test man.kind

-- such a man stands on one of the 64 squares
abbrev pub stands_anywhere : (ℕ → Kind → Bool) → Parts → Bool
stands_anywhere test p = list_any (λ s. is_man (test s) (man_at p.men s)) (range_with_len 0 64)

-- no pawn, rook or queen; and then at most three men, or no knight and all bishops on squares of one colour
unfoldable pub has_insufficient_material : Parts → Bool
has_insufficient_material p =
    not (stands_anywhere pawn_or_major p) && (nat_le (count_of_men p) 3 || (not (stands_anywhere knight p) && not (stands_anywhere light_bishop p && stands_anywhere dark_bishop p)))
