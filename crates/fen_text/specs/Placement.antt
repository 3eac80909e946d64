-- The men of the board as text: field 1 of FEN (PGN standard, section 16.1.3.1).
use Rattle.std.specs.Prelude.{◌≡◌, ◌==◌, ◌-◌, ◌*◌, ◌++◌, ◌&&◌, ◌||◌, not, nat_le, ℕ, zero, suc, Bool, true, List, [], ◌∷◌, length, take, drop, map, find, Option, Some, None, is_some, if◌then◌else◌, replicate}
use Rattle.std.specs.Option.{option_map_or}
use Rattle.std.specs.List.{list_all, flat_map, AllZip}
use Rattle.board_core.specs.declared.piece.Piece.{Piece}
use Rattle.board_core.specs.declared.piece.Side.{Side}
use Rattle.board_core.specs.declared.piece.Side.TheVariants.{White, Black}
use Rattle.board_core.specs.declared.piece.Kind.{Kind}
use Rattle.board_core.specs.declared.piece.Kind.TheVariants.{Pawn, Knight, Bishop, Rook, Queen, King}
use Rattle.fen_text.specs.Cuts.{cut_at}

-- P N B R Q K for white, p n b r q k for black
abbrev pub fen_letter : Side → Kind → ℕ
fen_letter White Pawn = 80
fen_letter White Knight = 78
fen_letter White Bishop = 66
fen_letter White Rook = 82
fen_letter White Queen = 81
fen_letter White King = 75
fen_letter Black Pawn = 112
fen_letter Black Knight = 110
fen_letter Black Bishop = 98
fen_letter Black Rook = 114
fen_letter Black Queen = 113
fen_letter Black King = 107

abbrev pub letter_of : Piece → ℕ
letter_of man = fen_letter man.side man.kind

-- the twelve men, whose letters differ
abbrev pub men_of_side : Side → List Piece
men_of_side side = map (λ kind. record { side = side; kind = kind }) (Pawn ∷ Knight ∷ Bishop ∷ Rook ∷ Queen ∷ King ∷ [])

abbrev pub twelve_men : List Piece
twelve_men = men_of_side White ++ men_of_side Black

-- the man of a letter
unfoldable pub man_of : ℕ → Option Piece
man_of c = find (λ man. c == letter_of man) twelve_men

-- a digit from 1 to 8 stands for a run of empty squares
abbrev pub is_run : ℕ → Bool
is_run c = nat_le 49 c && nat_le c 56

abbrev pub is_rank_byte : ℕ → Bool
is_rank_byte c = is_run c || is_some (man_of c)

-- the squares that a byte stands for
abbrev pub cells_of : ℕ → List (Option Piece)
cells_of c = if is_run c then replicate (c - 48) None else option_map_or (λ m. Some m ∷ []) (man_of c) []

-- no two digits stand side by side
unfoldable pub runs_apart : List ℕ → Bool
runs_apart [] = true
runs_apart (c ∷ []) = true
runs_apart (c ∷ d ∷ cs) = not (is_run c && is_run d) && runs_apart (d ∷ cs)

-- letters and digits that fill exactly eight squares, no two digits side by side
pub record SpellsRank (t : List ℕ) (cells : List (Option Piece)) : Type 0 where
  pub bytes : list_all is_rank_byte t ≡ true
  pub apart : runs_apart t ≡ true
  pub squares : flat_map cells_of t ≡ cells
  pub eight : length cells ≡ 8

-- the squares of a rank from file a to file h, 0 for the first rank to 7 for the eighth
unfoldable pub rank_men : List (Option Piece) → ℕ → List (Option Piece)
rank_men men r = take 8 (drop (8 * r) men)

-- the lowest n ranks of the board, the highest of them first
unfoldable pub ranks_down : List (Option Piece) → ℕ → List (List (Option Piece))
ranks_down men zero = []
ranks_down men (suc n) = rank_men men n ∷ ranks_down men n

-- the text, cut at each slash, spells the eight ranks from the eighth down to the first
pub record SpellsPlacement (t : List ℕ) (men : List (Option Piece)) : Type 0 where
  pub squares : length men ≡ 64
  pub ranks : AllZip SpellsRank (cut_at 47 t) (ranks_down men 8)
