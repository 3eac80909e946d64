-- Fields 2 to 6 of FEN as text (PGN standard, sections 16.1.3.2 to 16.1.3.6).
use Rattle.std.specs.Prelude.{◌≡◌, ◌<◌, ◌+◌, ◌++◌, ℕ, Bool, List, [], ◌∷◌, Option, Some, None, if◌then◌else◌, codes}
use Rattle.board_core.specs.declared.piece.Side.{Side}
use Rattle.board_core.specs.declared.piece.Side.TheVariants.{White, Black}
use Rattle.board_core.specs.declared.parts.Rights.{Rights}
use Rattle.board_core.specs.Square.{file_of, rank_of}
use Rattle.fen_text.specs.Numbers.{SpellsNumber}

-- w or b
abbrev pub side_text : Side → List ℕ
side_text White = codes "w"
side_text Black = codes "b"

abbrev pub SpellsSide : List ℕ → Side → Type 0
SpellsSide t side = t ≡ side_text side

-- a letter where the right is there
abbrev pub letter_if : Bool → ℕ → List ℕ
letter_if right c = if right then c ∷ [] else []

-- those of K Q k q whose rights are there, in this order
abbrev pub rights_letters : Rights → List ℕ
rights_letters r =
    letter_if r.white_king 75 ++ letter_if r.white_queen 81 ++ letter_if r.black_king 107 ++ letter_if r.black_queen 113

-- a text that is not empty, or a dash
abbrev pub or_dash : List ℕ → List ℕ
or_dash [] = codes "-"
or_dash (c ∷ cs) = c ∷ cs

abbrev pub castling_text : Rights → List ℕ
castling_text r = or_dash (rights_letters r)

abbrev pub SpellsCastling : List ℕ → Rights → Type 0
SpellsCastling t rights = t ≡ castling_text rights

-- the letter of the file and the digit of the rank
abbrev pub square_text : ℕ → List ℕ
square_text s = (97 + file_of s) ∷ (49 + rank_of s) ∷ []

-- a square, or a dash
abbrev pub en_passant_text : Option ℕ → List ℕ
en_passant_text None = codes "-"
en_passant_text (Some s) = square_text s

abbrev pub IsOnBoard : Option ℕ → Type 0
IsOnBoard square = (s : ℕ) → square ≡ Some s → s < 64

pub record SpellsEnPassant (t : List ℕ) (square : Option ℕ) : Type 0 where
  pub on_board : IsOnBoard square
  pub text : t ≡ en_passant_text square

-- a number from 0 to 9999
abbrev pub SpellsCounter : List ℕ → ℕ → Type 0
SpellsCounter t n = SpellsNumber 9999 t n
