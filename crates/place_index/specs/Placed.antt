-- How a position is looked up in its table: with colours exchanged where the table names them the other way (Syzygy tables).
use Rattle.std.specs.Prelude.{◌≡◌, ℕ, suc, ◌+◌, ◌⊎◌, List, [], ◌∷◌, Bool, true, false, cond, Option, Some, None}
use Rattle.std.specs.List.Sorted.{IsPermutation}
use Rattle.board_core.specs.declared.piece.Piece.{Piece}
use Rattle.board_core.specs.declared.piece.Side.{Side}
use Rattle.board_core.specs.declared.piece.Side.TheVariants.{White, Black}
use Rattle.board_core.specs.declared.piece.Kind.{Kind}
use Rattle.board_core.specs.declared.piece.Kind.TheVariants.{Pawn, Knight, Bishop, Rook, Queen, King}
use Rattle.board_core.specs.declared.parts.Parts.{Parts}
use Rattle.board_core.specs.Side.{other}
use Rattle.place_index.specs.Material.{men_of, pieces_of}
use Rattle.place_index.specs.Men.{man, codes_of, exchanged}
use Rattle.place_index.specs.Shape.{Layout}
use Rattle.place_index.specs.Turning.{lead_file}
use Rattle.place_index.specs.declared.man.Man.{Man}

-- ---- the men of a position

abbrev pub is_black : Side → Bool
is_black White = false
is_black Black = true

abbrev pub kind_code : Kind → ℕ
kind_code Pawn = 1
kind_code Knight = 2
kind_code Bishop = 3
kind_code Rook = 4
kind_code Queen = 5
kind_code King = 6

-- the piece code of a man: 1 to 6 for white's P N B R Q K, 9 to 14 for black's
abbrev pub code_of_man : Piece → ℕ
code_of_man p = cond (is_black p.side) (kind_code p.kind + 8) (kind_code p.kind)

-- the men of a board in order of square, its first square being s
unfoldable pub men_from : ℕ → List (Option Piece) → List Man
men_from s [] = []
men_from s (None ∷ rest) = men_from (suc s) rest
men_from s (Some piece ∷ rest) = man (code_of_man piece) s ∷ men_from (suc s) rest

abbrev pub men_on : List (Option Piece) → List Man
men_on board = men_from 0 board

-- ---- the material of a position

-- the men are those of the table, in its colours
abbrev pub IsNamed : ℕ → List Man → Type 0
IsNamed key men = IsPermutation (codes_of men) (pieces_of key)

-- the men are those of the table, in its colours or with colours exchanged
abbrev pub IsMaterialOf : ℕ → List Man → Type 0
IsMaterialOf key men = IsNamed key men ⊎ IsNamed key (exchanged men)

-- ---- looking up

abbrev pub IsSymmetric : ℕ → Type 0
IsSymmetric key = (men_of key).first ≡ (men_of key).second

-- What is looked up: the men and the side to move after the exchange of colours, and the file of the leading pawn. White is
-- the first side of the table's name.
pub record Placement : Type 0 where
  pub material : ℕ
  pub men : List Man
  pub side : Side
  pub file : ℕ

-- a shape is of the placement's material and of the file of its leading pawn
pub record Fits (l : Layout) (placed : Placement) : Type 0 where
  pub material : placed.material ≡ l.material
  pub file : placed.file ≡ l.file

abbrev pub side_number : Side → ℕ
side_number White = 0
side_number Black = 1

-- Colours are exchanged where white's men are the name's second side, and for symmetric material with black to move.
pub record IsLookedUp (key : ℕ) (p : Parts) (placed : Placement) : Type 0 where
  pub is_exchanged : Bool
  pub material : placed.material ≡ key
  pub men : placed.men ≡ cond is_exchanged (exchanged (men_on p.men)) (men_on p.men)
  pub named : IsNamed key placed.men
  pub side : placed.side ≡ cond is_exchanged (other p.side) p.side
  pub white : IsSymmetric key → placed.side ≡ White
  pub file : placed.file ≡ lead_file key placed.men
