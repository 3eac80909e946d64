-- The index of a placement: group numbers times factors (Syzygy index).
use Rattle.std.specs.Prelude.{◌≡◌, ℕ, ◌+◌, ◌*◌, ◌<◌, ◌≤◌, List, [], ◌∷◌, take, drop, flat_map, true, false, IsTrue, cond, slice_index}
use Rattle.std.specs.List.Sorted.{IsPermutation}
use Rattle.place_index.specs.Square.{rank}
use Rattle.place_index.specs.Material.{pieces_of}
use Rattle.place_index.specs.Men.{codes_of, stands, squares_of, square_of}
use Rattle.place_index.specs.Three.{three_number}
use Rattle.place_index.specs.Kings.{kings_apart, kings_number}
use Rattle.place_index.specs.Pawns.{pawn_square, pawn_numbers_of, pawns_number}
use Rattle.place_index.specs.Others.{free_set_number}
use Rattle.place_index.specs.Shape.{Layout, HasGoodPieces, HasGoodOrder, has_pawns, has_unique, lead_code, lead_men, is_pawn_code, other_groups, factors_of, size_of}
use Rattle.place_index.specs.Turning.{turned, lead_file}
use Rattle.place_index.specs.declared.group.Group.{Group}
use Rattle.place_index.specs.declared.man.Man.{Man}

-- ---- the groups' numbers

-- the codes of the leading men
abbrev pub lead_codes : Layout → List ℕ
lead_codes l = cond (has_pawns l.material) (lead_code l.material ∷ []) (take (lead_men l.material) l.pieces)

-- leading pawns of these pawn numbers, the greatest first
abbrev pub lead_pawns_number : List ℕ → ℕ
lead_pawns_number numbers = pawns_number (pawn_square (slice_index numbers 0)) (drop 1 numbers)

unfoldable pub lead_number : Layout → List Man → ℕ
lead_number l men =
    cond (has_pawns l.material) (lead_pawns_number (pawn_numbers_of men (lead_code l.material)))
    (cond (has_unique l.material)
    (three_number (square_of men (slice_index l.pieces 0)) (square_of men (slice_index l.pieces 1)) (square_of men (slice_index l.pieces 2)))
    (kings_number (square_of men (slice_index l.pieces 0)) (square_of men (slice_index l.pieces 1))))

-- the squares of all men with these codes
abbrev pub squares_of_all : List Man → List ℕ → List ℕ
squares_of_all men codes = flat_map (squares_of men) codes

-- pawns begin on the second rank
abbrev pub first_square : ℕ → ℕ
first_square c = cond (is_pawn_code c) 8 0

-- The groups after those of the earlier codes, each among the squares that earlier men leave free.
unfoldable pub other_numbers : List ℕ → List Man → List Group → List ℕ
other_numbers earlier men [] = []
other_numbers earlier men (g ∷ rest) =
    free_set_number (first_square g.code) (squares_of_all men earlier) (squares_of men g.code) ∷ other_numbers (g.code ∷ earlier) men rest

-- the number of each group
unfoldable pub numbers_of : Layout → List Man → List ℕ
numbers_of l men = lead_number l men ∷ other_numbers (lead_codes l) men (other_groups l.material l.pieces)

-- ---- the index

unfoldable pub sum_of_products : List ℕ → List ℕ → ℕ
sum_of_products [] ys = 0
sum_of_products (x ∷ xs) [] = 0
sum_of_products (x ∷ xs) (y ∷ ys) = x * y + sum_of_products xs ys

unfoldable pub index_of : Layout → List Man → ℕ
index_of l men = sum_of_products (numbers_of l (turned l men)) (factors_of l)

-- ---- placements

-- no two of the men on one square
abbrev pub AreAlone : List Man → Type 0
AreAlone [] = Unit {0}
AreAlone (m ∷ men) = ((c : ℕ) → stands men c m.square ≡ false) × AreAlone men

-- Men of a table: on squares of their own, no pawn on the first or the last rank, the kings not on touching squares.
pub record IsPlacement (key : ℕ) (men : List Man) : Type 0 where
  pub material : IsPermutation (codes_of men) (pieces_of key)
  pub alone : AreAlone men
  pub board : (c s : ℕ) → stands men c s ≡ true → s < 64
  pub pawns : (c s : ℕ) → is_pawn_code c ≡ true → stands men c s ≡ true → (1 ≤ rank s) × (rank s ≤ 6)
  pub kings : (a b : ℕ) → stands men 6 a ≡ true → stands men 14 b ≡ true → IsTrue (kings_apart a b)

-- a shape: what a table file may say
pub record IsShape (l : Layout) : Type 0 where
  pub material : l.material < 145
  pub file : l.file < 4
  pub pieces : HasGoodPieces l.material l.pieces
  pub order : HasGoodOrder l

-- Indices are below the size, and equal only where the turned men are: those of each code stand on the same squares.
abbrev pub IndicesAreOne : Type 0
IndicesAreOne =
    (l : Layout) → IsShape l →
    ((men : List Man) → IsPlacement l.material men → lead_file l.material men ≡ l.file → index_of l men < size_of l)
    × ((one other : List Man) → IsPlacement l.material one → IsPlacement l.material other → lead_file l.material one ≡ l.file → lead_file l.material other ≡ l.file
    → index_of l one ≡ index_of l other → (c : ℕ) → squares_of (turned l one) c ≡ squares_of (turned l other) c)
