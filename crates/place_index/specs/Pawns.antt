-- Leading pawns: their numbers, and how many placements they have (Syzygy index, pawns).
use Rattle.std.specs.Prelude.{◌≡◌, ℕ, zero, suc, ◌+◌, ◌*◌, ◌-◌, ◌<◌, ◌≤◌, List, [], ◌∷◌, length, slice_index, ◌==◌}
use Rattle.std.specs.List.{position_or_len}
use Rattle.place_index.specs.Square.{file, rank}
use Rattle.place_index.specs.Choose.{choose, set_number, IsFallingBelow, IsLater}
use Rattle.place_index.specs.Men.{stands, falling}
use Rattle.place_index.specs.declared.man.Man.{Man}

-- the pawn numbers, square by square from a1 to h8; 48 on the first and the last rank, where no pawn stands
abbrev pub pawn_numbers : List ℕ
pawn_numbers =
    48 ∷ 48 ∷ 48 ∷ 48 ∷ 48 ∷ 48 ∷ 48 ∷ 48 ∷
    47 ∷ 35 ∷ 23 ∷ 11 ∷ 10 ∷ 22 ∷ 34 ∷ 46 ∷
    45 ∷ 33 ∷ 21 ∷ 9 ∷ 8 ∷ 20 ∷ 32 ∷ 44 ∷
    43 ∷ 31 ∷ 19 ∷ 7 ∷ 6 ∷ 18 ∷ 30 ∷ 42 ∷
    41 ∷ 29 ∷ 17 ∷ 5 ∷ 4 ∷ 16 ∷ 28 ∷ 40 ∷
    39 ∷ 27 ∷ 15 ∷ 3 ∷ 2 ∷ 14 ∷ 26 ∷ 38 ∷
    37 ∷ 25 ∷ 13 ∷ 1 ∷ 0 ∷ 12 ∷ 24 ∷ 36 ∷
    48 ∷ 48 ∷ 48 ∷ 48 ∷ 48 ∷ 48 ∷ 48 ∷ 48 ∷ []

unfoldable pub pawn_number : ℕ → ℕ
pawn_number s = slice_index pawn_numbers s

-- the square with a pawn number
unfoldable pub pawn_square : ℕ → ℕ
pawn_square n = position_or_len (λ other. n == other) pawn_numbers

-- The placements with the leading pawn on one of the first ranks of a file, from the second rank on, and this many pawns
-- beside it. These stand on squares of lower pawn numbers.
unfoldable pub pawns_before : ℕ → ℕ → ℕ → ℕ
pawns_before file others zero = 0
pawns_before file others (suc ranks) = pawns_before file others ranks + choose (pawn_number (8 * suc ranks + file)) others

-- all placements with the leading pawn on this file
abbrev pub pawns_size : ℕ → ℕ → ℕ
pawns_size file others = pawns_before file others 6

-- the pawn numbers of the men with this code, the greatest first
unfoldable pub pawn_numbers_of : List Man → ℕ → List ℕ
pawn_numbers_of men c = falling (λ n. stands men c (pawn_square n)) 48

-- the number of a leading pawn on this square, with the others' pawn numbers
abbrev pub pawns_number : ℕ → List ℕ → ℕ
pawns_number lead others = pawns_before (file lead) (length others) (rank lead - 1) + set_number others

-- Pawns of one colour after the turning: the leading one on the record's file, the others of lower pawn numbers.
pub record AreTurnedPawns (f lead : ℕ) (others : List ℕ) : Type 0 where
  pub board : lead < 64
  pub on_file : file lead ≡ f
  pub off_first : 1 ≤ rank lead
  pub off_last : rank lead ≤ 6
  pub falling : IsFallingBelow (pawn_number lead) others

-- the order of placements: by the leading pawn's rank, then the others' pawn numbers, the greatest first
abbrev pub pawns_order : ℕ → List ℕ → List ℕ
pawns_order lead others = rank lead ∷ others

-- Below the size; a later placement has a greater number; and a number is that of one placement.
abbrev pub PawnsAreNumbered : Type 0
PawnsAreNumbered =
    ((f a : ℕ) (xs : List ℕ) → AreTurnedPawns f a xs → pawns_number a xs < pawns_size f (length xs))
    × ((f a b : ℕ) (xs ys : List ℕ) → AreTurnedPawns f a xs → AreTurnedPawns f b ys → length xs ≡ length ys → IsLater (pawns_order a xs) (pawns_order b ys) → pawns_number a xs < pawns_number b ys)
    × ((f a b : ℕ) (xs ys : List ℕ) → AreTurnedPawns f a xs → AreTurnedPawns f b ys → length xs ≡ length ys → pawns_number a xs ≡ pawns_number b ys → (a ≡ b) × (xs ≡ ys))
