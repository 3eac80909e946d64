-- Men on squares, by the piece codes of the table format: 1 to 6 for the first side's pawn, knight, bishop, rook, queen and
-- king, 9 to 14 for the second side's.
use Rattle.std.specs.Prelude.{ℕ, zero, suc, ◌+◌, ◌-◌, List, [], ◌∷◌, map, Bool, cond, ◌/◌, ◌%◌, ◌==◌, ◌&&◌, slice_index}
use Rattle.std.specs.List.{list_any}
use Rattle.place_index.specs.Square.{bottom_top}
use Rattle.place_index.specs.declared.man.Man.{Man}

abbrev pub man : ℕ → ℕ → Man
man code square = record { code = code; square = square }

abbrev pub codes_of : List Man → List ℕ
codes_of men = map (λ m. m.code) men

-- whether a man with this code stands on the square
unfoldable pub stands : List Man → ℕ → ℕ → Bool
stands men c s = list_any (λ m. (m.code == c) && (m.square == s)) men

-- the numbers below n that pass a test, the greatest first
unfoldable pub falling : (ℕ → Bool) → ℕ → List ℕ
falling test zero = []
falling test (suc n) = cond (test n) (n ∷ falling test n) (falling test n)

-- the squares of the men with this code, the highest first
unfoldable pub squares_of : List Man → ℕ → List ℕ
squares_of men c = falling (stands men c) 64

-- the square of a man whose code occurs once
abbrev pub square_of : List Man → ℕ → ℕ
square_of men c = slice_index (squares_of men c) 0

-- all men moved, each to the square opposite its own
abbrev pub moved : (ℕ → ℕ) → List Man → List Man
moved opposite men = map (λ m. man m.code (opposite m.square)) men

-- the code of the same man of the other side
abbrev pub other_side : ℕ → ℕ
other_side c = cond (c / 8 % 2 == 0) (c + 8) (c - 8)

-- colours exchanged, and each man moved to the rank that lies opposite
abbrev pub exchanged : List Man → List Man
exchanged men = map (λ m. man (other_side m.code) (bottom_top m.square)) men
