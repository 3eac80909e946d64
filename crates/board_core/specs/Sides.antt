-- Where the men of each side stand, as sets of squares: bit s of a set's number says whether square s is in it.
use Rattle.std.specs.Prelude.{◌≡◌, ℕ, ◌+◌, ◌*◌, ◌↔◌, Bool, cond, IsTrue, is_some, List, [], ◌∷◌, Option}
use Rattle.std.specs.Int.{bit_at}
use Rattle.board_core.specs.declared.piece.Piece.{Piece}
use Rattle.board_core.specs.declared.piece.Side.{Side}
use Rattle.board_core.specs.declared.piece.Side.TheVariants.{White, Black}
use Rattle.board_core.specs.declared.sides.Sides.{Sides}
use Rattle.board_core.specs.Attack.{man_at}
use Rattle.board_core.specs.Position.{is_of}

-- the squares on which what stands passes the test
unfoldable pub squares_where : (Option Piece → Bool) → List (Option Piece) → ℕ
squares_where test [] = 0
squares_where test (man ∷ others) = cond (test man) 1 0 + 2 * squares_where test others

-- where the men of each side stand
abbrev pub sides_of : List (Option Piece) → Sides
sides_of men = record { white = squares_where (is_of White) men; black = squares_where (is_of Black) men }

-- the squares of one side
abbrev pub side_squares : Sides → Side → ℕ
side_squares sides White = sides.white
side_squares sides Black = sides.black

-- the set has exactly the squares on which men stand
abbrev pub IsOccupied : List (Option Piece) → ℕ → Type 0
IsOccupied men set = (s : ℕ) → (bit_at set s ≡ 1) ↔ IsTrue (is_some (man_at men s))
