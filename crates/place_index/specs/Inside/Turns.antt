-- All mirrorings of a placement in one, and the leading pawn's square.
use Rattle.std.specs.Prelude.{ℕ, ◌+◌, ◌*◌, List, [], ◌∷◌, Bool, false, cond, nat_lt}
use Rattle.place_index.specs.Square.{file, rank, on_diagonal, left_right, bottom_top, across}
use Rattle.place_index.specs.Men.{moved}
use Rattle.place_index.specs.Turning.{lead_pawn}
use Rattle.place_index.specs.Shape.{has_pawns}
use Rattle.place_index.specs.declared.man.Man.{Man}
use Rattle.place_index.specs.declared.turn.Turn.{Turn}

-- the leading pawn's square, 0 without pawns
abbrev pub lead_square : ℕ → List Man → ℕ
lead_square key men = cond (has_pawns key) (lead_pawn key men) 0

-- ---- all mirrorings in one

-- a square mirrored, if so
abbrev pub mirrored : Bool → (ℕ → ℕ) → ℕ → ℕ
mirrored mirrors opposite s = cond mirrors (opposite s) s

unfoldable pub turn_square : Turn → ℕ → ℕ
turn_square t s = mirrored t.across across (mirrored t.bottom_top bottom_top (mirrored t.left_right left_right s))

-- the number of a turn among the eight
unfoldable pub turn_number : Turn → ℕ
turn_number t = cond t.left_right 1 0 + 2 * cond t.bottom_top 1 0 + 4 * cond t.across 1 0

abbrev pub turned_by : Turn → List Man → List Man
turned_by t men = moved (turn_square t) men

-- the mirrorings before the last one
abbrev pub low : Turn → Turn
low t = record { left_right = t.left_right; bottom_top = t.bottom_top; across = false }

-- whether the first of these squares off the diagonal a1-h8, if there is one, lies above it
unfoldable pub is_first_above : List ℕ → Bool
is_first_above [] = false
is_first_above (s ∷ squares) = cond (on_diagonal s) (is_first_above squares) (nat_lt (file s) (rank s))
