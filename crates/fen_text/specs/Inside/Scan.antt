-- How the code reads a text, byte by byte. Only private contracts cite these words.
use Rattle.std.specs.Prelude.{◌≡◌, ◌==◌, ◌-◌, ◌++◌, ◌&&◌, ◌||◌, nat_lt, ℕ, Bool, true, false, List, [], ◌∷◌, length, replicate, Option, Some, None, is_some, if◌then◌else◌}
use Rattle.std.specs.Option.{option_map_or}
use Rattle.board_core.specs.declared.piece.Piece.{Piece}
use Rattle.fen_text.specs.Placement.{man_of, is_run}

-- whether a byte of a rank can come next, after a run or not, with so many squares left; and what
-- holds after it
abbrev pub step : ℕ → Bool → ℕ → Option (Bool × ℕ)
step c after left =
    if is_run c then (if after || nat_lt left (c - 48) then None else Some (true, left - (c - 48)))
    else (if is_some (man_of c) && nat_lt 0 left then Some (false, left - 1) else None)

unfoldable pub fills : Bool → ℕ → List ℕ → Bool
fills after left [] = left == 0
fills after left (c ∷ cs) = option_map_or (λ s. fills s.0 s.1 cs) (step c after left) false

-- the squares of the board before a square, then those of its rank that are still empty, then the
-- others
pub record IsFilled (men before : List (Option Piece)) (square left : ℕ) (tail : List (Option Piece)) : Type 0 where
  pub board : men ≡ before ++ (replicate left None ++ tail)
  pub place : length before ≡ square

-- whether a text begins with a letter, and the text without it
abbrev pub begins : ℕ → List ℕ → Bool
begins letter [] = false
begins letter (c ∷ cs) = c == letter

abbrev pub past_letter : ℕ → List ℕ → List ℕ
past_letter letter [] = []
past_letter letter (c ∷ cs) = if c == letter then cs else c ∷ cs
