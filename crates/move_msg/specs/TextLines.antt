-- Lines of a text (this project's own).
use Rattle.std.specs.Prelude.{ℕ, List, [], ◌∷◌, ◌++◌, filter}
use Rattle.std.specs.List.{flat_map}
use Rattle.fen_text.specs.Cuts.{cut_at}
use Rattle.move_msg.specs.GameTexts.{has_bytes}

-- a line ends with a line feed
abbrev pub ended : List ℕ → List ℕ
ended words = words ++ 10 ∷ []

abbrev pub text_of : List (List ℕ) → List ℕ
text_of = flat_map ended

-- a text that a line feed ends has no line after it
abbrev pub whole_lines : List (List ℕ) → List (List ℕ)
whole_lines [] = []
whole_lines (last ∷ []) = filter has_bytes (last ∷ [])
whole_lines (line ∷ next ∷ lines) = line ∷ whole_lines (next ∷ lines)

-- the lines of a text, of which the last may lack its line feed
unfoldable pub lines_in : List ℕ → List (List ℕ)
lines_in text = whole_lines (cut_at 10 text)
