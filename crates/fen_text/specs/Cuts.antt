-- A text cut at each place of a byte.
use Rattle.std.specs.Prelude.{◌==◌, ℕ, List}
use Rattle.std.specs.List.{slice_split}

-- the pieces between the places of a byte
abbrev pub cut_at : ℕ → List ℕ → List (List ℕ)
cut_at byte = slice_split (λ b. b == byte)
