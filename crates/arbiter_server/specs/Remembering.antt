-- What a log of changes has of earlier lines (this project's own).
use Rattle.std.specs.Prelude.{ℕ, List}

-- how many lines of each kind there were, and the text of the last line at each place
pub record Remembered : Type 0 where
  pub counts : List ℕ
  pub lasts : List (List ℕ)
