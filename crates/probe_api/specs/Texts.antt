-- Texts that are put into a caller's room.
use Rattle.std.specs.Prelude.{◌≡◌, ◌<◌, ◌≤◌, ◌+◌, ◌++◌, ◌∷◌, ℕ, List, length, drop}

-- a text is put into the room with a byte 0 after it, where both fit, and otherwise nothing is written; the text's length is told
pub record PutsText (text old : List ℕ) (told : ℕ) (new : List ℕ) : Type 0 where
  pub measured : told ≡ length text
  pub fits : length text < length old → new ≡ text ++ 0 ∷ drop (length text + 1) old
  pub short : length old ≤ length text → new ≡ old
