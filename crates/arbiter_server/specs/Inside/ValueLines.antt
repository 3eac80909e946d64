-- A value after a word, in the line that a text begins by.
use Rattle.std.specs.Prelude.{◌≡◌, ◌==◌, ◌++◌, ℕ, Bool, not, true, List}
use Rattle.std.specs.List.{list_all}
use Rattle.move_msg.specs.TextLines.{ended}

abbrev pub is_no_feed : ℕ → Bool
is_no_feed byte = not (byte == 10)

-- bytes without a line feed
abbrev pub is_one_line : List ℕ → Bool
is_one_line = list_all is_no_feed

-- the text begins by the line of this word and this value, and goes on so
abbrev pub HasValue : List ℕ → List ℕ → List ℕ → List ℕ → Type 0
HasValue word text value rest = text ≡ ended (word ++ value) ++ rest

-- and the value has no line feed
pub record StartsLine (word text value rest : List ℕ) : Type 0 where
  pub has : HasValue word text value rest
  pub one : is_one_line value ≡ true
