-- The words of a text, and the moves that they list (this project's own).
use Rattle.std.specs.Prelude.{◌≡◌, ◌==◌, ◌||◌, ◌++◌, ℕ, zero, suc, Bool, true, false, List, [], ◌∷◌, filter}
use Rattle.std.specs.List.{slice_split}
use Rattle.board_core.specs.declared.moves.Move.{Move as Moves}
use Rattle.fen_text.specs.Coordinates.{AreMoves, SpellsMove}

-- a space, a line feed or a carriage return
abbrev pub is_gap : ℕ → Bool
is_gap byte = byte == 32 || (byte == 10 || byte == 13)

abbrev pub has_bytes : List ℕ → Bool
has_bytes [] = false
has_bytes (byte ∷ bytes) = true

-- the words of a text: what stands between its gaps, where something does
unfoldable pub words_in : List ℕ → List (List ℕ)
words_in text = filter has_bytes (slice_split is_gap text)

-- the moves that a text lists, a word each
abbrev pub TellsMoves : List ℕ → List Moves → Type 0
TellsMoves text moves = AreMoves (words_in text) moves

-- a word of the text spells a move
abbrev pub HasMove : List ℕ → Type 0
HasMove text = (before : List (List ℕ)) × (word : List ℕ) × (after : List (List ℕ)) × (words_in text ≡ before ++ word ∷ after) × ((m : Moves) × SpellsMove word m)

-- the word at this place, counted from 0, is the first that spells no move
abbrev pub IsBadWordAt : List (List ℕ) → ℕ → Type 0
IsBadWordAt [] place = ⊥
IsBadWordAt (word ∷ words) zero = (m : Moves) → SpellsMove word m → ⊥
IsBadWordAt (word ∷ words) (suc place) = ((m : Moves) × SpellsMove word m) × IsBadWordAt words place
