-- How the moves of a text are read; cited by private functions alone.
use Rattle.std.specs.Prelude.{◌≡◌, ℕ, Bool, true, false, List, [], ◌∷◌, ◌++◌, filter}
use Rattle.board_core.specs.declared.moves.Move.{Move as Moves}
use Rattle.fen_text.specs.Coordinates.{AreMoves, SpellsMove}
use Rattle.move_msg.specs.GameTexts.{has_bytes}

-- the move of a word is added, or none where there is no word; or the word is no move
abbrev pub AddsWord : List ℕ → List Moves → List Moves → Bool → Type 0
AddsWord word old new true = (more : List Moves) × AreMoves (filter has_bytes (word ∷ [])) more × (new ≡ old ++ more)
AddsWord word old new false = (has_bytes word ≡ true) × ((m : Moves) → SpellsMove word m → ⊥) × (new ≡ old)
