-- What holds of texts and the moves that they name.
use Rattle.std.specs.Prelude.{◌≡◌, ℕ, List}
use Rattle.board_core.specs.declared.parts.Parts.{Parts}
use Rattle.board_core.specs.declared.moves.Move.{Move as Moves}
use Rattle.move_notation.specs.declared.notation.Notation.{Notation}
use Rattle.move_notation.specs.Notations.{Spells}

-- a text names one move at most in a position
abbrev pub NamesOneMove : Type 0
NamesOneMove = (notation : Notation) (p : Parts) (t : List ℕ) (m n : Moves) → Spells notation p t m → Spells notation p t n → m ≡ n
