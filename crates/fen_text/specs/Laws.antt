-- What holds of texts and positions, and of texts and moves.
use Rattle.std.specs.Prelude.{◌≡◌, ◌↔◌, ℕ, List}
use Rattle.board_core.specs.declared.parts.Parts.{Parts}
use Rattle.board_core.specs.declared.moves.Move.{Move}
use Rattle.board_core.specs.Position.{IsPosition}
use Rattle.fen_text.specs.Fen.{SpellsPosition}
use Rattle.fen_text.specs.Written.{fen_of}
use Rattle.fen_text.specs.Coordinates.{SpellsMove}

-- a position has one text, and that text computes
abbrev pub HasOneText : Type 0
HasOneText = (t : List ℕ) (p : Parts) → IsPosition p → SpellsPosition t p ↔ (t ≡ fen_of p)

-- a text spells one position at most
abbrev pub HasOnePosition : Type 0
HasOnePosition = (t : List ℕ) (p q : Parts) → SpellsPosition t p → SpellsPosition t q → p ≡ q

-- a text spells one move at most
abbrev pub HasOneMove : Type 0
HasOneMove = (t : List ℕ) (m n : Move) → SpellsMove t m → SpellsMove t n → m ≡ n
