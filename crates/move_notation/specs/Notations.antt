-- Moves as people write them, in coordinates or in standard algebraic notation (this project's own).
use Rattle.std.specs.Prelude.{◌≡◌, ◌++◌, ℕ, Bool, true, false, List, [], ◌∷◌, length, Some}
use Rattle.board_core.specs.declared.parts.Parts.{Parts}
use Rattle.board_core.specs.declared.moves.Move.{Move as Moves}
use Rattle.board_core.specs.ComputedMoves.{position_after}
use Rattle.fen_text.specs.Coordinates.{AreMoves, SpellsMove}
use Rattle.san_text.specs.San.{ReadsSan}
use Rattle.move_msg.specs.GameTexts.{IsBadWordAt}
use Rattle.move_notation.specs.declared.notation.Notation.{Notation}
use Rattle.move_notation.specs.declared.notation.Notation.TheVariants.{Coordinates, San}

-- algebraic notation where a flag asks for it
abbrev pub notation_by : Bool → Notation
notation_by true = San
notation_by false = Coordinates

-- a text names this move in a position: in coordinates by its two squares, whether or not the position has it; in algebraic notation as one of
-- its legal moves
abbrev pub Spells : Notation → Parts → List ℕ → Moves → Type 0
Spells Coordinates p text m = SpellsMove text m
Spells San p text m = ReadsSan p text m

-- in algebraic notation each of the texts names a move of the position after those before it; they lead from the one position to the other
unfoldable pub LeadsTo : Parts → List (List ℕ) → List Moves → Parts → Type 0
LeadsTo p [] [] q = q ≡ p
LeadsTo p [] (m ∷ moves) q = ⊥
LeadsTo p (text ∷ texts) [] q = ⊥
LeadsTo p (text ∷ texts) (m ∷ moves) q =
    (next : Parts) × ReadsSan p text m × (position_after p m ≡ Some next) × LeadsTo next texts moves q

abbrev pub AreSanMoves : Parts → List (List ℕ) → List Moves → Type 0
AreSanMoves p texts moves = (q : Parts) × LeadsTo p texts moves q

-- the texts name these moves in turn
abbrev pub AreMovesIn : Notation → Parts → List (List ℕ) → List Moves → Type 0
AreMovesIn Coordinates p texts moves = AreMoves texts moves
AreMovesIn San p texts moves = AreSanMoves p texts moves

-- the text at this place, counted from 0, is the first that names no move of the position after those before it
pub record IsFirstUnread (p : Parts) (texts : List (List ℕ)) (place : ℕ) : Type 0 where
  pub before : List (List ℕ)
  pub text : List ℕ
  pub behind : List (List ℕ)
  pub are : texts ≡ before ++ text ∷ behind
  pub counted : length before ≡ place
  pub moves : List Moves
  pub there : Parts
  pub leads : LeadsTo p before moves there
  pub none : (m : Moves) → ReadsSan there text m → ⊥

abbrev pub IsBadWordIn : Notation → Parts → List (List ℕ) → ℕ → Type 0
IsBadWordIn Coordinates p texts place = IsBadWordAt texts place
IsBadWordIn San p texts place = IsFirstUnread p texts place
