-- What holds of moves and their texts.
use Rattle.std.specs.Prelude.{◌≡◌, ◌↔◌, ◌++◌, ℕ, List, codes, Some}
use Rattle.board_core.specs.declared.parts.Parts.{Parts}
use Rattle.board_core.specs.declared.moves.Move.{Move}
use Rattle.board_core.specs.Attack.{IsInCheck}
use Rattle.board_core.specs.declared.piece.Wing.{Wing}
use Rattle.board_core.specs.Ends.{IsCheckmate}
use Rattle.board_core.specs.Moves.{IsCastle, IsLegal, Legal}
use Rattle.board_core.specs.Position.{IsPosition}
use Rattle.san_text.specs.declared.told.Told.{Told}
use Rattle.san_text.specs.Told.{SpellsTold, told_text}
use Rattle.san_text.specs.Agrees.{castling}
use Rattle.san_text.specs.San.{ReadsSan}
use Rattle.san_text.specs.Written.{san_of, san_told}

-- what is written for a legal move is read as this move
abbrev pub IsReadBack : Type 0
IsReadBack = (p : Parts) (m : Move) → IsPosition p → IsLegal p m → ReadsSan p (san_of p m) m

-- two legal moves of a position have two texts
abbrev pub MovesDifferInText : Type 0
MovesDifferInText =
    (p : Parts) (m n : Move) → IsPosition p → IsLegal p m → IsLegal p n → san_of p m ≡ san_of p n → m ≡ n

-- a text tells one thing at most
abbrev pub TellsOneThing : Type 0
TellsOneThing = (t : List ℕ) (a b : Told) → SpellsTold t a → SpellsTold t b → a ≡ b

-- castling is told exactly where king and rook castle by the rules
abbrev pub CastlingIsTold : Type 0
CastlingIsTold = (p : Parts) (m : Move) (wing : Wing) → IsLegal p m → (castling p m ≡ Some wing) ↔ IsCastle p m wing

-- # stands exactly where the position after the move is checkmate, + exactly where it is another check
abbrev pub MarksMate : Type 0
MarksMate =
    (p : Parts) (m : Move) (q : Parts) → Legal p m q → (san_of p m ≡ told_text (san_told p m) ++ codes "#") ↔ IsCheckmate q

abbrev pub MarksCheck : Type 0
MarksCheck =
    (p : Parts) (m : Move) (q : Parts) → Legal p m q → (san_of p m ≡ told_text (san_told p m) ++ codes "+") ↔ (IsInCheck q.men q.side × (IsCheckmate q → ⊥))
