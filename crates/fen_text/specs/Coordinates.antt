-- A move as text: coordinate notation, as in the UCI protocol.
use Rattle.std.specs.Prelude.{◌≡◌, ◌<◌, ◌++◌, ℕ, List, [], ◌∷◌, Option, Some, None, codes}
use Rattle.board_core.specs.declared.piece.Promotion.{Promotion}
use Rattle.board_core.specs.declared.piece.Promotion.TheVariants.{Queen, Rook, Bishop, Knight}
use Rattle.board_core.specs.declared.moves.Move.{Move}
use Rattle.fen_text.specs.Fields.{square_text}

-- q, r, b or n, or nothing
abbrev pub promotion_text : Option Promotion → List ℕ
promotion_text None = []
promotion_text (Some Queen) = codes "q"
promotion_text (Some Rook) = codes "r"
promotion_text (Some Bishop) = codes "b"
promotion_text (Some Knight) = codes "n"

-- the names of the squares, and then the letter of the promotion
abbrev pub move_text : Move → List ℕ
move_text m = square_text m.from ++ square_text m.to ++ promotion_text m.promotion

-- the text is that of a move between two squares of the board
pub record SpellsMove (t : List ℕ) (m : Move) : Type 0 where
  pub from_board : m.from < 64
  pub to_board : m.to < 64
  pub text : t ≡ move_text m

-- a word for each move
abbrev pub AreMoves : List (List ℕ) → List Move → Type 0
AreMoves [] [] = Unit {0}
AreMoves [] (m ∷ moves) = ⊥
AreMoves (word ∷ words) [] = ⊥
AreMoves (word ∷ words) (m ∷ moves) = SpellsMove word m × AreMoves words moves
