-- A move as a word of 16 bits (message format, words).
use Rattle.std.specs.Prelude.{◌≡◌, ◌<◌, ◌+◌, ◌*◌, ℕ, Option, Some, None}
use Rattle.board_core.specs.declared.piece.Promotion.{Promotion}
use Rattle.board_core.specs.declared.piece.Promotion.TheVariants.{Queen, Rook, Bishop, Knight}
use Rattle.board_core.specs.declared.moves.Move.{Move}

-- what a pawn becomes, by number
abbrev pub promotion_number : Option Promotion → ℕ
promotion_number None = 0
promotion_number (Some Queen) = 1
promotion_number (Some Rook) = 2
promotion_number (Some Bishop) = 3
promotion_number (Some Knight) = 4

-- the square left, the square reached and the promotion
abbrev pub word_of : Move → ℕ
word_of m = m.from + 64 * m.to + 4096 * promotion_number m.promotion

-- the word of a knight's promotion from h8 to h8
abbrev pub greatest_word : ℕ
greatest_word = 20479

-- the word stands for a move between two squares of the board
pub record SpellsWord (word : ℕ) (m : Move) : Type 0 where
  pub from_board : m.from < 64
  pub to_board : m.to < 64
  pub value : word ≡ word_of m
