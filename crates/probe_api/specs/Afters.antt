-- Boards of positions: that of a FEN text, and that after a move.
use Rattle.std.specs.Prelude.{◌≡◌, ◌≢◌, ◌⊎◌, ◌+◌, ℕ, Bool, true, false, cond, List, Option, Some, None}
use Rattle.board_core.specs.declared.moves.Move.{Move}
use Rattle.board_core.specs.declared.parts.Parts.{Parts}
use Rattle.board_core.specs.declared.parts.Rights.{Rights}
use Rattle.board_core.specs.declared.piece.Kind.{Kind}
use Rattle.board_core.specs.declared.piece.Kind.TheVariants.{Pawn, Knight, Bishop, Rook, Queen, King}
use Rattle.board_core.specs.declared.piece.Piece.{Piece}
use Rattle.board_core.specs.declared.piece.Side.{Side}
use Rattle.board_core.specs.declared.piece.Side.TheVariants.{White, Black}
use Rattle.board_core.specs.declared.position.PositionFault.{PositionFault}
use Rattle.board_core.specs.ComputedMoves.{position_after}
use Rattle.board_core.specs.Position.{IsPosition, IsFirstFault, is_of}
use Rattle.board_core.specs.Sides.{squares_where}
use Rattle.fen_text.specs.Fen.{SpellsPosition, IsFirstFenFault}
use Rattle.fen_text.specs.declared.fault.FenFault.{FenFault}
use Rattle.probe_api.specs.Boards.{shown}
use Rattle.probe_api.specs.Moves.{IsMoveOf}
use Rattle.probe_api.specs.Replies.{fen_status, position_status}
use Rattle.probe_api.specs.declared.board.Board.{Board}
use Rattle.probe_api.specs.declared.plain_move.PlainMove.{PlainMove}

abbrev pub is_same_kind : Kind → Kind → Bool
is_same_kind Pawn Pawn = true
is_same_kind Knight Knight = true
is_same_kind Bishop Bishop = true
is_same_kind Rook Rook = true
is_same_kind Queen Queen = true
is_same_kind King King = true
is_same_kind _ _ = false

-- a man of this kind stands there
abbrev pub is_kind : Kind → Option Piece → Bool
is_kind sought None = false
is_kind sought (Some man) = is_same_kind sought man.kind

abbrev pub side_number : Side → ℕ
side_number White = 0
side_number Black = 1

-- a bit for each right
abbrev pub rights_number : Rights → ℕ
rights_number r = cond r.white_king 1 0 + cond r.white_queen 2 0 + cond r.black_king 4 0 + cond r.black_queen 8 0

-- the square's number, and 64 for none
abbrev pub passed_number : Option ℕ → ℕ
passed_number None = 64
passed_number (Some square) = square

-- the board of a position: the squares of each side and of each kind, and what it has besides its men
abbrev pub board_of : Parts → Board
board_of p = record {
  white = squares_where (is_of White) p.men;
  black = squares_where (is_of Black) p.men;
  kings = squares_where (is_kind King) p.men;
  queens = squares_where (is_kind Queen) p.men;
  rooks = squares_where (is_kind Rook) p.men;
  bishops = squares_where (is_kind Bishop) p.men;
  knights = squares_where (is_kind Knight) p.men;
  pawns = squares_where (is_kind Pawn) p.men;
  halfmove = p.halfmove;
  fullmove = p.fullmove;
  side = side_number p.side;
  rights = rights_number p.rights;
  passed = passed_number p.en_passant;
}

-- the board of a position shows that position
abbrev pub BoardShowsItsPosition : Type 0
BoardShowsItsPosition = (p : Parts) → IsPosition p → shown (board_of p) ≡ p

-- the board of the position that a text spells is put into the room; or the first fault of the text is the status, and the room stays
-- as it was
pub record PutsBoardOfText (text : List ℕ) (old : Board) (status : ℕ) (new : Board) : Type 0 where
  pub position : (p : Parts) → IsPosition p → SpellsPosition text p → (status ≡ 0) × (new ≡ board_of p)
  pub fault : (fault : FenFault) → IsFirstFenFault text fault → (status ≡ fen_status fault) × (new ≡ old)
  pub one : ((p : Parts) × IsPosition p × SpellsPosition text p) ⊎ ((fault : FenFault) × IsFirstFenFault text fault)

-- a move that these numbers are is legal in the position or not
pub record IsAfterMove (p : Parts) (m : Move) (status : ℕ) (new : Board) : Type 0 where
  pub legal : (q : Parts) → position_after p m ≡ Some q → (status ≡ 0) × (new ≡ board_of q)
  pub illegal : position_after p m ≡ None → status ≡ 86

-- what playing a move on a board comes to: the board of the position after it; or the first fault of what the board shows, 85 where the
-- numbers are no move, 86 where it isn't legal, in this order, and then the room stays as it was
pub record TellsAfter (board : Board) (numbers : PlainMove) (old : Board) (status : ℕ) (new : Board) : Type 0 where
  pub move : (m : Move) → IsPosition (shown board) → IsMoveOf numbers m → IsAfterMove (shown board) m status new
  pub none : IsPosition (shown board) → ((m : Move) → IsMoveOf numbers m → ⊥) → status ≡ 85
  pub fault : (fault : PositionFault) → IsFirstFault (shown board) fault → status ≡ position_status fault
  pub one : IsPosition (shown board) ⊎ ((fault : PositionFault) × IsFirstFault (shown board) fault)
  pub kept : status ≢ 0 → new ≡ old
