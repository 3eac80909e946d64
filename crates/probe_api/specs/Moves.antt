-- Moves as plain numbers, and what a caller is told of the legal moves.
use Rattle.std.specs.Prelude.{◌≡◌, ◌≢◌, ◌⊎◌, ◌<◌, ◌++◌, ℕ, Bool, true, false, List, length, map, drop, nat_le, pos}
use Rattle.board_core.specs.declared.moves.Move.{Move}
use Rattle.board_core.specs.declared.parts.Parts.{Parts}
use Rattle.board_core.specs.declared.position.PositionFault.{PositionFault}
use Rattle.board_core.specs.ComputedMoves.{legal_moves, promotion_at}
use Rattle.board_core.specs.Moves.{promotion_place}
use Rattle.board_core.specs.Position.{IsPosition, IsFirstFault}
use Rattle.fen_text.specs.Fen.{SpellsPosition, IsFirstFenFault}
use Rattle.fen_text.specs.declared.fault.FenFault.{FenFault}
use Rattle.probe_api.specs.Boards.{shown}
use Rattle.probe_api.specs.Replies.{told, refused, short, fen_status, position_status}
use Rattle.probe_api.specs.declared.board.Board.{Board}
use Rattle.probe_api.specs.declared.plain_move.PlainMove.{PlainMove}
use Rattle.probe_api.specs.declared.reply.Reply.{Reply}

-- a move as three numbers: its squares, and what a pawn becomes
abbrev pub plain_of : Move → PlainMove
plain_of m = record { from = m.from; to = m.to; promotion = promotion_place m.promotion }

-- the numbers are those of a move between two squares of the board
pub record IsMoveOf (numbers : PlainMove) (m : Move) : Type 0 where
  pub from_board : numbers.from < 64
  pub to_board : numbers.to < 64
  pub known : numbers.promotion < 5
  pub is : m ≡ record { from = numbers.from; to = numbers.to; promotion = promotion_at numbers.promotion }

-- the count, where there is room for so many, and otherwise a status that tells how many there are
abbrev pub count_reply : Bool → ℕ → Reply
count_reply true n = told (pos n)
count_reply false n = short (pos n)

-- the legal moves of a position are put at the front of the room, in order of from, to and promotion, where it has a place for each;
-- otherwise, and where memory for a list was refused, the room stays as it was
pub record PutsMoves (p : Parts) (old : List PlainMove) (reply : Reply) (new : List PlainMove) : Type 0 where
  pub count : reply ≢ refused 5 → reply ≡ count_reply (nat_le (length (legal_moves p)) (length old)) (length (legal_moves p))
  pub written : reply.status ≡ 0 → new ≡ map plain_of (legal_moves p) ++ drop (length (legal_moves p)) old
  pub kept : reply.status ≢ 0 → new ≡ old

-- those of the position that a text spells, or the first fault of the text
pub record PutsMovesOfText (text : List ℕ) (old : List PlainMove) (reply : Reply) (new : List PlainMove) : Type 0 where
  pub position : (p : Parts) → IsPosition p → SpellsPosition text p → PutsMoves p old reply new
  pub fault : (fault : FenFault) → IsFirstFenFault text fault → (reply ≡ refused (fen_status fault)) × (new ≡ old)
  pub one : ((p : Parts) × IsPosition p × SpellsPosition text p) ⊎ ((fault : FenFault) × IsFirstFenFault text fault)

-- those of the position that a board shows, or the first fault of what it shows
pub record PutsMovesOfBoard (board : Board) (old : List PlainMove) (reply : Reply) (new : List PlainMove) : Type 0 where
  pub position : IsPosition (shown board) → PutsMoves (shown board) old reply new
  pub fault : (fault : PositionFault) → IsFirstFault (shown board) fault → (reply ≡ refused (position_status fault)) × (new ≡ old)
  pub one : IsPosition (shown board) ⊎ ((fault : PositionFault) × IsFirstFault (shown board) fault)
