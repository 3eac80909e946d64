-- Moves in standard algebraic notation (PGN standard, section 8.2.3), put into a caller's room and read.
use Rattle.std.specs.Prelude.{◌≡◌, ◌⊎◌, ◌<◌, ◌≤◌, ◌+◌, ◌++◌, ◌∷◌, ℕ, List, length, drop, pos}
use Rattle.board_core.specs.declared.moves.Move.{Move}
use Rattle.board_core.specs.declared.parts.Parts.{Parts}
use Rattle.board_core.specs.Moves.{IsLegal}
use Rattle.board_core.specs.Position.{IsPosition}
use Rattle.fen_text.specs.Fen.{SpellsPosition, IsFirstFenFault}
use Rattle.fen_text.specs.declared.fault.FenFault.{FenFault}
use Rattle.san_text.specs.San.{ReadsSan, IsFirstSanFault}
use Rattle.san_text.specs.Written.{san_of}
use Rattle.san_text.specs.declared.fault.SanFault.{SanFault}
use Rattle.san_text.specs.declared.fault.SanFault.TheVariants.{BadText, NoMove, Ambiguous}
use Rattle.probe_api.specs.Moves.{IsMoveOf, plain_of}
use Rattle.probe_api.specs.Replies.{told, refused, short, fen_status}
use Rattle.probe_api.specs.declared.plain_move.PlainMove.{PlainMove}
use Rattle.probe_api.specs.declared.reply.Reply.{Reply}

-- ---- writing

-- a text is put into the room with a byte 0 after it, and its length is told; where they don't fit, the room that is needed is told
pub record PutsSanText (text old : List ℕ) (reply : Reply) (new : List ℕ) : Type 0 where
  pub fits : length text < length old → (reply ≡ told (pos (length text))) × (new ≡ text ++ 0 ∷ drop (length text + 1) old)
  pub short : length old ≤ length text → (reply ≡ short (pos (length text + 1))) × (new ≡ old)

-- that of a legal move
pub record PutsSanOfMove (p : Parts) (m : Move) (old : List ℕ) (reply : Reply) (new : List ℕ) : Type 0 where
  pub legal : IsLegal p m → PutsSanText (san_of p m) old reply new
  pub illegal : (IsLegal p m → ⊥) → (reply ≡ refused 86) × (new ≡ old)

-- that of the move that numbers are
pub record PutsSan (p : Parts) (numbers : PlainMove) (old : List ℕ) (reply : Reply) (new : List ℕ) : Type 0 where
  pub move : (m : Move) → IsMoveOf numbers m → PutsSanOfMove p m old reply new
  pub none : ((m : Move) → IsMoveOf numbers m → ⊥) → (reply ≡ refused 85) × (new ≡ old)
  pub one : ((m : Move) × IsMoveOf numbers m) ⊎ ((m : Move) → IsMoveOf numbers m → ⊥)

-- in the position that a text spells, or the first fault of the text
pub record PutsSanOfText (text : List ℕ) (numbers : PlainMove) (old : List ℕ) (reply : Reply) (new : List ℕ) : Type 0 where
  pub position : (p : Parts) → IsPosition p → SpellsPosition text p → PutsSan p numbers old reply new
  pub fault : (fault : FenFault) → IsFirstFenFault text fault → (reply ≡ refused (fen_status fault)) × (new ≡ old)
  pub one : ((p : Parts) × IsPosition p × SpellsPosition text p) ⊎ ((fault : FenFault) × IsFirstFenFault text fault)

-- ---- reading

abbrev pub san_status : SanFault → ℕ
san_status BadText = 85
san_status NoMove = 86
san_status Ambiguous = 88

-- the move that a text tells is put into the room, or the room stays as it was and the first fault of the text is told
pub record TellsSan (p : Parts) (san : List ℕ) (old : PlainMove) (status : ℕ) (new : PlainMove) : Type 0 where
  pub move : (m : Move) → ReadsSan p san m → (status ≡ 0) × (new ≡ plain_of m)
  pub fault : (fault : SanFault) → IsFirstSanFault p san fault → (status ≡ san_status fault) × (new ≡ old)
  pub one : ((m : Move) × ReadsSan p san m) ⊎ ((fault : SanFault) × IsFirstSanFault p san fault)

-- in the position that a text spells, or the first fault of that text
pub record TellsSanOfText (text san : List ℕ) (old : PlainMove) (status : ℕ) (new : PlainMove) : Type 0 where
  pub position : (p : Parts) → IsPosition p → SpellsPosition text p → TellsSan p san old status new
  pub fault : (fault : FenFault) → IsFirstFenFault text fault → (status ≡ fen_status fault) × (new ≡ old)
  pub one : ((p : Parts) × IsPosition p × SpellsPosition text p) ⊎ ((fault : FenFault) × IsFirstFenFault text fault)
