-- Which moves agree with what a text tells (PGN standard, section 8.2.3).
use Rattle.std.specs.Prelude.{◌≡◌, ℕ, ◌+◌, ◌==◌, IsTrue, Option, Some, None, if◌then◌else◌}
use Rattle.board_core.specs.declared.piece.Kind.{Kind}
use Rattle.board_core.specs.declared.piece.Kind.TheVariants.{Pawn, Knight, Bishop, Rook, Queen, King}
use Rattle.board_core.specs.declared.piece.Wing.{Wing}
use Rattle.board_core.specs.declared.piece.Wing.TheVariants.{KingSide, QueenSide}
use Rattle.board_core.specs.declared.parts.Parts.{Parts}
use Rattle.board_core.specs.declared.moves.Move.{Move}
use Rattle.board_core.specs.Square.{file_of, rank_of}
use Rattle.board_core.specs.Attack.{man_at}
use Rattle.board_core.specs.Position.{is_king_of}
use Rattle.board_core.specs.Moves.{Stands}
use Rattle.board_core.specs.ComputedMoves.{is_capture, is_en_passant}
use Rattle.san_text.specs.declared.told.ManTold.{ManTold}
use Rattle.san_text.specs.declared.told.Told.{Told}
use Rattle.san_text.specs.declared.told.Told.TheVariants.{Castles, Goes}

-- castling is the king's move of two files, to the king's wing or to the queen's
abbrev pub wing_by_files : ℕ → ℕ → Option Wing
wing_by_files from to = if to == from + 2 then Some KingSide else (if from == to + 2 then Some QueenSide else None)

abbrev pub castling : Parts → Move → Option Wing
castling p m = if is_king_of p.side (man_at p.men m.from) then wing_by_files (file_of m.from) (file_of m.to) else None

-- a number that is told is this one
abbrev pub IsNumberTold : Option ℕ → ℕ → Type 0
IsNumberTold None n = Unit {0}
IsNumberTold (Some told) n = n ≡ told

-- the file that is told of the square that a man leaves: a pawn's text that has none tells that of its square
abbrev pub file_told : Kind → Option ℕ → ℕ → Option ℕ
file_told _ (Some file) to = Some file
file_told Pawn None to = Some (file_of to)
file_told Knight None to = None
file_told Bishop None to = None
file_told Rook None to = None
file_told Queen None to = None
file_told King None to = None

-- each thing that is told is so: the man, where he comes from, that he takes, his square, the promotion, en passant. It is no castling
pub record AgreesMan (p : Parts) (told : ManTold) (m : Move) : Type 0 where
  pub stands : Stands p.men m.from p.side told.kind
  pub file : IsNumberTold (file_told told.kind told.file told.to) (file_of m.from)
  pub rank : IsNumberTold told.rank (rank_of m.from)
  pub takes : IsTrue told.takes → IsTrue (is_capture p m)
  pub square : m.to ≡ told.to
  pub promotion : m.promotion ≡ told.promotion
  pub en_passant : IsTrue told.en_passant → IsTrue (is_en_passant p m)
  pub stays : castling p m ≡ None

-- castling text tells castling alone
abbrev pub Agrees : Parts → Told → Move → Type 0
Agrees p (Castles wing) m = castling p m ≡ Some wing
Agrees p (Goes man) m = AgreesMan p man m
