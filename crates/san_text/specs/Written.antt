-- The one text of a legal move (PGN standard, sections 8.2.3.2 to 8.2.3.5), as a computable definition.
use Rattle.std.specs.Prelude.{ℕ, ◌==◌, ◌&&◌, ◌++◌, not, Bool, true, false, List, [], Option, Some, None, codes, if◌then◌else◌}
use Rattle.std.specs.List.{list_any}
use Rattle.board_core.specs.declared.piece.Piece.{Piece}
use Rattle.board_core.specs.declared.piece.Kind.{Kind}
use Rattle.board_core.specs.declared.piece.Kind.TheVariants.{Pawn, Knight, Bishop, Rook, Queen, King}
use Rattle.board_core.specs.declared.piece.Wing.{Wing}
use Rattle.board_core.specs.declared.parts.Parts.{Parts}
use Rattle.board_core.specs.declared.moves.Move.{Move}
use Rattle.board_core.specs.Square.{file_of, rank_of}
use Rattle.board_core.specs.Attack.{man_at}
use Rattle.board_core.specs.Computed.{is_in_check}
use Rattle.board_core.specs.ComputedMoves.{is_capture, legal_moves, position_after}
use Rattle.board_core.specs.Ends.{is_checkmate}
use Rattle.san_text.specs.declared.told.ManTold.{ManTold}
use Rattle.san_text.specs.declared.told.Told.{Told}
use Rattle.san_text.specs.declared.told.Told.TheVariants.{Castles, Goes}
use Rattle.san_text.specs.declared.origin.Apart.{Apart}
use Rattle.san_text.specs.declared.origin.Apart.TheVariants.{Nothing, ByFile, ByRank, BySquare}
use Rattle.san_text.specs.Told.{told_text}
use Rattle.san_text.specs.Agrees.{castling}

-- P N B R Q K
abbrev pub kind_letter : Kind → ℕ
kind_letter Pawn = 80
kind_letter Knight = 78
kind_letter Bishop = 66
kind_letter Rook = 82
kind_letter Queen = 81
kind_letter King = 75

-- the kind of the man that stands there, and its letter
abbrev pub kind_there : Option Piece → Kind
kind_there None = Pawn
kind_there (Some man) = man.kind

abbrev pub kind_moved : Parts → Move → Kind
kind_moved p m = kind_there (man_at p.men m.from)

-- the other move is that of another man of this kind, to the same square
abbrev pub is_rival : Parts → Move → Move → Bool
is_rival p m n =
    (kind_letter (kind_moved p n) == kind_letter (kind_moved p m)) && (n.to == m.to) && not (n.from == m.from)

-- among the legal moves is that of another man of this kind to this square, from a square that passes the test
unfoldable pub has_rival : Parts → Move → (ℕ → Bool) → Bool
has_rival p m test = list_any (λ n. is_rival p m n && test n.from) (legal_moves p)

abbrev pub anywhere : ℕ → Bool
anywhere s = true

abbrev pub on_file_of : ℕ → ℕ → Bool
on_file_of from s = file_of s == file_of from

abbrev pub on_rank_of : ℕ → ℕ → Bool
on_rank_of from s = rank_of s == rank_of from

-- nothing where no other man of the kind can go there; the file, where none of them comes from it; else the rank, where none
-- of them comes from it; else both (section 8.2.3.4)
unfoldable pub told_apart : Parts → Move → Apart
told_apart p m =
    if not (has_rival p m anywhere) then Nothing
    else (if not (has_rival p m (on_file_of m.from)) then ByFile
    else (if not (has_rival p m (on_rank_of m.from)) then ByRank
    else BySquare))

-- a pawn tells its file where it takes, and else nothing
abbrev pub pawn_apart : Bool → Apart
pawn_apart true = ByFile
pawn_apart false = Nothing

abbrev pub origin_told : Kind → Parts → Move → Apart
origin_told Pawn p m = pawn_apart (is_capture p m)
origin_told Knight p m = told_apart p m
origin_told Bishop p m = told_apart p m
origin_told Rook p m = told_apart p m
origin_told Queen p m = told_apart p m
origin_told King p m = told_apart p m

abbrev pub file_by : Apart → ℕ → Option ℕ
file_by Nothing from = None
file_by ByFile from = Some (file_of from)
file_by ByRank from = None
file_by BySquare from = Some (file_of from)

abbrev pub rank_by : Apart → ℕ → Option ℕ
rank_by Nothing from = None
rank_by ByFile from = None
rank_by ByRank from = Some (rank_of from)
rank_by BySquare from = Some (rank_of from)

abbrev pub man_told : Parts → Move → ManTold
man_told p m = record {
  kind = kind_moved p m;
  file = file_by (origin_told (kind_moved p m) p m) m.from;
  rank = rank_by (origin_told (kind_moved p m) p m) m.from;
  takes = is_capture p m;
  to = m.to;
  promotion = m.promotion;
  en_passant = false;
}

-- castling, or the move of a man
abbrev pub castling_or_man : Option Wing → ManTold → Told
castling_or_man None man = Goes man
castling_or_man (Some wing) man = Castles wing

-- what the text of a move tells
unfoldable pub san_told : Parts → Move → Told
san_told p m = castling_or_man (castling p m) (man_told p m)

-- # for checkmate (FIDE article 5.1.1), + for another check (section 8.2.3.5)
unfoldable pub check_mark : Parts → List ℕ
check_mark q = if is_checkmate q then codes "#" else (if is_in_check q.men q.side then codes "+" else [])

abbrev pub mark_after : Option Parts → List ℕ
mark_after None = []
mark_after (Some q) = check_mark q

-- what the text tells, and the mark of the position after the move
unfoldable pub san_of : Parts → Move → List ℕ
san_of p m = told_text (san_told p m) ++ mark_after (position_after p m)
