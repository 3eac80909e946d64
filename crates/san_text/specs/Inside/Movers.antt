-- The moves of the men that may be meant, by the square that they leave. Only private contracts cite these words.
use Rattle.std.specs.Prelude.{◌≡◌, ◌≢◌, ℕ, IsTrue, None}
use Rattle.board_core.specs.declared.parts.Parts.{Parts}
use Rattle.board_core.specs.declared.moves.Move.{Move}
use Rattle.board_core.specs.declared.piece.Side.{Side}
use Rattle.board_core.specs.declared.piece.Wing.{Wing}
use Rattle.board_core.specs.Castling.{king_home, king_end}
use Rattle.board_core.specs.ComputedMoves.{is_capture, is_en_passant}
use Rattle.board_core.specs.Moves.{IsLegal, Stands}
use Rattle.board_core.specs.Square.{file_of, rank_of}
use Rattle.san_text.specs.declared.fault.SanFault.{SanFault}
use Rattle.san_text.specs.declared.fault.SanFault.TheVariants.{BadText, NoMove, Ambiguous}
use Rattle.san_text.specs.declared.told.ManTold.{ManTold}
use Rattle.san_text.specs.declared.told.Told.{Told}
use Rattle.san_text.specs.Agrees.{castling, IsNumberTold, file_told, AgreesMan}
use Rattle.san_text.specs.San.{IsMeant}

-- the move that is told, from this square
abbrev pub told_move : ManTold → ℕ → Move
told_move man from = record { from = from; to = man.to; promotion = man.promotion }

-- the man on this square is told, and the square
abbrev pub IsToldFrom : Parts → ManTold → ℕ → Type 0
IsToldFrom p man from =
    Stands p.men from p.side man.kind × IsNumberTold (file_told man.kind man.file man.to) (file_of from) × IsNumberTold man.rank (rank_of from)

-- what else is told of the move is so
abbrev pub IsToldSo : Parts → ManTold → Move → Type 0
IsToldSo p man m =
    (IsTrue man.takes → IsTrue (is_capture p m)) × (IsTrue man.en_passant → IsTrue (is_en_passant p m)) × (castling p m ≡ None)

-- it is legal, and agrees with what is told
abbrev pub MayBeMeant : Parts → ManTold → ℕ → Type 0
MayBeMeant p man from = IsLegal p (told_move man from) × AgreesMan p man (told_move man from)

-- why no one man is meant
abbrev pub IsMoverFault : Parts → ManTold → SanFault → Type 0
IsMoverFault p man BadText = ⊥
IsMoverFault p man NoMove = (s : ℕ) → MayBeMeant p man s → ⊥
IsMoverFault p man Ambiguous = (s : ℕ) × (t : ℕ) × MayBeMeant p man s × MayBeMeant p man t × (s ≢ t)

-- why no one move is meant
abbrev pub IsToldFault : Parts → Told → SanFault → Type 0
IsToldFault p told BadText = ⊥
IsToldFault p told NoMove = (m : Move) → IsMeant p told m → ⊥
IsToldFault p told Ambiguous = (m : Move) × (n : Move) × IsMeant p told m × IsMeant p told n × (m ≢ n)

-- the king's move that castles
abbrev pub castling_move : Side → Wing → Move
castling_move side wing = record { from = king_home side; to = king_end side wing; promotion = None }
