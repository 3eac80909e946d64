-- Positions (FIDE Laws of Chess, article 3; PGN standard, section 16.1 for the counters): the parts under
-- seven conditions.
use Rattle.std.specs.Prelude.{◌≡◌, ℕ, ◌<◌, ◌≤◌, ◌&&◌, Bool, true, false, IsTrue, List, Option, Some, None, count_by, length, codes}
use Rattle.board_core.specs.declared.piece.Piece.{Piece}
use Rattle.board_core.specs.declared.piece.Side.{Side}
use Rattle.board_core.specs.declared.piece.Side.TheVariants.{White, Black}
use Rattle.board_core.specs.declared.piece.Kind.{Kind}
use Rattle.board_core.specs.declared.piece.Kind.TheVariants.{Pawn, Knight, Bishop, Rook, Queen, King}
use Rattle.board_core.specs.declared.piece.Wing.{Wing}
use Rattle.board_core.specs.declared.piece.Wing.TheVariants.{KingSide, QueenSide}
use Rattle.board_core.specs.declared.parts.Parts.{Parts}
use Rattle.board_core.specs.declared.position.PositionFault.{PositionFault}
use Rattle.board_core.specs.declared.position.PositionFault.TheVariants.{BadKings, TooManyMen, PawnOnEdge, BadCastling, BadEnPassant, OpponentInCheck, BadCounter}
use Rattle.board_core.specs.Side.{other}
use Rattle.board_core.specs.Square.{rank_of}
use Rattle.board_core.specs.Attack.{man_at, IsInCheck}
use Rattle.board_core.specs.Castling.{has_right, king_home, rook_home}
use Rattle.board_core.specs.Moves.{Stands, behind}

abbrev pub is_same_side : Side → Side → Bool
is_same_side White White = true
is_same_side White Black = false
is_same_side Black White = false
is_same_side Black Black = true

abbrev pub is_king : Kind → Bool
is_king Pawn = false
is_king Knight = false
is_king Bishop = false
is_king Rook = false
is_king Queen = false
is_king King = true

-- whether a man of this side stands there
abbrev pub is_of : Side → Option Piece → Bool
is_of side None = false
is_of side (Some man) = is_same_side side man.side

-- whether the king of this side stands there
abbrev pub is_king_of : Side → Option Piece → Bool
is_king_of side None = false
is_king_of side (Some man) = is_same_side side man.side && is_king man.kind

-- 1: each side has exactly one king (FIDE article 2.2)
abbrev pub HasOneKingEach : List (Option Piece) → Type 0
HasOneKingEach men = (count_by (is_king_of White) men ≡ 1) × (count_by (is_king_of Black) men ≡ 1)

-- 2: a side has at most the 16 men that it begins with (FIDE article 2.2)
abbrev pub HasFewMen : List (Option Piece) → Type 0
HasFewMen men = (count_by (is_of White) men ≤ 16) × (count_by (is_of Black) men ≤ 16)

-- 3: no pawn stands on the first or the eighth rank (FIDE articles 2.3 and 3.7.3.3)
abbrev pub HasNoPawnOnEdge : List (Option Piece) → Type 0
HasNoPawnOnEdge men = (s : ℕ) (side : Side) → s < 64 → Stands men s side Pawn → (0 < rank_of s) × (rank_of s < 7)

-- 4: a right stands only while its king and its rook stand at home
abbrev pub IsRightValid : Parts → Side → Wing → Type 0
IsRightValid p side wing =
    IsTrue (has_right p.rights side wing) → Stands p.men (king_home side) side King × Stands p.men (rook_home side wing) side Rook

abbrev pub HasValidRights : Parts → Type 0
HasValidRights p =
    IsRightValid p White KingSide × IsRightValid p White QueenSide × IsRightValid p Black KingSide × IsRightValid p Black QueenSide

-- the rank that a double step of the other side passes: the sixth for white to move, the third for black
abbrev pub passed_rank : Side → ℕ
passed_rank White = 5
passed_rank Black = 2

-- 5: a pawn of the side that is not to move has just passed the en passant square (FIDE article 3.7.3.1; PGN standard,
-- section 16.1.3.4)
pub record IsPassed (p : Parts) (s : ℕ) : Type 0 where
  pub rank : rank_of s ≡ passed_rank p.side
  pub pawn : Stands p.men (behind p.side s) (other p.side) Pawn
  pub empty : man_at p.men s ≡ None
  pub origin : man_at p.men (behind (other p.side) s) ≡ None

abbrev pub HasValidEnPassant : Parts → Type 0
HasValidEnPassant p = (s : ℕ) → p.en_passant ≡ Some s → IsPassed p s

-- 6: the side that is not to move is not in check (FIDE article 3.9.2)
abbrev pub IsOpponentSafe : Parts → Type 0
IsOpponentSafe p = IsInCheck p.men (other p.side) → ⊥

-- 7: no counter is above 9999 (this project's own bound)
abbrev pub HasValidCounters : Parts → Type 0
HasValidCounters p = (p.halfmove ≤ 9999) × (p.fullmove ≤ 9999)

-- the parts are a position: a map from the 64 squares to men, side, rights, en passant square and counters
-- under the seven conditions
pub record IsPosition (p : Parts) : Type 0 where
  pub squares : length p.men ≡ 64
  pub kings : HasOneKingEach p.men
  pub few : HasFewMen p.men
  pub pawns : HasNoPawnOnEdge p.men
  pub rights : HasValidRights p
  pub en_passant : HasValidEnPassant p
  pub quiet : IsOpponentSafe p
  pub counters : HasValidCounters p

-- the first condition that fails, in their order
abbrev pub IsFirstFault : Parts → PositionFault → Type 0
IsFirstFault p BadKings = HasOneKingEach p.men → ⊥
IsFirstFault p TooManyMen = HasOneKingEach p.men × (HasFewMen p.men → ⊥)
IsFirstFault p PawnOnEdge = HasOneKingEach p.men × HasFewMen p.men × (HasNoPawnOnEdge p.men → ⊥)
IsFirstFault p BadCastling =
    HasOneKingEach p.men × HasFewMen p.men × HasNoPawnOnEdge p.men × (HasValidRights p → ⊥)
IsFirstFault p BadEnPassant =
    HasOneKingEach p.men × HasFewMen p.men × HasNoPawnOnEdge p.men × HasValidRights p × (HasValidEnPassant p → ⊥)
IsFirstFault p OpponentInCheck =
    HasOneKingEach p.men × HasFewMen p.men × HasNoPawnOnEdge p.men × HasValidRights p × HasValidEnPassant p × (IsOpponentSafe p → ⊥)
IsFirstFault p BadCounter =
    HasOneKingEach p.men × HasFewMen p.men × HasNoPawnOnEdge p.men × HasValidRights p × HasValidEnPassant p × IsOpponentSafe p × (HasValidCounters p → ⊥)

-- the name of a fault
abbrev pub fault_name : PositionFault → List ℕ
fault_name BadKings = codes "BadKings"
fault_name TooManyMen = codes "TooManyMen"
fault_name PawnOnEdge = codes "PawnOnEdge"
fault_name BadCastling = codes "BadCastling"
fault_name BadEnPassant = codes "BadEnPassant"
fault_name OpponentInCheck = codes "OpponentInCheck"
fault_name BadCounter = codes "BadCounter"
