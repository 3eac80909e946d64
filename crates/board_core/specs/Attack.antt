-- How men attack squares (FIDE Laws of Chess, article 3), as relations over the map from squares to men:
-- steps, and rays over empty squares.
use Rattle.std.specs.Prelude.{◌≡◌, ◌≢◌, ℕ, ◌+◌, ◌<◌, ◌≤◌, ◌⊎◌, List, Option, Some, None, slice_index_or}
use Rattle.board_core.specs.declared.piece.Piece.{Piece}
use Rattle.board_core.specs.declared.piece.Side.{Side}
use Rattle.board_core.specs.declared.piece.Side.TheVariants.{White, Black}
use Rattle.board_core.specs.declared.piece.Kind.{Kind}
use Rattle.board_core.specs.declared.piece.Kind.TheVariants.{Pawn, Knight, Bishop, Rook, Queen, King}
use Rattle.board_core.specs.declared.attack.Direction.{Direction}
use Rattle.board_core.specs.declared.attack.Direction.TheVariants.{North, South, East, West, NorthEast, NorthWest, SouthEast, SouthWest}
use Rattle.board_core.specs.Side.{other}
use Rattle.board_core.specs.Square.{file_of, rank_of, apart}

-- the man on a square; outside the board there is none: the men of a position as a finite map
abbrev pub man_at : List (Option Piece) → ℕ → Option Piece
man_at men s = slice_index_or men s None

-- `to` is n squares from `from` in this direction
abbrev pub Along : Direction → ℕ → ℕ → ℕ → Type 0
Along North n from to = (file_of to ≡ file_of from) × (rank_of to ≡ rank_of from + n)
Along South n from to = (file_of to ≡ file_of from) × (rank_of to + n ≡ rank_of from)
Along East n from to = (file_of to ≡ file_of from + n) × (rank_of to ≡ rank_of from)
Along West n from to = (file_of to + n ≡ file_of from) × (rank_of to ≡ rank_of from)
Along NorthEast n from to = (file_of to ≡ file_of from + n) × (rank_of to ≡ rank_of from + n)
Along NorthWest n from to = (file_of to + n ≡ file_of from) × (rank_of to ≡ rank_of from + n)
Along SouthEast n from to = (file_of to ≡ file_of from + n) × (rank_of to + n ≡ rank_of from)
Along SouthWest n from to = (file_of to + n ≡ file_of from) × (rank_of to + n ≡ rank_of from)

-- each square between `from` and the one n squares on in this direction is empty
abbrev pub IsClear : List (Option Piece) → Direction → ℕ → ℕ → Type 0
IsClear men d n from = (k s : ℕ) → 0 < k → k < n → Along d k from s → man_at men s ≡ None

-- the directions along files and ranks, and those along diagonals (FIDE article 2.4)
abbrev pub IsStraight : Direction → Type 0
IsStraight North = Unit {0}
IsStraight South = Unit {0}
IsStraight East = Unit {0}
IsStraight West = Unit {0}
IsStraight NorthEast = ⊥
IsStraight NorthWest = ⊥
IsStraight SouthEast = ⊥
IsStraight SouthWest = ⊥

abbrev pub IsDiagonal : Direction → Type 0
IsDiagonal North = ⊥
IsDiagonal South = ⊥
IsDiagonal East = ⊥
IsDiagonal West = ⊥
IsDiagonal NorthEast = Unit {0}
IsDiagonal NorthWest = Unit {0}
IsDiagonal SouthEast = Unit {0}
IsDiagonal SouthWest = Unit {0}

-- the directions in which a kind of man goes any distance (FIDE articles 3.2 to 3.4)
abbrev pub Slides : Kind → Direction → Type 0
Slides Pawn d = ⊥
Slides Knight d = ⊥
Slides Bishop d = IsDiagonal d
Slides Rook d = IsStraight d
Slides Queen d = Unit {0}
Slides King d = ⊥

-- a man of this kind on `from` reaches `to` along a line over empty squares (FIDE article 3.5)
pub record Ray (men : List (Option Piece)) (kind : Kind) (from to : ℕ) : Type 0 where
  pub direction : Direction
  pub distance : ℕ
  pub goes : Slides kind direction
  pub away : 0 < distance
  pub along : Along direction distance from to
  pub clear : IsClear men direction distance from

-- to an adjoining square (FIDE article 3.8.1)
abbrev pub IsKingStep : ℕ → ℕ → Type 0
IsKingStep from to =
    (from ≢ to) × (apart (file_of from) (file_of to) ≤ 1) × (apart (rank_of from) (rank_of to) ≤ 1)

-- to one of the nearest squares not on the same rank, file or diagonal (FIDE article 3.6)
abbrev pub IsKnightStep : ℕ → ℕ → Type 0
IsKnightStep from to =
    ((apart (file_of from) (file_of to) ≡ 1) × (apart (rank_of from) (rank_of to) ≡ 2))
    ⊎ ((apart (file_of from) (file_of to) ≡ 2) × (apart (rank_of from) (rank_of to) ≡ 1))

-- a pawn attacks the two squares diagonally before it (FIDE article 3.7.3)
abbrev pub IsPawnAttack : Side → ℕ → ℕ → Type 0
IsPawnAttack White from to =
    (apart (file_of from) (file_of to) ≡ 1) × (rank_of to ≡ rank_of from + 1)
IsPawnAttack Black from to =
    (apart (file_of from) (file_of to) ≡ 1) × (rank_of to + 1 ≡ rank_of from)

-- a man of this side and kind on `from` attacks `to` (FIDE article 3.1.2)
abbrev pub Reaches : List (Option Piece) → Side → Kind → ℕ → ℕ → Type 0
Reaches men side Pawn from to = IsPawnAttack side from to
Reaches men side Knight from to = IsKnightStep from to
Reaches men side Bishop from to = Ray men Bishop from to
Reaches men side Rook from to = Ray men Rook from to
Reaches men side Queen from to = Ray men Queen from to
Reaches men side King from to = IsKingStep from to

-- some man of this side attacks the square, whether or not it could move there (FIDE article 3.1.3)
pub record IsAttacked (men : List (Option Piece)) (by : Side) (to : ℕ) : Type 0 where
  pub from : ℕ
  pub kind : Kind
  pub on_board : from < 64
  pub stands : man_at men from ≡ Some (record { side = by; kind = kind })
  pub reaches : Reaches men by kind from to

-- a king of this side is attacked: check (FIDE article 3.9.1)
pub record IsInCheck (men : List (Option Piece)) (side : Side) : Type 0 where
  pub king : ℕ
  pub on_board : king < 64
  pub stands : man_at men king ≡ Some (record { side = side; kind = King })
  pub attacked : IsAttacked men (other side) king

-- the direction in which the pawns of a side go (FIDE article 3.7.1)
abbrev pub forward : Side → Direction
forward White = North
forward Black = South
