-- What the search for attacks and for legal moves says of its steps; no public contract cites these.
use Rattle.std.specs.Prelude.{◌≡◌, ℕ, Bool, true, false, ◌+◌, ◌<◌, ◌≤◌, IsTrue, List, Option, Some, None, slice_set, All, AllPairs, Contains, IfSome}
use Rattle.board_core.specs.declared.piece.Piece.{Piece}
use Rattle.board_core.specs.declared.piece.Side.{Side}
use Rattle.board_core.specs.declared.piece.Kind.{Kind}
use Rattle.board_core.specs.declared.piece.Kind.TheVariants.{Pawn, Knight, King}
use Rattle.board_core.specs.declared.piece.Promotion.{Promotion}
use Rattle.board_core.specs.declared.parts.Parts.{Parts}
use Rattle.board_core.specs.declared.moves.Move.{Move}
use Rattle.board_core.specs.declared.generation.Guard.{Guard}
use Rattle.board_core.specs.declared.moves.MoveCase.{MoveCase}
use Rattle.board_core.specs.declared.moves.MoveCase.TheVariants.{Plain, Advance, DoubleStep, PawnCapture, EnPassant, Castle}
use Rattle.board_core.specs.Side.{other}
use Rattle.board_core.specs.Square.{rank_of}
use Rattle.board_core.specs.Attack.{man_at, Along, IsClear, Reaches, IsAttacked, IsInCheck}
use Rattle.std.specs.Int.{bit_at}
use Rattle.board_core.specs.declared.generation.Which.{Which}
use Rattle.board_core.specs.declared.generation.Which.TheVariants.{Every, Captures, Pawns}
use Rattle.board_core.specs.declared.generation.Survey.{Survey}
use Rattle.board_core.specs.Moves.{Stands, IsFree, IsTaken, IsLegal, IsMove, IsEnPassant, IsCapture, IsLegalCapture, men_after, place_of}
use Rattle.board_core.specs.declared.mobility.Sought.{Sought}
use Rattle.board_core.specs.declared.mobility.Sought.TheVariants.{Any, BesidesEnPassant}
use Rattle.board_core.specs.Square.{file_of}
use Rattle.board_core.specs.declared.attack.Direction.{Direction}
use Rattle.board_core.specs.declared.attack.Direction.TheVariants.{North, South, East, West, NorthEast, NorthWest, SouthEast, SouthWest}
use Rattle.board_core.specs.declared.attack.KnightStep.{KnightStep}
use Rattle.board_core.specs.declared.attack.KnightStep.TheVariants.{EastEastNorth, EastEastSouth, EastNorthNorth, EastSouthSouth, WestWestNorth, WestWestSouth, WestNorthNorth, WestSouthSouth}

-- a man of this side, the first that is seen from `to` in this direction, attacks `to`
pub record IsAttackedAlong (men : List (Option Piece)) (by : Side) (direction : Direction) (to : ℕ) : Type 0 where
  pub from : ℕ
  pub kind : Kind
  pub distance : ℕ
  pub on_board : from < 64
  pub away : 0 < distance
  pub along : Along direction distance to from
  pub clear : IsClear men direction distance to
  pub stands : man_at men from ≡ Some (record { side = by; kind = kind })
  pub reaches : Reaches men by kind from to

-- a man of this side stands on `from` and attacks `to`
pub record AttacksTo (men : List (Option Piece)) (by : Side) (to from : ℕ) : Type 0 where
  pub kind : Kind
  pub stands : man_at men from ≡ Some (record { side = by; kind = kind })
  pub reaches : Reaches men by kind from to

-- the eight steps of a knight
abbrev pub IsKnightStepBy : KnightStep → ℕ → ℕ → Type 0
IsKnightStepBy EastEastNorth from to = (file_of to ≡ file_of from + 2) × (rank_of to ≡ rank_of from + 1)
IsKnightStepBy EastEastSouth from to = (file_of to ≡ file_of from + 2) × (rank_of to + 1 ≡ rank_of from)
IsKnightStepBy EastNorthNorth from to = (file_of to ≡ file_of from + 1) × (rank_of to ≡ rank_of from + 2)
IsKnightStepBy EastSouthSouth from to = (file_of to ≡ file_of from + 1) × (rank_of to + 2 ≡ rank_of from)
IsKnightStepBy WestWestNorth from to = (file_of to + 2 ≡ file_of from) × (rank_of to ≡ rank_of from + 1)
IsKnightStepBy WestWestSouth from to = (file_of to + 2 ≡ file_of from) × (rank_of to + 1 ≡ rank_of from)
IsKnightStepBy WestNorthNorth from to = (file_of to + 1 ≡ file_of from) × (rank_of to ≡ rank_of from + 2)
IsKnightStepBy WestSouthSouth from to = (file_of to + 1 ≡ file_of from) × (rank_of to + 2 ≡ rank_of from)

-- a knight of this side attacks `to` from there
pub record IsAttackedByKnight (men : List (Option Piece)) (by : Side) (knight_step : KnightStep) (to : ℕ) : Type 0 where
  pub from : ℕ
  pub on_board : from < 64
  pub step : IsKnightStepBy knight_step to from
  pub stands : man_at men from ≡ Some (record { side = by; kind = Knight })

-- k squares on in this direction there still is a square
abbrev pub IsInside : Direction → ℕ → ℕ → Type 0
IsInside North k from = rank_of from + k < 8
IsInside South k from = k ≤ rank_of from
IsInside East k from = file_of from + k < 8
IsInside West k from = k ≤ file_of from
IsInside NorthEast k from = (file_of from + k < 8) × (rank_of from + k < 8)
IsInside NorthWest k from = (k ≤ file_of from) × (rank_of from + k < 8)
IsInside SouthEast k from = (file_of from + k < 8) × (k ≤ rank_of from)
IsInside SouthWest k from = (k ≤ file_of from) × (k ≤ rank_of from)

-- by how much the numbers of a square and of the next in this direction differ, and whether they rise
abbrev pub stride : Direction → ℕ
stride North = 8
stride South = 8
stride East = 1
stride West = 1
stride NorthEast = 9
stride NorthWest = 7
stride SouthEast = 7
stride SouthWest = 9

abbrev pub rises : Direction → Bool
rises North = true
rises South = false
rises East = true
rises West = false
rises NorthEast = true
rises NorthWest = true
rises SouthEast = false
rises SouthWest = false

-- a move that is asked for: any move, a capture, or a move of a pawn
abbrev pub IsWantedMove : Which → Parts → Move → Type 0
IsWantedMove Every p m = Unit {0}
IsWantedMove Captures p m = IsCapture p m
IsWantedMove Pawns p m = Stands p.men m.from p.side Pawn

abbrev pub IsListed : Which → Parts → Move → Type 0
IsListed which p m = IsLegal p m × IsWantedMove which p m

-- the list has exactly the legal moves asked for whose place is below n, each once and in order
pub record HasListedBelow (p : Parts) (which : Which) (n : ℕ) (moves : List Move) : Type 0 where
  pub ordered : AllPairs (λ a b. place_of a < place_of b) moves
  pub below : All (λ m. place_of m < n) moves
  pub sound : All (IsListed which p) moves
  pub complete : (m : Move) → IsListed which p m → place_of m < n → Contains moves m

-- a king of this side stands on no other square
abbrev pub IsOnlyKing : List (Option Piece) → Side → ℕ → Type 0
IsOnlyKing men side k = (s : ℕ) → s < 64 → Stands men s side King → s ≡ k

-- what is known of where the men stand
pub record IsSurvey (p : Parts) (v : Survey) : Type 0 where
  pub own : (s : ℕ) → s < 64 → IsTaken p.men p.side s → bit_at v.own s ≡ 1
  pub enemy : (s : ℕ) → s < 64 → IsTaken p.men (other p.side) s → bit_at v.enemy s ≡ 1
  pub enemy_only : (s : ℕ) → bit_at v.enemy s ≡ 1 → IsTaken p.men (other p.side) s
  pub only : IsOnlyKing p.men p.side v.king
  pub stands : Stands p.men v.king p.side King

-- the men without the one on this square
abbrev pub emptied : List (Option Piece) → ℕ → List (Option Piece)
emptied men s = slice_set men s None

-- the set has each square on which a man of the other side could take, were it not for our own men there
abbrev pub HasAttacked : List (Option Piece) → Side → ℕ → Type 0
HasAttacked men side set = (t : ℕ) → t < 64 → IsFree men side t → IsAttacked men (other side) t → bit_at set t ≡ 1

-- the attacked squares, where they were worked out, with our king's square bare
abbrev pub IsKnown : Parts → Survey → Option ℕ → Type 0
IsKnown p v attacked = IfSome attacked (HasAttacked (emptied p.men v.king) p.side)

-- what is known of the king of the side that moves
pub record IsGuard (p : Parts) (g : Guard) : Type 0 where
  pub enemy : (s : ℕ) → s < 64 → IsTaken p.men (other p.side) s → bit_at g.enemy s ≡ 1
  pub only : IsOnlyKing p.men p.side g.king
  pub out_of_check : IsTrue g.out_of_check → IsAttacked p.men (other p.side) g.king → ⊥
  pub attacked : HasAttacked (emptied p.men g.king) p.side g.attacked

-- the cases in which one man goes from one square to the other, and nothing else changes
abbrev pub IsCarry : MoveCase → Type 0
IsCarry Plain = Unit {0}
IsCarry Advance = Unit {0}
IsCarry DoubleStep = Unit {0}
IsCarry PawnCapture = Unit {0}
IsCarry EnPassant = ⊥
IsCarry (Castle wing) = ⊥

-- whatever goes alone from this square leaves its king unattacked
abbrev pub IsUnpinned : Parts → ℕ → Type 0
IsUnpinned p from = (m : Move) (c : MoveCase) → m.from ≡ from → m.to < 64 → IsMove p m c → IsCarry c
    → IsInCheck (men_after p m c) p.side → ⊥

-- a piece may go from this square to that one, leaving its king's safety aside
pub record IsStep (p : Parts) (which : Which) (kind : Kind) (from to : ℕ) : Type 0 where
  pub reaches : Reaches p.men p.side kind from to
  pub free : IsFree p.men p.side to
  pub wanted : IsWantedMove which p (record { from = from; to = to; promotion = None })

-- a line over empty squares leads in this direction to the square, where no man of this side stands
pub record IsRayEnd (men : List (Option Piece)) (side : Side) (direction : Direction) (from to : ℕ) : Type 0 where
  pub distance : ℕ
  pub away : 0 < distance
  pub along : Along direction distance from to
  pub clear : IsClear men direction distance from
  pub free : IsFree men side to

-- a move that is sought: any move, or one other than en passant
abbrev pub IsSought : Sought → Parts → Move → Type 0
IsSought Any p m = Unit {0}
IsSought BesidesEnPassant p m = IsEnPassant p m → ⊥

-- some legal move that is sought goes from one square to the other, and from a square to any
abbrev pub MayGo : Parts → Sought → ℕ → ℕ → Type 0
MayGo p sought from to =
    (promotion : Option Promotion) × IsLegal p (record { from = from; to = to; promotion = promotion }) × IsSought sought p (record { from = from; to = to; promotion = promotion })

abbrev pub MayLeave : Parts → Sought → ℕ → Type 0
MayLeave p sought from = (to : ℕ) × MayGo p sought from to

-- the place at which the moves after this one begin
abbrev pub start_of : Option Move → ℕ
start_of None = 0
start_of (Some last) = place_of last + 1

-- a legal capture at this place or later
abbrev pub IsLaterCapture : Parts → ℕ → Move → Type 0
IsLaterCapture p start m = IsLegalCapture p m × (start ≤ place_of m)

abbrev pub IsLaterFrom : Parts → ℕ → ℕ → Move → Type 0
IsLaterFrom p start from m = IsLaterCapture p start m × (m.from ≡ from)

abbrev pub IsLaterBetween : Parts → ℕ → ℕ → ℕ → Move → Type 0
IsLaterBetween p start from to m = IsLaterFrom p start from m × (m.to ≡ to)

-- a move at this place or later that is a capture if it is legal
pub record IsCandidate (p : Parts) (start : ℕ) (m : Move) : Type 0 where
  pub from_board : m.from < 64
  pub to_board : m.to < 64
  pub takes : IsCapture p m
  pub later : start ≤ place_of m

-- a candidate, before which none of these moves comes
pub record IsFirstCandidate (p : Parts) (start : ℕ) (Wanted : Move → Type 0) (m : Move) : Type 0 where
  pub candidate : IsCandidate p start m
  pub first : (x : Move) → Wanted x → place_of m ≤ place_of x
