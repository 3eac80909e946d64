-- Legal moves (FIDE Laws of Chess, article 3): a relation between a position, a move and the position after
-- it, by cases.
use Rattle.std.specs.Prelude.{◌≡◌, ◌≢◌, ℕ, ◌+◌, ◌-◌, ◌<◌, ◌≤◌, ◌⊎◌, ◌==◌, ◌&&◌, Bool, IsTrue, not, min, List, Option, Some, None, is_some, if◌then◌else◌, slice_set, ◌*◌, All, AllPairs, Contains}
use Rattle.board_core.specs.declared.piece.Piece.{Piece}
use Rattle.board_core.specs.declared.piece.Side.{Side}
use Rattle.board_core.specs.declared.piece.Side.TheVariants.{White, Black}
use Rattle.board_core.specs.declared.piece.Kind.{Kind}
use Rattle.board_core.specs.declared.piece.Kind.TheVariants.{Pawn, Knight, Bishop, Rook, Queen, King}
use Rattle.board_core.specs.declared.piece.Promotion.{Promotion}
use Rattle.board_core.specs.declared.piece.Promotion.TheVariants.{Queen as ToQueen, Rook as ToRook, Bishop as ToBishop, Knight as ToKnight}
use Rattle.board_core.specs.declared.piece.Wing.{Wing}
use Rattle.board_core.specs.declared.piece.Wing.TheVariants.{KingSide, QueenSide}
use Rattle.board_core.specs.declared.parts.Rights.{Rights}
use Rattle.board_core.specs.declared.parts.Parts.{Parts}
use Rattle.board_core.specs.declared.moves.Move.{Move}
use Rattle.board_core.specs.declared.moves.MoveCase.{MoveCase}
use Rattle.board_core.specs.declared.moves.MoveCase.TheVariants.{Plain, Advance, DoubleStep, PawnCapture, EnPassant, Castle}
use Rattle.board_core.specs.Side.{other}
use Rattle.board_core.specs.Square.{rank_of}
use Rattle.board_core.specs.Attack.{man_at, Along, IsClear, Reaches, IsPawnAttack, IsAttacked, IsInCheck, forward}
use Rattle.board_core.specs.Castling.{has_right, king_home, rook_home, king_end, rook_end}

-- a man of this side and kind stands on the square
abbrev pub Stands : List (Option Piece) → ℕ → Side → Kind → Type 0
Stands men s side kind = man_at men s ≡ Some (record { side = side; kind = kind })

-- no man of this side stands on the square
abbrev pub IsFree : List (Option Piece) → Side → ℕ → Type 0
IsFree men side s = (kind : Kind) → Stands men s side kind → ⊥

-- a man of this side stands on the square
abbrev pub IsTaken : List (Option Piece) → Side → ℕ → Type 0
IsTaken men side s = (kind : Kind) × Stands men s side kind

-- the rank from which a pawn may go two squares, and the one on which it is promoted (ranks count from 0)
abbrev pub first_rank : Side → ℕ
first_rank White = 1
first_rank Black = 6

abbrev pub last_rank : Side → ℕ
last_rank White = 7
last_rank Black = 0

-- a promotion is named exactly where the pawn reaches its last rank (FIDE article 3.7.3.3)
abbrev pub Promotes : Side → Move → Type 0
Promotes side m = (m.promotion ≡ None → rank_of m.to ≡ last_rank side → ⊥) × ((k : Promotion) → m.promotion ≡ Some k → rank_of m.to ≡ last_rank side)

-- a step or a ray of a man other than a pawn, to a square that is empty or the opponent's (FIDE articles 3.1 to 3.6, 3.8.1)
pub record IsPlain (p : Parts) (m : Move) : Type 0 where
  pub kind : Kind
  pub no_pawn : kind ≢ Pawn
  pub stands : Stands p.men m.from p.side kind
  pub reaches : Reaches p.men p.side kind m.from m.to
  pub free : IsFree p.men p.side m.to
  pub whole : m.promotion ≡ None

-- a pawn goes to the empty square before it (FIDE article 3.7.1)
pub record IsAdvance (p : Parts) (m : Move) : Type 0 where
  pub stands : Stands p.men m.from p.side Pawn
  pub ahead : Along (forward p.side) 1 m.from m.to
  pub empty : man_at p.men m.to ≡ None
  pub promotes : Promotes p.side m

-- or, from where it began, two squares ahead over empty ones (FIDE article 3.7.2)
pub record IsDoubleStep (p : Parts) (m : Move) : Type 0 where
  pub stands : Stands p.men m.from p.side Pawn
  pub home : rank_of m.from ≡ first_rank p.side
  pub ahead : Along (forward p.side) 2 m.from m.to
  pub clear : IsClear p.men (forward p.side) 2 m.from
  pub empty : man_at p.men m.to ≡ None
  pub whole : m.promotion ≡ None

-- a pawn takes a man of the opponent diagonally before it (FIDE article 3.7.3)
pub record IsPawnCapture (p : Parts) (m : Move) : Type 0 where
  pub stands : Stands p.men m.from p.side Pawn
  pub attacks : IsPawnAttack p.side m.from m.to
  pub enemy : IsTaken p.men (other p.side) m.to
  pub promotes : Promotes p.side m

-- a pawn takes one that passed the square by a double step in the move before (FIDE article 3.7.3.1)
pub record IsEnPassant (p : Parts) (m : Move) : Type 0 where
  pub stands : Stands p.men m.from p.side Pawn
  pub attacks : IsPawnAttack p.side m.from m.to
  pub passed : p.en_passant ≡ Some m.to
  pub empty : man_at p.men m.to ≡ None
  pub whole : m.promotion ≡ None

-- the squares strictly between two of one rank, and those from one to the other
abbrev pub IsBetween : ℕ → ℕ → ℕ → Type 0
IsBetween a s b = ((a < s) × (s < b)) ⊎ ((b < s) × (s < a))

abbrev pub IsOnWay : ℕ → ℕ → ℕ → Type 0
IsOnWay a s b = ((a ≤ s) × (s ≤ b)) ⊎ ((b ≤ s) × (s ≤ a))

-- King and rook castle: the right is there, and the squares between them are empty. No square from the king's to its target
-- is attacked (FIDE articles 3.8.2 to 3.8.2.2).
pub record IsCastle (p : Parts) (m : Move) (wing : Wing) : Type 0 where
  pub stands : Stands p.men m.from p.side King
  pub right : IsTrue (has_right p.rights p.side wing)
  pub from_home : m.from ≡ king_home p.side
  pub to_end : m.to ≡ king_end p.side wing
  pub clear : (s : ℕ) → IsBetween (king_home p.side) s (rook_home p.side wing) → man_at p.men s ≡ None
  pub safe : (s : ℕ) → IsOnWay (king_home p.side) s (king_end p.side wing) → IsAttacked p.men (other p.side) s → ⊥
  pub whole : m.promotion ≡ None

-- the rule of each case
abbrev pub IsMove : Parts → Move → MoveCase → Type 0
IsMove p m Plain = IsPlain p m
IsMove p m Advance = IsAdvance p m
IsMove p m DoubleStep = IsDoubleStep p m
IsMove p m PawnCapture = IsPawnCapture p m
IsMove p m EnPassant = IsEnPassant p m
IsMove p m (Castle wing) = IsCastle p m wing

-- what stands on the square after the move: the man that moved, or what the pawn became
abbrev pub promoted_kind : Promotion → Kind
promoted_kind ToQueen = Queen
promoted_kind ToRook = Rook
promoted_kind ToBishop = Bishop
promoted_kind ToKnight = Knight

abbrev pub landed : Side → Option Piece → Option Promotion → Option Piece
landed side man None = man
landed side man (Some k) = Some (record { side = side; kind = promoted_kind k })

-- a man leaves one square and this one stands on another
abbrev pub carried : List (Option Piece) → ℕ → ℕ → Option Piece → List (Option Piece)
carried men from to man = slice_set (slice_set men from None) to man

-- the square behind another, seen from the side that moves
abbrev pub behind : Side → ℕ → ℕ
behind White s = s - 8
behind Black s = s + 8

-- where the men stand after the move
abbrev pub men_after : Parts → Move → MoveCase → List (Option Piece)
men_after p m Plain = carried p.men m.from m.to (man_at p.men m.from)
men_after p m Advance = carried p.men m.from m.to (landed p.side (man_at p.men m.from) m.promotion)
men_after p m DoubleStep = carried p.men m.from m.to (man_at p.men m.from)
men_after p m PawnCapture = carried p.men m.from m.to (landed p.side (man_at p.men m.from) m.promotion)
men_after p m EnPassant = slice_set (carried p.men m.from m.to (man_at p.men m.from)) (behind p.side m.to) None
men_after p m (Castle wing) =
    carried (carried p.men m.from m.to (man_at p.men m.from)) (rook_home p.side wing) (rook_end p.side wing) (Some (record { side = p.side; kind = Rook }))

-- a right is lost when its king or its rook moves, or its rook is taken at home (FIDE article 3.8.2.1)
abbrev pub keeps_right : Parts → Move → Side → Wing → Bool
keeps_right p m side wing =
    has_right p.rights side wing && not (m.from == king_home side) && not (m.from == rook_home side wing) && not (m.to == rook_home side wing)

abbrev pub rights_after : Parts → Move → Rights
rights_after p m = record {
  white_king = keeps_right p m White KingSide;
  white_queen = keeps_right p m White QueenSide;
  black_king = keeps_right p m Black KingSide;
  black_queen = keeps_right p m Black QueenSide;
}

-- a double step sets the square that it passed, and any other move clears it
abbrev pub en_passant_after : Parts → Move → MoveCase → Option ℕ
en_passant_after p m Plain = None
en_passant_after p m Advance = None
en_passant_after p m DoubleStep = Some (behind p.side m.to)
en_passant_after p m PawnCapture = None
en_passant_after p m EnPassant = None
en_passant_after p m (Castle wing) = None

-- a counter goes up to 9999 and stays there
abbrev pub one_more : ℕ → ℕ
one_more n = min (n + 1) 9999

-- the halfmove clock begins anew at a capture or a pawn move (PGN standard, section 16.1.3.5)
abbrev pub halfmove_after : Parts → Move → MoveCase → ℕ
halfmove_after p m Plain = if is_some (man_at p.men m.to) then 0 else one_more p.halfmove
halfmove_after p m Advance = 0
halfmove_after p m DoubleStep = 0
halfmove_after p m PawnCapture = 0
halfmove_after p m EnPassant = 0
halfmove_after p m (Castle wing) = one_more p.halfmove

-- the fullmove number goes up after a move of black (PGN standard, section 16.1.3.6)
abbrev pub fullmove_after : Side → ℕ → ℕ
fullmove_after White n = n
fullmove_after Black n = one_more n

-- the position after a move of this case
unfoldable pub after : Parts → Move → MoveCase → Parts
after p m c = record {
  men = men_after p m c;
  side = other p.side;
  rights = rights_after p m;
  en_passant = en_passant_after p m c;
  halfmove = halfmove_after p m c;
  fullmove = fullmove_after p.side p.fullmove;
}

-- m is a legal move of p, and q is the position after it: some case's rule allows it, and it does not leave
-- the mover's king attacked (FIDE article 3.9.2)
pub record Legal (p : Parts) (m : Move) (q : Parts) : Type 0 where
  pub case : MoveCase
  pub from_board : m.from < 64
  pub to_board : m.to < 64
  pub rule : IsMove p m case
  pub becomes : q ≡ after p m case
  pub safe : IsInCheck q.men p.side → ⊥

-- a legal move has a position after it
abbrev pub IsLegal : Parts → Move → Type 0
IsLegal p m = (q : Parts) × Legal p m q

-- the place of a move in the order of from, to and promotion
abbrev pub promotion_place : Option Promotion → ℕ
promotion_place None = 0
promotion_place (Some ToQueen) = 1
promotion_place (Some ToRook) = 2
promotion_place (Some ToBishop) = 3
promotion_place (Some ToKnight) = 4

abbrev pub place_of : Move → ℕ
place_of m = 320 * m.from + 5 * m.to + promotion_place m.promotion

-- the list has exactly the moves of this kind, each once, in the order of from, to and promotion
pub record Lists (Wanted : Move → Type 0) (moves : List Move) : Type 0 where
  pub ordered : AllPairs (λ a b. place_of a < place_of b) moves
  pub sound : All Wanted moves
  pub complete : (m : Move) → Wanted m → Contains moves m

-- the list has exactly the legal moves, each once and in order
abbrev pub HasLegal : Parts → List Move → Type 0
HasLegal p = Lists (IsLegal p)

-- the move takes a man: one stands on its square, or it is en passant
abbrev pub IsCapture : Parts → Move → Type 0
IsCapture p m = (man_at p.men m.to ≢ None) ⊎ IsEnPassant p m

abbrev pub IsLegalCapture : Parts → Move → Type 0
IsLegalCapture p m = IsLegal p m × IsCapture p m

-- the list has exactly the legal captures, each once and in order
abbrev pub HasLegalCaptures : Parts → List Move → Type 0
HasLegalCaptures p = Lists (IsLegalCapture p)

abbrev pub IsLegalPawnMove : Parts → Move → Type 0
IsLegalPawnMove p m = IsLegal p m × Stands p.men m.from p.side Pawn

-- the list has exactly the legal moves of pawns, each once and in order
abbrev pub HasLegalPawnMoves : Parts → List Move → Type 0
HasLegalPawnMoves p = Lists (IsLegalPawnMove p)
