use Rattle.std.proofs.Common.{sym, ◌∙◌, ℕ, ◌≡◌, ◌<◌, ◌≤◌, ◌+◌, ◌*◌, ◌++◌, ◌∷◌, [], List, Option, Some, None, length, arith, inl, inr, refl}
use Rattle.std.specs.Prelude.{All, AllPairs}
use Rattle.std.proofs.lemmas.List.Elements.{All-push, Contains-append_left, Contains-push}
use Rattle.std.proofs.lemmas.List.{get_or_append_left, get_or_push, length_push}
use Rattle.std.proofs.lemmas.Bool.{cases_lt}
use Rattle.board_core.specs.Inside.Search.{HasListedBelow, IsListed}
use Rattle.board_core.specs.declared.generation.Which.{Which}
use Rattle.board_core.specs.declared.generation.Which.TheVariants.{Every}
use Rattle.board_core.specs.declared.parts.Parts.{Parts}
use Rattle.board_core.specs.declared.moves.Move.{Move}
use Rattle.board_core.specs.declared.piece.Piece.{Piece}
use Rattle.board_core.specs.declared.piece.Side.{Side}
use Rattle.board_core.specs.declared.piece.Side.TheVariants.{White}
use Rattle.board_core.specs.declared.piece.Promotion.{Promotion}
use Rattle.board_core.specs.declared.piece.Promotion.TheVariants.{Queen, Rook, Bishop, Knight}
use Rattle.board_core.specs.declared.piece.Kind.TheVariants.{Pawn, King}
use Rattle.board_core.specs.declared.moves.MoveCase.{MoveCase}
use Rattle.board_core.specs.declared.moves.MoveCase.TheVariants.{Plain, Advance, DoubleStep, PawnCapture, EnPassant, Castle}
use Rattle.board_core.specs.Square.{rank_of}
use Rattle.board_core.specs.Moves.{IsLegal, IsMove, IsTaken, Stands, last_rank, promotion_place, place_of, HasLegal, Lists}

pub promotion_below : (o : Option Promotion) → promotion_place o < 5
promotion_below None = omega arith
promotion_below (Some Queen) = omega arith
promotion_below (Some Rook) = omega arith
promotion_below (Some Bishop) = omega arith
promotion_below (Some Knight) = omega arith

mover_stands : (p : Parts) (m : Move) (c : MoveCase) → IsMove p m c → IsTaken p.men p.side m.from
mover_stands p m Plain r = (r.kind, r.stands)
mover_stands p m Advance r = (Pawn, r.stands)
mover_stands p m DoubleStep r = (Pawn, r.stands)
mover_stands p m PawnCapture r = (Pawn, r.stands)
mover_stands p m EnPassant r = (Pawn, r.stands)
mover_stands p m (Castle wing) r = (King, r.stands)

abbrev pub make : ℕ → ℕ → Option Promotion → Move
make f t k = record { from = f; to = t; promotion = k }

same_promotion : (a b : Option Promotion) → promotion_place a ≡ promotion_place b → a ≡ b
same_promotion None None e = refl
same_promotion None (Some Queen) e = absurd (omega arith)
same_promotion None (Some Rook) e = absurd (omega arith)
same_promotion None (Some Bishop) e = absurd (omega arith)
same_promotion None (Some Knight) e = absurd (omega arith)
same_promotion (Some Queen) None e = absurd (omega arith)
same_promotion (Some Queen) (Some Queen) e = refl
same_promotion (Some Queen) (Some Rook) e = absurd (omega arith)
same_promotion (Some Queen) (Some Bishop) e = absurd (omega arith)
same_promotion (Some Queen) (Some Knight) e = absurd (omega arith)
same_promotion (Some Rook) None e = absurd (omega arith)
same_promotion (Some Rook) (Some Queen) e = absurd (omega arith)
same_promotion (Some Rook) (Some Rook) e = refl
same_promotion (Some Rook) (Some Bishop) e = absurd (omega arith)
same_promotion (Some Rook) (Some Knight) e = absurd (omega arith)
same_promotion (Some Bishop) None e = absurd (omega arith)
same_promotion (Some Bishop) (Some Queen) e = absurd (omega arith)
same_promotion (Some Bishop) (Some Rook) e = absurd (omega arith)
same_promotion (Some Bishop) (Some Bishop) e = refl
same_promotion (Some Bishop) (Some Knight) e = absurd (omega arith)
same_promotion (Some Knight) None e = absurd (omega arith)
same_promotion (Some Knight) (Some Queen) e = absurd (omega arith)
same_promotion (Some Knight) (Some Rook) e = absurd (omega arith)
same_promotion (Some Knight) (Some Bishop) e = absurd (omega arith)
same_promotion (Some Knight) (Some Knight) e = refl

-- two moves on the board with one place are one move
same_move : (f f' t t' : ℕ) (k k' : Option Promotion) → f ≡ f' → t ≡ t' → k ≡ k' → make f t k ≡ make f' t' k'
same_move f f' t t' k k' p q r = cc

pub same_place : (a b : Move) → a.to < 64 → b.to < 64 → place_of a ≡ place_of b → a ≡ b
same_place a b la lb e =
    let ka = promotion_below a.promotion in
    let kb = promotion_below b.promotion in
    let from : a.from ≡ b.from = omega arith in
    let to : a.to ≡ b.to = omega arith in
    let kind : a.promotion ≡ b.promotion = same_promotion _ _ (omega arith) in
    same_move _ _ _ _ _ _ from to kind

-- there is no legal move from place a up to b
pub HasListedBelow-skip : (p : Parts) (which : Which) (a b : ℕ) (moves : List Move) → HasListedBelow p which a moves → a ≤ b → ((m : Move) → IsListed which p m → a ≤ place_of m → place_of m < b → ⊥) → HasListedBelow p which b moves
HasListedBelow-skip p which a b moves h le none = record {
  ordered = h.ordered;
  below = λ k d l. omega (arith, h.below k d l);
  sound = h.sound;
  complete = λ m l lt. elim (cases_lt (place_of m) a) [ inl x ↦ h.complete m l x | inr y ↦ absurd (none m l y lt) ];
}

AllPairs-push : {X : Type 0} (R : X → X → Type 0) (xs : List X) (y : X) → AllPairs R xs → All (λ x. R x y) xs → AllPairs R (xs ++ y ∷ [])
AllPairs-push R xs y h before = λ i j d lt within.
    let n : j < length xs + 1 = omega (arith, length_push xs y) in
    let old : i < length xs = omega arith in
    elim (cases_lt j (length xs)) [
      | inl x ↦ rw (get_or_append_left xs (y ∷ []) d i old, get_or_append_left xs (y ∷ []) d j x) (h i j d lt x)
      | inr x ↦ rw (get_or_append_left xs (y ∷ []) d i old, get_or_push xs y d j (omega arith)) (before i d old)
    ]

pub HasListedBelow-push : (p : Parts) (which : Which) (m : Move) (moves : List Move) → HasListedBelow p which (place_of m) moves → IsListed which p m → HasListedBelow p which (place_of m + 1) (moves ++ m ∷ [])
HasListedBelow-push p which m moves h legal = record {
  ordered = AllPairs-push (λ a b. place_of a < place_of b) moves m h.ordered h.below;
  below = All-push (λ a. place_of a < place_of m + 1) moves m (λ k d l. omega (arith, h.below k d l)) (omega arith);
  sound = All-push (IsListed which p) moves m h.sound legal;
  complete = λ a l lt. elim (cases_lt (place_of a) (place_of m)) [
    | inl x ↦ Contains-append_left moves _ a (h.complete a l x)
    | inr y ↦
        let e : a ≡ m = same_place a m l.0.1.to_board legal.0.1.to_board (omega arith) in
        rw e (Contains-push moves m)
  ];
}

-- a legal move is one of a man of the side that moves
pub IsLegal-stands : (p : Parts) (m : Move) → IsLegal p m → IsTaken p.men p.side m.from
IsLegal-stands p m l = mover_stands p m l.1.case l.1.rule

-- legal moves between these places are moves from this square
pub IsLegal-from : (p : Parts) (m : Move) (s : ℕ) → IsLegal p m → 320 * s ≤ place_of m → place_of m < 320 * (s + 1) → m.from ≡ s
IsLegal-from p m s l low high =
    let k = promotion_below m.promotion in
    omega (arith, l.1.to_board)

-- a list of the moves below the last place has all of them
pub Lists-all : (p : Parts) (which : Which) (n : ℕ) (moves : List Move) → HasListedBelow p which n moves → 20480 ≤ n → Lists (IsListed which p) moves
Lists-all p which n moves h all = record {
  ordered = h.ordered;
  sound = h.sound;
  complete = λ m l. let k = promotion_below m.promotion in h.complete m l (omega (arith, l.0.1.to_board, l.0.1.from_board));
}

-- each legal move is asked for where every one is
pub Lists-every : (p : Parts) (moves : List Move) → Lists (IsListed Every p) moves → HasLegal p moves
Lists-every p moves h = record {
  ordered = h.ordered;
  sound = λ k d lt. (h.sound k d lt).0;
  complete = λ m l. h.complete m (l, tt);
}

-- a legal move with a promotion is a pawn's to its last rank
pub promotes_pawn : (p : Parts) (m : Move) (c : MoveCase) (k : Promotion) → IsMove p m c → m.promotion ≡ Some k → Stands p.men m.from p.side Pawn × (rank_of m.to ≡ last_rank p.side)
promotes_pawn p m Plain k r e = absurd (let f = sym r.whole ∙ e in cc)
promotes_pawn p m Advance k r e = (r.stands, r.promotes.1 k e)
promotes_pawn p m DoubleStep k r e = absurd (let f = sym r.whole ∙ e in cc)
promotes_pawn p m PawnCapture k r e = (r.stands, r.promotes.1 k e)
promotes_pawn p m EnPassant k r e = absurd (let f = sym r.whole ∙ e in cc)
promotes_pawn p m (Castle wing) k r e = absurd (let f = sym r.whole ∙ e in cc)

promotion_some : (o : Option Promotion) → 0 < promotion_place o → (k : Promotion) × (o ≡ Some k)
promotion_some None h = absurd (omega arith)
promotion_some (Some k) h = (k, refl)

-- between two squares there is no promotion, but of a pawn to its last rank
pub IsLegal-promotion : (p : Parts) (m : Move) (from to : ℕ) → IsLegal p m → to < 64 → 320 * from + 5 * to + 0 + 1 ≤ place_of m → place_of m < 320 * from + 5 * (to + 1) → Stands p.men from p.side Pawn × (rank_of to ≡ last_rank p.side)
IsLegal-promotion p m from to l lt low high =
    let below = promotion_below m.promotion in
    let e : m.from ≡ from = omega (arith, l.1.to_board) in
    let f : m.to ≡ to = omega (arith, l.1.to_board) in
    let k = promotion_some m.promotion (omega arith) in
    let h = promotes_pawn p m l.1.case k.0 l.1.rule k.1 in
    rw (e, f) at h

abbrev pub side_on : Option Piece → Side
side_on None = White
side_on (Some man) = man.side
