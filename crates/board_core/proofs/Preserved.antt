use Rattle.std.proofs.Common.{ℕ, ◌≡◌, ◌≢◌, ◌<◌, ◌≤◌, ◌+◌, ◌⊎◌, List, Option, Some, None, Bool, true, false, cond, length, set, get_or, refl, sym, ap, ◌∙◌, arith, inl, inr, get_or-set_other, get_or-set_same}
use Rattle.std.specs.Prelude.{sum_by, count_by, IsTrue, ◌&&◌, ◌==◌, not, is_some}
use Rattle.std.proofs.lemmas.List.Sums.{sum_by-set}
use Rattle.std.proofs.Math.ListN.{length-set}
use Rattle.std.proofs.lemmas.Bool.Decides.{nat_tests}
use Rattle.std.proofs.lemmas.Bool.{cases_eq, cases_Bool}
use Rattle.board_core.specs.declared.piece.Piece.{Piece}
use Rattle.board_core.specs.declared.piece.Side.{Side}
use Rattle.board_core.specs.declared.piece.Side.TheVariants.{White, Black}
use Rattle.board_core.specs.declared.piece.Kind.{Kind}
use Rattle.board_core.specs.declared.piece.Kind.TheVariants.{Pawn, Knight, Bishop, Rook, Queen, King}
use Rattle.board_core.specs.declared.piece.Promotion.{Promotion}
use Rattle.board_core.specs.declared.piece.Promotion.TheVariants.{Queen as ToQueen, Rook as ToRook, Bishop as ToBishop, Knight as ToKnight}
use Rattle.board_core.specs.declared.parts.Parts.{Parts}
use Rattle.board_core.specs.declared.moves.Move.{Move}
use Rattle.board_core.specs.declared.moves.MoveCase.{MoveCase}
use Rattle.board_core.specs.declared.moves.MoveCase.TheVariants.{Plain, Advance, DoubleStep, PawnCapture, EnPassant, Castle}
use Rattle.board_core.specs.declared.piece.Wing.{Wing}
use Rattle.board_core.specs.declared.piece.Wing.TheVariants.{KingSide, QueenSide}
use Rattle.board_core.specs.Square.{rank_of}
use Rattle.board_core.specs.Castling.{has_right, king_home, rook_home, king_end, rook_end}
use Rattle.board_core.specs.Side.{other}
use Rattle.board_core.specs.Attack.{man_at, Reaches, IsInCheck, IsPawnAttack, Along, forward}
use Rattle.board_core.specs.Moves.{Legal, IsMove, IsTaken, after, men_after, carried, landed, behind, Stands, IsFree, IsBetween, first_rank, last_rank, rights_after, keeps_right, one_more, halfmove_after, fullmove_after}
use Rattle.board_core.specs.Position.{IsPosition, is_of, is_king_of, is_king, is_same_side, IsRightValid, HasValidRights, passed_rank, HasNoPawnOnEdge, HasValidEnPassant}

abbrev some_man : Side → Kind → Option Piece
some_man side what = Some (record { side = side; kind = what })

other-other : (s : Side) → other (other s) ≡ s
other-other White = refl
other-other Black = refl

-- what a sum over the men is after a man is carried to another square
pub carried_sum : (w : Option Piece → ℕ) (men : List (Option Piece)) (from to : ℕ) (man : Option Piece) → w None ≡ 0 → length men ≡ 64 → from < 64 → to < 64 → from ≢ to → sum_by w (carried men from to man) + w (man_at men from) + w (man_at men to) ≡ sum_by w men + w man
carried_sum w men from to man none len lf lt ne =
    let a : from < length men = omega arith in
    let emptied : sum_by w (set men from None) + w (get_or men from None) ≡ sum_by w men + w None = sum_by-set w men from None None a in
    let b : to < length (set men from None) = omega (arith, length-set {A = Option Piece}) in
    let placed : sum_by w (set (set men from None) to man) + w (get_or (set men from None) to None) ≡ sum_by w (set men from None) + w man = sum_by-set w (set men from None) to man None b in
    let back : to ≢ from = λ e. ne (sym e) in
    let same : get_or (set men from None) to None ≡ get_or men to None = rw get_or-set_other refl in
    omega (arith, ap w same)

-- what stands on a square after a man is carried
carried_at_to : (men : List (Option Piece)) (from to : ℕ) (man : Option Piece) → length men ≡ 64 → to < 64 → man_at (carried men from to man) to ≡ man
carried_at_to men from to man len lt =
    let b : to < length (set men from None) = omega (arith, length-set {A = Option Piece}) in
    rw get_or-set_same refl

carried_at_from : (men : List (Option Piece)) (from to : ℕ) (man : Option Piece) → length men ≡ 64 → from < 64 → from ≢ to → man_at (carried men from to man) from ≡ None
carried_at_from men from to man len lf ne =
    let a : from < length men = omega arith in
    rw get_or-set_other (rw get_or-set_same refl)

pub carried_elsewhere : (men : List (Option Piece)) (from to s : ℕ) (man : Option Piece) → s ≢ from → s ≢ to → man_at (carried men from to man) s ≡ man_at men s
carried_elsewhere men from to s man nf nt = rw get_or-set_other (rw get_or-set_other refl)

same_side_true : (s t : Side) → is_same_side s t ≡ true → t ≡ s
same_side_true White White e = refl
same_side_true White Black e = cc
same_side_true Black White e = cc
same_side_true Black Black e = refl

is_king_true : (k : Kind) → is_king k ≡ true → k ≡ King
is_king_true Pawn e = cc
is_king_true Knight e = cc
is_king_true Bishop e = cc
is_king_true Rook e = cc
is_king_true Queen e = cc
is_king_true King e = refl

and_true : (a b : Bool) → (a && b) ≡ true → (a ≡ true) × (b ≡ true)
and_true true b e = (refl, e)
and_true false b e = (cc, cc)

same_man : (a b : Side) (k l : Kind) → a ≡ b → k ≡ l → some_man a k ≡ some_man b l
same_man a b k l e f = cc

-- where the test for a king passes, that king stands
king_there : (s : Side) (o : Option Piece) → is_king_of s o ≡ true → o ≡ some_man s King
king_there s None e = cc
king_there s (Some man) e =
    let b = and_true _ _ e in
    same_man man.side s man.kind King (same_side_true s man.side b.0) (is_king_true man.kind b.1)

pub side_cases : (a b : Side) → (b ≡ a) ⊎ (b ≡ other a)
side_cases White White = inl refl
side_cases White Black = inr refl
side_cases Black White = inr refl
side_cases Black Black = inl refl

-- the side that moves attacks no king
no_king : (p : Parts) (from to : ℕ) (what : Kind) → IsPosition p → from < 64 → to < 64 → Stands p.men from p.side what → Reaches p.men p.side what from to → IsFree p.men p.side to → (s : Side) → Stands p.men to s King → ⊥
no_king p from to what i lf lt stands reaches free s e = elim (side_cases p.side s) [
  | inl x ↦ free King (rw x at e)
  | inr x ↦ i.quiet (record {
    king = to;
    on_board = lt;
    stands = rw x at e;
    attacked = rw other-other (record { from = from; kind = what; on_board = lf; stands = stands; reaches = reaches });
  })
]

abbrev weight : Bool → ℕ
weight b = cond b 1 0

weight_zero : (b : Bool) → (b ≡ true → ⊥) → weight b ≡ 0
weight_zero true h = absurd (h refl)
weight_zero false h = refl

abbrev side_on : Option Piece → Side
side_on None = White
side_on (Some man) = man.side

abbrev kind_on : Option Piece → Kind
kind_on None = Pawn
kind_on (Some man) = man.kind

-- a man of the other side is no man of this one
pub taken_free : (men : List (Option Piece)) (side : Side) (s : ℕ) → IsTaken men (other side) s → IsFree men side s
taken_free men White s t k e = let f : Black ≡ White = ap side_on (sym t.1 ∙ e) in cc
taken_free men Black s t k e = let f : White ≡ Black = ap side_on (sym t.1 ∙ e) in cc

-- what a move does to the numbers of men and kings
pub record Keeps (men after : List (Option Piece)) : Type 0 where
  pub kings : (s : Side) → count_by (is_king_of s) after ≡ count_by (is_king_of s) men
  pub few : (s : Side) → count_by (is_of s) after ≤ count_by (is_of s) men
  pub squares : length after ≡ length men

-- a man that is no other side's and no new king goes where no king stands
Keeps-carried : (men : List (Option Piece)) (from to : ℕ) (man : Option Piece) → length men ≡ 64 → from < 64 → to < 64 → from ≢ to → ((s : Side) → is_king_of s man ≡ is_king_of s (man_at men from)) → ((s : Side) → is_of s man ≡ is_of s (man_at men from)) → ((s : Side) → Stands men to s King → ⊥) → Keeps men (carried men from to man)
Keeps-carried men from to man len lf lt ne king of free = record {
  kings = λ s.
      let sum = carried_sum (λ o. weight (is_king_of s o)) men from to man refl len lf lt ne in
      let none = weight_zero (is_king_of s (man_at men to)) (λ e. free s (king_there s _ e)) in
      let same = ap weight (king s) in
      omega arith;
  few = λ s.
      let sum = carried_sum (λ o. weight (is_of s o)) men from to man refl len lf lt ne in
      let same = ap weight (of s) in
      omega arith;
  squares = simp length-set;
}

landed_king : (s side : Side) (o : Option Promotion) → is_king_of s (landed side (some_man side Pawn) o) ≡ is_king_of s (some_man side Pawn)
landed_king s side None = refl
landed_king s side (Some ToQueen) = refl
landed_king s side (Some ToRook) = refl
landed_king s side (Some ToBishop) = refl
landed_king s side (Some ToKnight) = refl

landed_of : (s side : Side) (o : Option Promotion) → is_of s (landed side (some_man side Pawn) o) ≡ is_of s (some_man side Pawn)
landed_of s side None = refl
landed_of s side (Some k) = refl

empty_no_king : (men : List (Option Piece)) (to : ℕ) → man_at men to ≡ None → (s : Side) → Stands men to s King → ⊥
empty_no_king men to e s st = let f = sym e ∙ st in cc

ne_by_man : (men : List (Option Piece)) (a b : ℕ) (side : Side) (what : Kind) → Stands men a side what → (Stands men b side what → ⊥) → a ≢ b
ne_by_man men a b side what st other_man e = other_man (rw e at st)

Keeps-trans : (a b c : List (Option Piece)) → Keeps a b → Keeps b c → Keeps a c
Keeps-trans a b c h k = record {
  kings = λ s. k.kings s ∙ h.kings s;
  few = λ s. omega (arith, h.few s, k.few s);
  squares = k.squares ∙ h.squares;
}

-- a man that is no king is taken off
Keeps-removed : (men : List (Option Piece)) (at : ℕ) → length men ≡ 64 → at < 64 → ((s : Side) → Stands men at s King → ⊥) → Keeps men (set men at None)
Keeps-removed men at len lt free = record {
  kings = λ s.
      let a : at < length men = omega arith in
      let sum = sum_by-set (λ o. weight (is_king_of s o)) men at None None a in
      let none = weight_zero (is_king_of s (man_at men at)) (λ e. free s (king_there s _ e)) in
      omega arith;
  few = λ s.
      let a : at < length men = omega arith in
      let sum = sum_by-set (λ o. weight (is_of s o)) men at None None a in
      omega arith;
  squares = simp length-set;
}

pawn_no_king : (men : List (Option Piece)) (at : ℕ) (side : Side) (what : Kind) → (what ≢ King) → Stands men at side what → (s : Side) → Stands men at s King → ⊥
pawn_no_king men at side what ne p s k = ne (ap kind_on (sym p ∙ k))

pub behind_below : (side : Side) (s : ℕ) → s < 64 → rank_of s ≡ passed_rank side → behind side s < 64
behind_below White s l e = omega arith
behind_below Black s l e = omega arith

pawn_king : Pawn ≢ King
pawn_king e = cc

rook_pawn : Rook ≢ Pawn
rook_pawn e = cc

rook_king : Rook ≢ King
rook_king e = cc

-- the squares of a castling
pub record Way (side : Side) (wing : Wing) : Type 0 where
  pub king_on : king_home side < 64
  pub rook_on : rook_home side wing < 64
  pub king_to : king_end side wing < 64
  pub rook_to : rook_end side wing < 64
  pub between : IsBetween (king_home side) (king_end side wing) (rook_home side wing)
  pub rook_between : IsBetween (king_home side) (rook_end side wing) (rook_home side wing)
  pub apart : king_home side ≢ king_end side wing
  pub rook_apart : rook_home side wing ≢ rook_end side wing
  pub rook_king : rook_home side wing ≢ king_home side
  pub rook_king_end : rook_home side wing ≢ king_end side wing
  pub end_king : rook_end side wing ≢ king_home side
  pub end_king_end : rook_end side wing ≢ king_end side wing

pub way : (side : Side) (wing : Wing) → Way side wing
way White KingSide = record { king_on = omega arith; rook_on = omega arith; king_to = omega arith; rook_to = omega arith; between = inl (omega arith, omega arith); rook_between = inl (omega arith, omega arith); apart = omega arith; rook_apart = omega arith; rook_king = omega arith; rook_king_end = omega arith; end_king = omega arith; end_king_end = omega arith }
way White QueenSide = record { king_on = omega arith; rook_on = omega arith; king_to = omega arith; rook_to = omega arith; between = inr (omega arith, omega arith); rook_between = inr (omega arith, omega arith); apart = omega arith; rook_apart = omega arith; rook_king = omega arith; rook_king_end = omega arith; end_king = omega arith; end_king_end = omega arith }
way Black KingSide = record { king_on = omega arith; rook_on = omega arith; king_to = omega arith; rook_to = omega arith; between = inl (omega arith, omega arith); rook_between = inl (omega arith, omega arith); apart = omega arith; rook_apart = omega arith; rook_king = omega arith; rook_king_end = omega arith; end_king = omega arith; end_king_end = omega arith }
way Black QueenSide = record { king_on = omega arith; rook_on = omega arith; king_to = omega arith; rook_to = omega arith; between = inr (omega arith, omega arith); rook_between = inr (omega arith, omega arith); apart = omega arith; rook_apart = omega arith; rook_king = omega arith; rook_king_end = omega arith; end_king = omega arith; end_king_end = omega arith }

pub honest : (p : Parts) (side : Side) (wing : Wing) → HasValidRights p → IsRightValid p side wing
honest p White KingSide h = h.0
honest p White QueenSide h = h.1
honest p Black KingSide h = h.2
honest p Black QueenSide h = h.3

pub Keeps-move : (p : Parts) (m : Move) (c : MoveCase) → IsPosition p → m.from < 64 → m.to < 64 → IsMove p m c → Keeps p.men (men_after p m c)
Keeps-move p m Plain i lf lt r =
    Keeps-carried p.men m.from m.to (man_at p.men m.from) i.squares lf lt (ne_by_man p.men m.from m.to p.side r.kind r.stands (r.free r.kind)) (λ s. refl) (λ s. refl) (no_king p m.from m.to r.kind i lf lt r.stands r.reaches r.free)
Keeps-move p m Advance i lf lt r =
    Keeps-carried p.men m.from m.to _ i.squares lf lt (ne_by_man p.men m.from m.to p.side Pawn r.stands (λ e. let f = sym r.empty ∙ e in cc)) (λ s. rw r.stands (landed_king s p.side m.promotion)) (λ s. rw r.stands (landed_of s p.side m.promotion)) (empty_no_king p.men m.to r.empty)
Keeps-move p m DoubleStep i lf lt r =
    Keeps-carried p.men m.from m.to _ i.squares lf lt (ne_by_man p.men m.from m.to p.side Pawn r.stands (λ e. let f = sym r.empty ∙ e in cc)) (λ s. refl) (λ s. refl) (empty_no_king p.men m.to r.empty)
Keeps-move p m PawnCapture i lf lt r =
    let free = taken_free p.men p.side m.to r.enemy in
    Keeps-carried p.men m.from m.to _ i.squares lf lt (ne_by_man p.men m.from m.to p.side Pawn r.stands (free Pawn)) (λ s. rw r.stands (landed_king s p.side m.promotion)) (λ s. rw r.stands (landed_of s p.side m.promotion)) (no_king p m.from m.to Pawn i lf lt r.stands r.attacks free)
Keeps-move p m EnPassant i lf lt r =
    let passed = i.en_passant m.to r.passed in
    let back = behind p.side m.to in
    let first = Keeps-carried p.men m.from m.to _ i.squares lf lt (ne_by_man p.men m.from m.to p.side Pawn r.stands (λ e. let f = sym r.empty ∙ e in cc)) (λ s. refl) (λ s. refl) (empty_no_king p.men m.to r.empty) in
    let free = taken_free p.men p.side back (Pawn, passed.pawn) in
    let not_from : back ≢ m.from = λ e. free Pawn (rw e r.stands) in
    let not_to : back ≢ m.to = λ e. (let f = sym r.empty ∙ rw e at passed.pawn in cc) in
    let there = carried_elsewhere p.men m.from m.to back (man_at p.men m.from) not_from not_to in
    Keeps-trans _ _ _ first (Keeps-removed _ back (first.squares ∙ i.squares) (behind_below p.side m.to lt passed.rank) (pawn_no_king _ back (other p.side) Pawn pawn_king (there ∙ passed.pawn)))
Keeps-move p m (Castle wing) i lf lt r =
    let w = way p.side wing in
    let home = honest p p.side wing i.rights r.right in
    let empty : man_at p.men m.to ≡ None = rw r.to_end (r.clear _ w.between) in
    let apart : m.from ≢ m.to = rw (r.from_home, r.to_end) w.apart in
    let first = Keeps-carried p.men m.from m.to (man_at p.men m.from) i.squares lf lt apart (λ s. refl) (λ s. refl) (empty_no_king p.men m.to empty) in
    let rook = carried_elsewhere p.men m.from m.to (rook_home p.side wing) (man_at p.men m.from) (rw r.from_home w.rook_king) (rw r.to_end w.rook_king_end) ∙ home.1 in
    let room = carried_elsewhere p.men m.from m.to (rook_end p.side wing) (man_at p.men m.from) (rw r.from_home w.end_king) (rw r.to_end w.end_king_end) ∙ r.clear _ w.rook_between in
    Keeps-trans _ _ _ first (Keeps-carried _ (rook_home p.side wing) (rook_end p.side wing) (some_man p.side Rook) (first.squares ∙ i.squares) w.rook_on w.rook_to w.rook_apart (λ s. rw rook refl) (λ s. rw rook refl) (empty_no_king _ (rook_end p.side wing) room))

-- who stands on a square after a man is carried
landing : (men : List (Option Piece)) (from to s : ℕ) (man : Option Piece) (side : Side) (what : Kind) → length men ≡ 64 → from < 64 → to < 64 → from ≢ to → Stands (carried men from to man) s side what → ((s ≡ to) × (man ≡ some_man side what)) ⊎ Stands men s side what
landing men from to s man side what len lf lt ne st = elim (cases_eq s to) [
  | inl e ↦ inl (e, sym (carried_at_to men from to man len lt) ∙ rw e at st)
  | inr nt ↦ elim (cases_eq s from) [
    | inl e ↦ absurd (let f = sym (carried_at_from men from to man len lf ne) ∙ rw e at st in cc)
    | inr nf ↦ inr (sym (carried_elsewhere men from to s man nf nt) ∙ st)
  ]
]

edge-carried : (men : List (Option Piece)) (from to : ℕ) (man : Option Piece) → length men ≡ 64 → from < 64 → to < 64 → from ≢ to → HasNoPawnOnEdge men → ((side : Side) → man ≡ some_man side Pawn → (0 < rank_of to) × (rank_of to < 7)) → HasNoPawnOnEdge (carried men from to man)
edge-carried men from to man len lf lt ne h pawn = λ s side l st. elim (landing men from to s man side Pawn len lf lt ne st) [
  | inl x ↦ rw x.0 (pawn side x.1)
  | inr x ↦ h s side l x
]

edge-removed : (men : List (Option Piece)) (at : ℕ) → length men ≡ 64 → at < 64 → HasNoPawnOnEdge men → HasNoPawnOnEdge (set men at None)
edge-removed men at len lt h = λ s side l st. elim (cases_eq s at) [
  | inl e ↦ absurd (let b : at < length men = omega arith in let f = sym (get_or-set_same men at None None b) ∙ rw e at st in cc)
  | inr ne ↦ h s side l (sym (get_or-set_other men at s None None ne) ∙ st)
]

landed_pawn : (side sd : Side) (o : Option Promotion) → landed side (some_man side Pawn) o ≡ some_man sd Pawn → o ≡ None
landed_pawn side sd None e = refl
landed_pawn side sd (Some ToQueen) e = let f : Queen ≡ Pawn = ap kind_on e in cc
landed_pawn side sd (Some ToRook) e = let f : Rook ≡ Pawn = ap kind_on e in cc
landed_pawn side sd (Some ToBishop) e = let f : Bishop ≡ Pawn = ap kind_on e in cc
landed_pawn side sd (Some ToKnight) e = let f : Knight ≡ Pawn = ap kind_on e in cc

advance_rank : (side : Side) (from to : ℕ) → from < 64 → to < 64 → Along (forward side) 1 from to → (rank_of to ≡ last_rank side → ⊥) → (0 < rank_of to) × (rank_of to < 7)
advance_rank White from to lf lt a n = (omega arith, omega arith)
advance_rank Black from to lf lt a n = (omega arith, omega arith)

attack_rank : (side : Side) (from to : ℕ) → from < 64 → to < 64 → IsPawnAttack side from to → (rank_of to ≡ last_rank side → ⊥) → (0 < rank_of to) × (rank_of to < 7)
attack_rank White from to lf lt a n = (omega arith, omega arith)
attack_rank Black from to lf lt a n = (omega arith, omega arith)

passed_edge : (side : Side) (s : ℕ) → rank_of s ≡ passed_rank side → (0 < rank_of s) × (rank_of s < 7)
passed_edge White s e = (omega arith, omega arith)
passed_edge Black s e = (omega arith, omega arith)

-- the squares of a double step
record Double (side : Side) (from to : ℕ) : Type 0 where
  edge : (0 < rank_of to) × (rank_of to < 7)
  rank : rank_of (behind side to) ≡ passed_rank (other side)
  ahead : behind (other side) (behind side to) ≡ to
  origin : behind side (behind side to) ≡ from
  not_from : behind side to ≢ from
  not_to : behind side to ≢ to
  first : Along (forward side) 1 from (behind side to)

double : (side : Side) (from to : ℕ) → from < 64 → to < 64 → rank_of from ≡ first_rank side → Along (forward side) 2 from to → Double side from to
double White from to lf lt r a = record { edge = (omega arith, omega arith); rank = omega arith; ahead = omega arith; origin = omega arith; not_from = omega arith; not_to = omega arith; first = (omega arith, omega arith) }
double Black from to lf lt r a = record { edge = (omega arith, omega arith); rank = omega arith; ahead = omega arith; origin = omega arith; not_from = omega arith; not_to = omega arith; first = (omega arith, omega arith) }

-- no pawn stands on an edge after the move
edge-move : (p : Parts) (m : Move) (c : MoveCase) → IsPosition p → m.from < 64 → m.to < 64 → m.from ≢ m.to → IsMove p m c → HasNoPawnOnEdge (men_after p m c)
edge-move p m Plain i lf lt ne r =
    edge-carried p.men m.from m.to _ i.squares lf lt ne i.pawns (λ side e. absurd (r.no_pawn (ap kind_on (sym r.stands ∙ e))))
edge-move p m Advance i lf lt ne r =
    edge-carried p.men m.from m.to _ i.squares lf lt ne i.pawns (λ side e. advance_rank p.side m.from m.to lf lt r.ahead (r.promotes.0 (landed_pawn p.side side m.promotion (rw r.stands at e))))
edge-move p m DoubleStep i lf lt ne r =
    edge-carried p.men m.from m.to _ i.squares lf lt ne i.pawns (λ side e. (double p.side m.from m.to lf lt r.home r.ahead).edge)
edge-move p m PawnCapture i lf lt ne r =
    edge-carried p.men m.from m.to _ i.squares lf lt ne i.pawns (λ side e. attack_rank p.side m.from m.to lf lt r.attacks (r.promotes.0 (landed_pawn p.side side m.promotion (rw r.stands at e))))
edge-move p m EnPassant i lf lt ne r =
    let passed = i.en_passant m.to r.passed in
    edge-removed _ (behind p.side m.to) (simp length-set i.squares) (behind_below p.side m.to lt passed.rank) (edge-carried p.men m.from m.to _ i.squares lf lt ne i.pawns (λ side e. passed_edge p.side m.to passed.rank))
edge-move p m (Castle wing) i lf lt ne r =
    let w = way p.side wing in
    edge-carried _ (rook_home p.side wing) (rook_end p.side wing) (some_man p.side Rook) (simp length-set i.squares) w.rook_on w.rook_to w.rook_apart (edge-carried p.men m.from m.to _ i.squares lf lt ne i.pawns (λ side e. let f : King ≡ Pawn = ap kind_on (sym r.stands ∙ e) in cc)) (λ side e. let f : Rook ≡ Pawn = ap kind_on e in cc)

-- the squares of a move differ, and it ends where no king stands
pub moves_away : (p : Parts) (m : Move) (c : MoveCase) → IsMove p m c → m.from ≢ m.to
moves_away p m Plain r = ne_by_man p.men m.from m.to p.side r.kind r.stands (r.free r.kind)
moves_away p m Advance r = ne_by_man p.men m.from m.to p.side Pawn r.stands (λ e. let f = sym r.empty ∙ e in cc)
moves_away p m DoubleStep r = ne_by_man p.men m.from m.to p.side Pawn r.stands (λ e. let f = sym r.empty ∙ e in cc)
moves_away p m PawnCapture r = ne_by_man p.men m.from m.to p.side Pawn r.stands (taken_free p.men p.side m.to r.enemy Pawn)
moves_away p m EnPassant r = ne_by_man p.men m.from m.to p.side Pawn r.stands (λ e. let f = sym r.empty ∙ e in cc)
moves_away p m (Castle wing) r = rw (r.from_home, r.to_end) (way p.side wing).apart

to_no_king : (p : Parts) (m : Move) (c : MoveCase) → IsPosition p → m.from < 64 → m.to < 64 → IsMove p m c → (s : Side) → Stands p.men m.to s King → ⊥
to_no_king p m Plain i lf lt r = no_king p m.from m.to r.kind i lf lt r.stands r.reaches r.free
to_no_king p m Advance i lf lt r = empty_no_king p.men m.to r.empty
to_no_king p m DoubleStep i lf lt r = empty_no_king p.men m.to r.empty
to_no_king p m PawnCapture i lf lt r = no_king p m.from m.to Pawn i lf lt r.stands r.attacks (taken_free p.men p.side m.to r.enemy)
to_no_king p m EnPassant i lf lt r = empty_no_king p.men m.to r.empty
to_no_king p m (Castle wing) i lf lt r = empty_no_king p.men m.to (rw r.to_end (r.clear _ (way p.side wing).between))

rights_right : (p : Parts) (m : Move) (side : Side) (wing : Wing) → has_right (rights_after p m) side wing ≡ keeps_right p m side wing
rights_right p m White KingSide = refl
rights_right p m White QueenSide = refl
rights_right p m Black KingSide = refl
rights_right p m Black QueenSide = refl

differ : (a b : ℕ) → not (a == b) ≡ true → a ≢ b
differ a b h = grind (arith, nat_tests)

-- a right that is kept was there, and neither its king nor its rook is touched
record Kept (p : Parts) (m : Move) (side : Side) (wing : Wing) : Type 0 where
  had : IsTrue (has_right p.rights side wing)
  king_stays : m.from ≢ king_home side
  rook_stays : m.from ≢ rook_home side wing
  rook_lives : m.to ≢ rook_home side wing

kept : (p : Parts) (m : Move) (side : Side) (wing : Wing) → keeps_right p m side wing ≡ true → Kept p m side wing
kept p m side wing h =
    let a = and_true _ _ h in
    let b = and_true _ _ a.0 in
    let c = and_true _ _ b.0 in
    record { had = c.0; king_stays = differ _ _ c.1; rook_stays = differ _ _ b.1; rook_lives = differ _ _ a.1 }

-- a castling of one side touches no home of the other
record Apart (a b : Side) (w v : Wing) : Type 0 where
  king : king_home b ≢ rook_home a w
  rook : rook_home b v ≢ rook_home a w
  king_end : king_home b ≢ rook_end a w
  rook_end : rook_home b v ≢ rook_end a w

homes : (a b : Side) (w v : Wing) → (king_home a ≢ king_home b) → Apart a b w v
homes White White KingSide KingSide ne = absurd (ne refl)
homes White White KingSide QueenSide ne = absurd (ne refl)
homes White White QueenSide KingSide ne = absurd (ne refl)
homes White White QueenSide QueenSide ne = absurd (ne refl)
homes White Black KingSide KingSide ne = record { king = omega arith; rook = omega arith; king_end = omega arith; rook_end = omega arith }
homes White Black KingSide QueenSide ne = record { king = omega arith; rook = omega arith; king_end = omega arith; rook_end = omega arith }
homes White Black QueenSide KingSide ne = record { king = omega arith; rook = omega arith; king_end = omega arith; rook_end = omega arith }
homes White Black QueenSide QueenSide ne = record { king = omega arith; rook = omega arith; king_end = omega arith; rook_end = omega arith }
homes Black White KingSide KingSide ne = record { king = omega arith; rook = omega arith; king_end = omega arith; rook_end = omega arith }
homes Black White KingSide QueenSide ne = record { king = omega arith; rook = omega arith; king_end = omega arith; rook_end = omega arith }
homes Black White QueenSide KingSide ne = record { king = omega arith; rook = omega arith; king_end = omega arith; rook_end = omega arith }
homes Black White QueenSide QueenSide ne = record { king = omega arith; rook = omega arith; king_end = omega arith; rook_end = omega arith }
homes Black Black KingSide KingSide ne = absurd (ne refl)
homes Black Black KingSide QueenSide ne = absurd (ne refl)
homes Black Black QueenSide KingSide ne = absurd (ne refl)
homes Black Black QueenSide QueenSide ne = absurd (ne refl)

-- a man that the move doesn't touch stays
stays : (p : Parts) (m : Move) (c : MoveCase) → IsPosition p → IsMove p m c → (s : ℕ) (side : Side) (what : Kind) → what ≢ Pawn → Stands p.men s side what → s ≢ m.from → s ≢ m.to → ((wing : Wing) → c ≡ Castle wing → (s ≢ rook_home p.side wing) × (s ≢ rook_end p.side wing)) → Stands (men_after p m c) s side what
stays p m Plain i r s side what np st nf nt away = carried_elsewhere p.men m.from m.to s _ nf nt ∙ st
stays p m Advance i r s side what np st nf nt away = carried_elsewhere p.men m.from m.to s _ nf nt ∙ st
stays p m DoubleStep i r s side what np st nf nt away = carried_elsewhere p.men m.from m.to s _ nf nt ∙ st
stays p m PawnCapture i r s side what np st nf nt away = carried_elsewhere p.men m.from m.to s _ nf nt ∙ st
stays p m EnPassant i r s side what np st nf nt away =
    let pawn = (i.en_passant m.to r.passed).pawn in
    let nb : s ≢ behind p.side m.to = λ e. np (ap kind_on (sym (rw e at st) ∙ pawn)) in
    get_or-set_other (carried p.men m.from m.to (man_at p.men m.from)) (behind p.side m.to) s None None nb ∙ (carried_elsewhere p.men m.from m.to s _ nf nt ∙ st)
stays p m (Castle wing) i r s side what np st nf nt away =
    let h = away wing refl in
    carried_elsewhere _ (rook_home p.side wing) (rook_end p.side wing) s _ h.0 h.1 ∙ (carried_elsewhere p.men m.from m.to s _ nf nt ∙ st)

castle_home : (p : Parts) (m : Move) (c : MoveCase) (wing : Wing) → IsMove p m c → c ≡ Castle wing → m.from ≡ king_home p.side
castle_home p m c wing r e = let h = rw e at r in h.from_home

right-move : (p : Parts) (m : Move) (c : MoveCase) → IsPosition p → m.from < 64 → m.to < 64 → IsMove p m c → (side : Side) (wing : Wing) → keeps_right p m side wing ≡ true → Stands (men_after p m c) (king_home side) side King × Stands (men_after p m c) (rook_home side wing) side Rook
right-move p m c i lf lt r side wing h =
    let k = kept p m side wing h in
    let home = honest p side wing i.rights k.had in
    let king_lives : king_home side ≢ m.to = λ e. to_no_king p m c i lf lt r side (rw e at home.0) in
    let apart : (w : Wing) → c ≡ Castle w → Apart p.side side w wing = λ w e. homes p.side side w wing (λ same. k.king_stays (castle_home p m c w r e ∙ same)) in (
      stays p m c i r (king_home side) side King (λ e. let f = sym e in pawn_king f) home.0 (λ e. k.king_stays (sym e)) king_lives (λ w e. ((apart w e).king, (apart w e).king_end)),
      stays p m c i r (rook_home side wing) side Rook (λ e. rook_pawn e) home.1 (λ e. k.rook_stays (sym e)) (λ e. k.rook_lives (sym e)) (λ w e. ((apart w e).rook, (apart w e).rook_end)),
    )

abbrev unwrap : Option ℕ → ℕ
unwrap None = 0
unwrap (Some s) = s

none_some : (s : ℕ) → (None ≡ Some s) → ⊥
none_some s e = cc

passed-move : (p : Parts) (m : Move) (c : MoveCase) → IsPosition p → m.from < 64 → m.to < 64 → IsMove p m c → HasValidEnPassant (after p m c)
unfolding after
passed-move p m Plain i lf lt r = λ s e. absurd (none_some s e)
passed-move p m Advance i lf lt r = λ s e. absurd (none_some s e)
passed-move p m DoubleStep i lf lt r = λ s e.
    let d = double p.side m.from m.to lf lt r.home r.ahead in
    let back = behind p.side m.to in
    let is : back ≡ s = ap unwrap e in
    let landed_there = carried_at_to p.men m.from m.to (man_at p.men m.from) i.squares lt in
    let left = carried_at_from p.men m.from m.to (man_at p.men m.from) i.squares lf (moves_away p m DoubleStep r) in
    rw (← is) (record {
      rank = d.rank;
      pawn = rw (d.ahead, other-other) (landed_there ∙ r.stands);
      empty = carried_elsewhere p.men m.from m.to back _ d.not_from d.not_to ∙ r.clear 1 back (omega arith) (omega arith) d.first;
      origin = rw (other-other, d.origin) left;
    })
passed-move p m PawnCapture i lf lt r = λ s e. absurd (none_some s e)
passed-move p m EnPassant i lf lt r = λ s e. absurd (none_some s e)
passed-move p m (Castle wing) i lf lt r = λ s e. absurd (none_some s e)

one_more_fair : (n : ℕ) → one_more n ≤ 9999
one_more_fair n = omega arith

half_fair : (p : Parts) (m : Move) (c : MoveCase) → halfmove_after p m c ≤ 9999
half_fair p m Plain = elim (cases_Bool (is_some (man_at p.men m.to))) [ inl e ↦ rw e (omega arith) | inr e ↦ rw e (one_more_fair p.halfmove) ]
half_fair p m Advance = omega arith
half_fair p m DoubleStep = omega arith
half_fair p m PawnCapture = omega arith
half_fair p m EnPassant = omega arith
half_fair p m (Castle wing) = one_more_fair p.halfmove

full_fair : (side : Side) (n : ℕ) → n ≤ 9999 → fullmove_after side n ≤ 9999
full_fair White n h = h
full_fair Black n h = one_more_fair n

-- the parts after a move are a position, where the king that moved is safe
IsPosition-after : (p : Parts) (m : Move) (c : MoveCase) → IsPosition p → m.from < 64 → m.to < 64 → IsMove p m c → (IsInCheck (men_after p m c) p.side → ⊥) → IsPosition (after p m c)
unfolding after
IsPosition-after p m c i lf lt r safe =
    let k = Keeps-move p m c i lf lt r in
    record {
      squares = k.squares ∙ i.squares;
      kings = (k.kings White ∙ i.kings.0, k.kings Black ∙ i.kings.1);
      few = (omega (arith, k.few White, i.few), omega (arith, k.few Black, i.few));
      pawns = edge-move p m c i lf lt (moves_away p m c r) r;
      rights = (right-move p m c i lf lt r White KingSide, right-move p m c i lf lt r White QueenSide, right-move p m c i lf lt r Black KingSide, right-move p m c i lf lt r Black QueenSide);
      en_passant = passed-move p m c i lf lt r;
      quiet = λ check. safe (rw other-other at check);
      counters = (half_fair p m c, full_fair p.side p.fullmove i.counters.1);
    }

men_of_after : (p : Parts) (m : Move) (c : MoveCase) → (after p m c).men ≡ men_after p m c
unfolding after
men_of_after p m c = refl

pub IsPosition-play : (p : Parts) (m : Move) (q : Parts) → IsPosition p → Legal p m q → IsPosition q
IsPosition-play p m q i l =
    let men : q.men ≡ men_after p m l.case = ap (λ (x : Parts). x.men) l.becomes ∙ men_of_after p m l.case in
    rw l.becomes (IsPosition-after p m l.case i l.from_board l.to_board l.rule (λ check. l.safe (rw men check)))
