use Rattle.std.proofs.Common.{ℕ, ◌≡◌, ◌≢◌, ◌<◌, ◌+◌, List, Option, None, length, set, refl, sym, ◌∙◌, arith, inl, inr, get_or-set_other, get_or-set_same, slice_set}
use Rattle.std.specs.Int.Bits.{bit_or}
use Rattle.std.proofs.lemmas.Nat.Bits.{bit_at_or, bit_at-lt}
use Rattle.std.specs.Int.{bit_at}
use Rattle.std.proofs.lemmas.Bool.{cases_lt, cases_eq}
use Rattle.std.proofs.Math.ListN.{length-set}
use Rattle.board_core.specs.declared.piece.Piece.{Piece}
use Rattle.board_core.specs.declared.piece.Side.{Side}
use Rattle.board_core.specs.declared.piece.Kind.{Kind}
use Rattle.board_core.specs.declared.piece.Kind.TheVariants.{Pawn, Knight, Bishop, Rook, Queen, King}
use Rattle.board_core.specs.declared.moves.Move.{Move}
use Rattle.board_core.specs.declared.moves.MoveCase.TheVariants.{Plain}
use Rattle.board_core.specs.declared.parts.Parts.{Parts}
use Rattle.board_core.specs.Side.{other}
use Rattle.board_core.specs.Attack.{man_at, Ray, Reaches, IsAttacked, IsInCheck}
use Rattle.board_core.specs.Moves.{Stands, IsFree, IsTaken, IsPlain, men_after}
use Rattle.board_core.specs.Inside.Search.{HasAttacked, IsOnlyKing, emptied}
use Rattle.board_core.proofs.Outward.{along_distance}
use Rattle.board_core.proofs.Sweep.{zero_one, Rests, Rests-between}
use Rattle.board_core.proofs.Safety.{some_man, none_man, other_side, only_after, only_safe}

-- all that men of the other side on the square attack is in the set, but for our own men's squares
abbrev pub Covers : List (Option Piece) → Side → ℕ → ℕ → Type 0
Covers men side set s = (sort : Kind) (t : ℕ) → Stands men s (other side) sort → t < 64 → IsFree men side t → Reaches men (other side) sort s t → bit_at set t ≡ 1

pub Covers-all : (men : List (Option Piece)) (side : Side) (set : ℕ) → ((s : ℕ) → s < 64 → IsTaken men (other side) s → Covers men side set s) → HasAttacked men side set
Covers-all men side set h = λ t b free a. h a.from a.on_board (a.kind, a.stands) a.kind t a.stands b free a.reaches

or_left : (a b t : ℕ) → bit_at a t ≡ 1 → bit_at (bit_or a b) t ≡ 1
or_left a b t h = rw bit_at_or (omega (arith, bit_at-lt b t))

or_right : (a b t : ℕ) → bit_at b t ≡ 1 → bit_at (bit_or a b) t ≡ 1
or_right a b t h = rw bit_at_or (omega (arith, bit_at-lt a t))

-- one more square is covered, and no man stands between the two
pub Covers-more : (men : List (Option Piece)) (side : Side) (next set from all more : ℕ) → Rests (IsTaken men (other side)) next set → ((s : ℕ) → s < from → bit_at set s ≡ 0) → from < 64 → ((s : ℕ) → s < next → Covers men side all s) → Covers men side more from → (s : ℕ) → s < from + 1 → Covers men side (bit_or all more) s
Covers-more men side next set from all more r first b old new s lt sort t st bt free reach = elim (cases_lt s next) [
  | inl x ↦ or_left all more t (old s x sort t st bt free reach)
  | inr ge ↦ elim (cases_lt s from) [
    | inl x ↦ absurd (Rests-between _ next set from s r first (omega arith) ge x (sort, st))
    | inr y ↦ let e : s ≡ from = omega arith in or_right all more t (new sort t (rw e at st) bt free (rw e at reach))
  ]
]

elsewhere : (men : List (Option Piece)) (t s : ℕ) (x : Option Piece) → s ≢ t → man_at (slice_set men t x) s ≡ man_at men s
elsewhere men t s x ne = rw get_or-set_other refl

-- a line to a square is as clear whoever stands there
ray_bare : (men : List (Option Piece)) (sort : Kind) (x : Option Piece) (a t : ℕ) → Ray (slice_set men t x) sort a t → Ray men sort a t
ray_bare men sort x a t r = record {
  direction = r.direction;
  distance = r.distance;
  goes = r.goes;
  away = r.away;
  along = r.along;
  clear = λ j s away within here.
      let before : s ≢ t = λ e. let d = along_distance r.direction r.distance j a t r.along (rw e at here) in omega arith in
      sym (elsewhere men t s x before) ∙ r.clear j s away within here;
}

-- what reaches a square over a board with a man put there reaches it without him
reaches_bare : (men : List (Option Piece)) (by : Side) (sort : Kind) (x : Option Piece) (a t : ℕ) → Reaches (slice_set men t x) by sort a t → Reaches men by sort a t
reaches_bare men by Pawn x a t r = r
reaches_bare men by Knight x a t r = r
reaches_bare men by Bishop x a t r = ray_bare men Bishop x a t r
reaches_bare men by Rook x a t r = ray_bare men Rook x a t r
reaches_bare men by Queen x a t r = ray_bare men Queen x a t r
reaches_bare men by King x a t r = r

-- a square that is attacked with a man of ours on it is attacked without him
pub attack_bare : (men : List (Option Piece)) (side : Side) (what : Kind) (t : ℕ) → t < length men → IsAttacked (slice_set men t (some_man side what)) (other side) t → IsAttacked men (other side) t
attack_bare men side what t lt a =
    let away : a.from ≢ t = λ e.
    let there : man_at (slice_set men t (some_man side what)) t ≡ some_man side what = rw get_or-set_same refl in
    other_side side what a.kind (sym there ∙ rw e at a.stands) in
    record {
      from = a.from;
      kind = a.kind;
      on_board = a.on_board;
      stands = sym (elsewhere men t a.from (some_man side what) away) ∙ a.stands;
      reaches = reaches_bare men (other side) a.kind (some_man side what) a.from t a.reaches;
    }

pub emptied_here : (men : List (Option Piece)) (k : ℕ) → k < length men → man_at (emptied men k) k ≡ None
emptied_here men k lt = rw get_or-set_same refl

pub emptied_free : (men : List (Option Piece)) (side : Side) (k : ℕ) → k < length men → IsFree (emptied men k) side k
emptied_free men side k lt = λ what st. none_man side what _ (emptied_here men k lt) st

ray_emptied : (men : List (Option Piece)) (sort : Kind) (a t : ℕ) → Ray men sort a t → Ray (emptied men t) sort a t
ray_emptied men sort a t r = record {
  direction = r.direction;
  distance = r.distance;
  goes = r.goes;
  away = r.away;
  along = r.along;
  clear = λ j s away within here.
      let before : s ≢ t = λ e. let d = along_distance r.direction r.distance j a t r.along (rw e at here) in omega arith in
      elsewhere men t s None before ∙ r.clear j s away within here;
}

reaches_emptied : (men : List (Option Piece)) (by : Side) (sort : Kind) (a t : ℕ) → Reaches men by sort a t → Reaches (emptied men t) by sort a t
reaches_emptied men by Pawn a t r = r
reaches_emptied men by Knight a t r = r
reaches_emptied men by Bishop a t r = ray_emptied men Bishop a t r
reaches_emptied men by Rook a t r = ray_emptied men Rook a t r
reaches_emptied men by Queen a t r = ray_emptied men Queen a t r
reaches_emptied men by King a t r = r

-- what attacks our man on a square attacks the bare square
pub attack_emptied : (men : List (Option Piece)) (side : Side) (what : Kind) (k : ℕ) → k < length men → Stands men k side what → IsAttacked men (other side) k → IsAttacked (emptied men k) (other side) k
attack_emptied men side what k lt st a =
    let away : a.from ≢ k = λ e. other_side side what a.kind (sym st ∙ rw e at a.stands) in
    record {
      from = a.from;
      kind = a.kind;
      on_board = a.on_board;
      stands = elsewhere men k a.from None away ∙ a.stands;
      reaches = reaches_emptied men (other side) a.kind a.from k a.reaches;
    }

-- the king's own square shuts no line to where it goes
pub king_away : (p : Parts) (m : Move) (k set : ℕ) → length p.men ≡ 64 → m.from < 64 → m.to < 64 → IsPlain p m → m.from ≡ k → IsOnlyKing p.men p.side k → HasAttacked (emptied p.men k) p.side set → bit_at set m.to ≡ 0 → IsInCheck (men_after p m Plain) p.side → ⊥
king_away p m k set len lf lt r at only attacked none =
    only_safe (men_after p m Plain) p.side m.to (only_after p m Plain k m.to len lf lt r only (λ _. refl) (λ ne. absurd (ne at)))
    (λ a.
    let own : man_at p.men m.from ≡ some_man p.side r.kind = r.stands in
    let within : m.to < length (emptied p.men m.from) = omega (arith, length-set {A = Option Piece}) in
    let bare = attack_bare (emptied p.men m.from) p.side r.kind m.to within (rw own at a) in
    let free : IsFree (emptied p.men k) p.side m.to = λ sort st. elim (cases_eq m.to k) [
      | inl e ↦ emptied_free p.men p.side k (omega arith) sort (rw e at st)
      | inr ne ↦ r.free sort (sym (elsewhere p.men k m.to None ne) ∙ st)
    ] in
    zero_one _ none (attacked m.to lt free (rw at at bare)))
