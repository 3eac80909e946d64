-- What a man's side says of the square that he stands on.
use Rattle.std.proofs.Common.{ℕ, ◌≡◌, ◌<◌, List, length, set, Option, Some, None, sym, ap, ◌∙◌, inl, inr, get_or-set_same, get_or-set_other}
use Rattle.std.proofs.lemmas.Bool.{cases_eq, cases_lt}
use Rattle.std.proofs.lemmas.List.{get_or_past}
use Rattle.board_core.specs.declared.piece.Piece.{Piece}
use Rattle.board_core.specs.declared.piece.Side.{Side}
use Rattle.board_core.specs.declared.piece.Kind.{Kind}
use Rattle.board_core.specs.Attack.{man_at}
use Rattle.board_core.specs.Moves.{Stands, IsFree, IsTaken}

some_man : (man : Piece) (side : Side) → man.side ≡ side → Some man ≡ Some (record { side = side; kind = man.kind })
some_man man side e = ap (λ x. Some (record { side = x; kind = man.kind })) e

abbrev side_on : Option Piece → Side → Side
side_on None side = side
side_on (Some man) side = man.side

pub stands_if : (men : List (Option Piece)) (side : Side) (s : ℕ) (man : Piece) → man_at men s ≡ Some man → man.side ≡ side → Stands men s side man.kind
stands_if men side s man there e = there ∙ some_man man side e

pub taken_if : (men : List (Option Piece)) (side : Side) (s : ℕ) (man : Piece) → man_at men s ≡ Some man → man.side ≡ side → IsTaken men side s
taken_if men side s man there e = (man.kind, stands_if men side s man there e)

pub free_else : (men : List (Option Piece)) (side : Side) (s : ℕ) (man : Piece) → man_at men s ≡ Some man → (man.side ≡ side → ⊥) → IsFree men side s
free_else men side s man there f = λ kind st. f (ap (λ o. side_on o side) (sym there ∙ st))

pub free_where_none : (men : List (Option Piece)) (side : Side) (s : ℕ) → man_at men s ≡ None → IsFree men side s
free_where_none men side s none = λ kind st. let e = sym none ∙ st in cc

-- where a man stands there is a square
pub stands_within : (men : List (Option Piece)) (s : ℕ) (side : Side) (what : Kind) → Stands men s side what → s < length men
stands_within men s side what st = elim (cases_lt s (length men)) [
  | inl lt ↦ lt
  | inr ge ↦ absurd (let f = sym (get_or_past men s None ge) ∙ st in cc)
]

-- who stands on the board with a square bare stands there without
pub taken_bare : (men : List (Option Piece)) (side : Side) (s t : ℕ) → t < length men → IsTaken (set men t None) side s → IsTaken men side s
taken_bare men side s t lt own = elim (cases_eq s t) [
  | inl e ↦ absurd (let f = sym (get_or-set_same men t None None lt) ∙ rw e at own.1 in cc)
  | inr ne ↦ (own.0, sym (get_or-set_other men t s None None ne) ∙ own.1)
]
