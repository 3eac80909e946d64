-- A side's one king.
use Rattle.std.proofs.Common.{ℕ, zero, suc, ◌≡◌, ◌≢◌, ◌<◌, ◌+◌, List, [], ◌∷◌, Option, None, Bool, true, false, cond, length, count_by, refl, sym, ap, ◌∙◌, ◌⊎◌, inl, inr, arith}
use Rattle.std.proofs.lemmas.List.Sums.{sum_by-cons}
use Rattle.board_core.specs.declared.piece.Piece.{Piece}
use Rattle.board_core.specs.declared.piece.Side.{Side}
use Rattle.board_core.specs.declared.piece.Side.TheVariants.{White, Black}
use Rattle.board_core.specs.declared.piece.Kind.TheVariants.{King}
use Rattle.board_core.specs.declared.parts.Parts.{Parts}
use Rattle.board_core.specs.declared.moves.Move.{Move}
use Rattle.board_core.specs.declared.moves.MoveCase.{MoveCase}
use Rattle.board_core.specs.Attack.{man_at}
use Rattle.board_core.specs.Moves.{Stands, IsMove, men_after}
use Rattle.board_core.specs.Position.{IsPosition, HasOneKingEach, is_king_of}
use Rattle.board_core.specs.Inside.Search.{IsOnlyKing}
use Rattle.board_core.proofs.Computed.{Decides-king_of}
use Rattle.board_core.proofs.Preserved.{Keeps-move}
use Rattle.board_core.proofs.Safety.{only_after}

abbrev one_if : Bool → ℕ
one_if b = cond b 1 0

counted : (test : Option Piece → Bool) (o : Option Piece) (rest : List (Option Piece)) (b : Bool) → test o ≡ b → count_by test (o ∷ rest) ≡ one_if b + count_by test rest
counted test o rest b e = sum_by-cons (λ o. one_if (test o)) o rest ∙ ap (λ x. one_if x + count_by test rest) e

either : (b : Bool) → (b ≡ true) ⊎ (b ≡ false)
either true = inl refl
either false = inr refl

-- where none is counted, none passes
none_passes : (test : Option Piece → Bool) → test None ≡ false → (men : List (Option Piece)) → count_by test men ≡ 0 → (s : ℕ) → test (man_at men s) ≡ true → ⊥
none_passes test none [] zero_men s t = let f = sym none ∙ t in cc
none_passes test none (o ∷ rest) zero_men zero t =
    let c = counted test o rest true t in omega arith
none_passes test none (o ∷ rest) zero_men (suc s) t =
    none_passes test none rest (omega (arith, sum_by-cons (λ o. one_if (test o)) o rest)) s t

-- the one square whose man passes the test
pub record Sole (test : Option Piece → Bool) (men : List (Option Piece)) : Type 0 where
  pub square : ℕ
  pub on_board : square < length men
  pub passes : test (man_at men square) ≡ true
  pub only : (s : ℕ) → test (man_at men s) ≡ true → s ≡ square

sole_first : (test : Option Piece → Bool) → test None ≡ false → (o : Option Piece) (rest : List (Option Piece)) → test o ≡ true → count_by test (o ∷ rest) ≡ 1 → Sole test (o ∷ rest)
sole_first test none o rest here one = record {
  square = zero;
  on_board = omega arith;
  passes = here;
  only = λ s t. first s t;
}
  where
    first : (s : ℕ) → test (man_at (o ∷ rest) s) ≡ true → s ≡ zero
    first zero t = refl
    first (suc s) t = absurd (none_passes test none rest (omega (arith, counted test o rest true here)) s t)

sole_later : (test : Option Piece → Bool) (o : Option Piece) (rest : List (Option Piece)) → test o ≡ false → Sole test rest → Sole test (o ∷ rest)
sole_later test o rest here r = record {
  square = suc r.square;
  on_board = omega (arith, r.on_board);
  passes = r.passes;
  only = λ s t. later s t;
}
  where
    later : (s : ℕ) → test (man_at (o ∷ rest) s) ≡ true → s ≡ suc r.square
    later zero t = let f = sym here ∙ t in cc
    later (suc s) t = ap suc (r.only s t)

pub sole_of : (test : Option Piece → Bool) → test None ≡ false → (men : List (Option Piece)) → count_by test men ≡ 1 → Sole test men
sole_of test none [] one = let f = one in cc
sole_of test none (o ∷ rest) one = elim (either (test o)) [
  | inl e ↦ sole_first test none o rest e one
  | inr e ↦ sole_later test o rest e (sole_of test none rest (omega (arith, counted test o rest false e)))
]

-- where a side's king stands, and no other
pub record TheKing (men : List (Option Piece)) (side : Side) : Type 0 where
  pub square : ℕ
  pub on_board : square < length men
  pub stands : Stands men square side King
  pub only : (s : ℕ) → Stands men s side King → s ≡ square

pub the_king : (men : List (Option Piece)) (side : Side) → count_by (is_king_of side) men ≡ 1 → TheKing men side
the_king men side one =
    let sole = sole_of (is_king_of side) refl men one in record {
      square = sole.square;
      on_board = sole.on_board;
      stands = (Decides-king_of side (man_at men sole.square)).0 sole.passes;
      only = λ s st. sole.only s ((Decides-king_of side (man_at men s)).1 st);
    }

pub king_of_position : (p : Parts) (side : Side) → HasOneKingEach p.men → count_by (is_king_of side) p.men ≡ 1
king_of_position p White h = h.0
king_of_position p Black h = h.1

-- after a move the king stands where it went, or stayed
pub king_stands_after : (p : Parts) (m : Move) (c : MoveCase) (k k' : ℕ) → IsPosition p → m.from < 64 → m.to < 64 → IsMove p m c → IsOnlyKing p.men p.side k → (m.from ≡ k → k' ≡ m.to) → (m.from ≢ k → k' ≡ k) → Stands (men_after p m c) k' p.side King
king_stands_after p m c k k' i lf lt r only there here =
    let keeps = Keeps-move p m c i lf lt r in
    let king = the_king (men_after p m c) p.side (keeps.kings p.side ∙ king_of_position p p.side i.kings) in
    let at : king.square ≡ k' = only_after p m c k k' i.squares lf lt r only there here king.square (omega (arith, king.on_board, keeps.squares, i.squares)) king.stands in
    rw (sym at) king.stands

-- a position has one king of each side, and after a move there is still one of the side that moves
pub one_king : (p : Parts) (side : Side) → IsPosition p → count_by (is_king_of side) p.men ≡ 1
one_king p side i = king_of_position p side i.kings

pub one_king_after : (p : Parts) (m : Move) (c : MoveCase) → IsPosition p → m.from < 64 → m.to < 64 → IsMove p m c → count_by (is_king_of p.side) (men_after p m c) ≡ 1
one_king_after p m c i lf lt r = (Keeps-move p m c i lf lt r).kings p.side ∙ king_of_position p p.side i.kings
