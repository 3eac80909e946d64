-- Pawns that go to one square from one file.
use Rattle.std.proofs.Common.{◌≡◌, ℕ, ◌+◌, false, sym, subst, ◌∙◌, arith, inl, inr}
use Rattle.std.specs.Prelude.{◌⊎◌}
use Rattle.board_core.specs.declared.piece.Side.{Side}
use Rattle.board_core.specs.declared.piece.Side.TheVariants.{White, Black}
use Rattle.board_core.specs.declared.piece.Kind.TheVariants.{Pawn, King}
use Rattle.board_core.specs.declared.parts.Parts.{Parts}
use Rattle.board_core.specs.declared.moves.Move.{Move}
use Rattle.board_core.specs.declared.moves.MoveCase.{MoveCase}
use Rattle.board_core.specs.declared.moves.MoveCase.TheVariants.{Plain, Advance, DoubleStep, PawnCapture, EnPassant, Castle}
use Rattle.board_core.specs.Square.{file_of, rank_of}
use Rattle.board_core.specs.Attack.{Along, IsClear, IsPawnAttack, forward}
use Rattle.board_core.specs.Moves.{Stands, IsMove, IsLegal}
use Rattle.board_core.specs.ComputedMoves.{is_capture}
use Rattle.board_core.proofs.ComputedLists.{Decides-capture}
use Rattle.san_text.proofs.LegalMoves.{same_kind, on_file}

-- n ranks ahead, seen from this side
abbrev RanksAhead : Side → ℕ → ℕ → ℕ → Type 0
RanksAhead White n from to = rank_of to ≡ rank_of from + n
RanksAhead Black n from to = rank_of to + n ≡ rank_of from

-- how a pawn goes: one rank ahead, or two on its file over an empty square
pub record TwoAhead (p : Parts) (m : Move) : Type 0 where
  pub ranks : RanksAhead p.side 2 m.from m.to
  pub file : file_of m.from ≡ file_of m.to
  pub clear : IsClear p.men (forward p.side) 2 m.from

abbrev PawnStep : Parts → Move → Type 0
PawnStep p m = RanksAhead p.side 1 m.from m.to ⊎ TwoAhead p m

along_ranks : (side : Side) (n from to : ℕ) → Along (forward side) n from to → RanksAhead side n from to
along_ranks White n from to a = a.1
along_ranks Black n from to a = a.1

attack_ranks : (side : Side) (from to : ℕ) → IsPawnAttack side from to → RanksAhead side 1 from to
attack_ranks White from to a = a.1
attack_ranks Black from to a = a.1

pawn_step : (p : Parts) (m : Move) (c : MoveCase) → IsMove p m c → Stands p.men m.from p.side Pawn → PawnStep p m
pawn_step p m Plain r pawn = absurd (r.no_pawn (same_kind p.men m.from p.side r.kind Pawn r.stands pawn))
pawn_step p m Advance r pawn = inl (along_ranks p.side 1 m.from m.to r.ahead)
pawn_step p m DoubleStep r pawn =
    inr (record { ranks = along_ranks p.side 2 m.from m.to r.ahead; file = on_file p.side 2 m.from m.to r.ahead; clear = r.clear })
pawn_step p m PawnCapture r pawn = inl (attack_ranks p.side m.from m.to r.attacks)
pawn_step p m EnPassant r pawn = inl (attack_ranks p.side m.from m.to r.attacks)
pawn_step p m (Castle wing) r pawn = absurd (let e = same_kind p.men m.from p.side King Pawn r.stands pawn in cc)

pub one_square : (a b : ℕ) → file_of a ≡ file_of b → rank_of a ≡ rank_of b → a ≡ b
one_square a b f r = omega (arith, f, r)

one_rank : (side : Side) (n a b to : ℕ) → RanksAhead side n a to → RanksAhead side n b to → rank_of a ≡ rank_of b
one_rank White n a b to h k = omega (arith, h, k)
one_rank Black n a b to h k = omega (arith, h, k)

-- the square one rank ahead of one that is two ranks behind another is one rank behind that
between : (side : Side) (near far to : ℕ) → file_of near ≡ file_of far → RanksAhead side 1 near to → RanksAhead side 2 far to → Along (forward side) 1 far near
between White near far to f h k = (f, omega (arith, h, k))
between Black near far to f h k = (f, omega (arith, h, k))

-- a pawn in the way
in_way : (p : Parts) (m n : Move) → m.to ≡ n.to → file_of m.from ≡ file_of n.from → Stands p.men m.from p.side Pawn → RanksAhead p.side 1 m.from m.to → TwoAhead p n → ⊥
in_way p m n to f pawn one two =
    let along = between p.side m.from n.from m.to f one (subst (λ t. RanksAhead p.side 2 n.from t) (sym to) two.ranks) in
    let e = sym pawn ∙ two.clear 1 m.from (omega arith) (omega arith) along in cc

pub one_pawn : (p : Parts) (m n : Move) → IsLegal p m → IsLegal p n → Stands p.men m.from p.side Pawn → Stands p.men n.from p.side Pawn → m.to ≡ n.to → file_of m.from ≡ file_of n.from → m.from ≡ n.from
one_pawn p m n l k a b to f = by_steps (pawn_step p m l.1.case l.1.rule a) (pawn_step p n k.1.case k.1.rule b)
  where
    by_steps : PawnStep p m → PawnStep p n → m.from ≡ n.from
    by_steps (inl one) (inl other) = one_square m.from n.from f (one_rank p.side 1 m.from n.from m.to one (subst (λ t. RanksAhead p.side 1 n.from t) (sym to) other))
    by_steps (inl one) (inr two) = absurd (in_way p m n to f a one two)
    by_steps (inr two) (inl one) = absurd (in_way p n m (sym to) (sym f) b one two)
    by_steps (inr two) (inr other) = one_square m.from n.from f (one_rank p.side 2 m.from n.from m.to two.ranks (subst (λ t. RanksAhead p.side 2 n.from t) (sym to) other.ranks))

-- a pawn that takes nothing stays on its file
stays : (p : Parts) (m : Move) (c : MoveCase) → IsMove p m c → Stands p.men m.from p.side Pawn → is_capture p m ≡ false → file_of m.from ≡ file_of m.to
stays p m Plain r pawn e = absurd (r.no_pawn (same_kind p.men m.from p.side r.kind Pawn r.stands pawn))
stays p m Advance r pawn e = on_file p.side 1 m.from m.to r.ahead
stays p m DoubleStep r pawn e = on_file p.side 2 m.from m.to r.ahead
stays p m PawnCapture r pawn e = absurd (let t = sym e ∙ (Decides-capture p m).1 (inl (λ none. let f = sym none ∙ r.enemy.1 in cc)) in cc)
stays p m EnPassant r pawn e = absurd (let t = sym e ∙ (Decides-capture p m).1 (inr r) in cc)
stays p m (Castle wing) r pawn e = absurd (let f = same_kind p.men m.from p.side King Pawn r.stands pawn in cc)

pub pawn_stays : (p : Parts) (m : Move) → IsLegal p m → Stands p.men m.from p.side Pawn → is_capture p m ≡ false → file_of m.from ≡ file_of m.to
pawn_stays p m l pawn e = stays p m l.1.case l.1.rule pawn e
