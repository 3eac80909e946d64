use Rattle.std.proofs.Common.{arith, refl}
use Rattle.std.proofs.lemmas.Nat.Bits.{bit_at-zero}
use Rattle.board_core.proofs.Listing.{IsLegal-stands}
use Rattle.board_core.proofs.SideSets.{set_of_side}
use Rattle.board_core.proofs.Sweep.{Rests-begin, Rests-without, none_on, none_left, zero_one}
use Rattle.board_core.proofs.capturing.may_capture.Goals as goal

pub movers-init : goal.movers-init
movers-init c = record {
  rests = Rests-begin _ _ (λ s b q. rw c.of_side-left.ensures (set_of_side c.args.p.now.men c.args.p.now.side c.args.sides.now s c.requires.sides (rw q.2 at (IsLegal-stands c.args.p.now q.0 q.1.0))));
  none = λ s lt. absurd (omega arith);
}

pub movers-preserved : goal.movers-preserved
movers-preserved c = record {
  rests = rw c.number-next.ensures.value (Rests-without _ _ _ _ _ (omega arith) c.movers.invariant.rests c.lowest-from.ensures.first c.lowest-from.ensures.here c.without-left.ensures.gone c.without-left.ensures.kept);
  none = rw c.number-next.ensures.value (none_on _ _ _ _ (omega arith) c.movers.invariant.rests c.lowest-from.ensures.first c.movers.invariant.none (λ q. zero_one _ (bit_at-zero q.0.to) (rw (c.if-not-is_empty.ensures.0 refl) at (c.goals_from.ensures q.0 q.1 q.2))));
}

pub returns : goal.returns
returns c = λ _ m l. none_left _ _ _ c.movers.invariant.rests (c.movers-test.ensures.0 refl) c.movers.invariant.none m.from l.0.1.from_board (m, l, refl)
