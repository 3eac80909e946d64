use Rattle.std.proofs.Common.{arith, rules}
use Rattle.board_core.proofs.Listing.{IsLegal-stands}
use Rattle.board_core.proofs.SideSets.{set_of_side}
use Rattle.board_core.proofs.Sweep.{Rests-begin, Rests-without, none_on, none_left}
use Rattle.board_core.proofs.mobility.has_legal_move.Goals as goal

pub movers-init : goal.movers-init
movers-init c = record {
  rests = Rests-begin _ _ (λ s b q. rw c.of_side-rest.ensures (set_of_side c.args.p.now.men c.args.p.now.side c.args.sides.now s c.requires.sides (IsLegal-stands c.args.p.now _ q.1.1)));
  none = λ s lt. absurd (omega arith);
}

pub returns-then-may_leave : goal.returns-then-may_leave
returns-then-may_leave c = (λ _. let q = c.may_leave.ensures.0 c.if-may_leave.true in (_, q.1.1, q.1.2), λ _. search rules)

pub movers-preserved : goal.movers-preserved
movers-preserved c = record {
  rests = rw c.number-next.ensures.value (Rests-without _ _ _ _ _ (omega arith) c.movers.invariant.rests c.lowest-from.ensures.first c.lowest-from.ensures.here c.without-rest.ensures.gone c.without-rest.ensures.kept);
  none = rw c.number-next.ensures.value (none_on _ _ _ _ (omega arith) c.movers.invariant.rests c.lowest-from.ensures.first c.movers.invariant.none (λ q. let t = c.may_leave.ensures.1 q in search rules));
}

pub returns : goal.returns
returns c = (λ t. search rules, λ a. absurd (none_left _ _ _ c.movers.invariant.rests (c.is_empty.ensures.0 c.movers-test.false) c.movers.invariant.none a.0.from a.1.1.from_board (a.0.to, (a.0.promotion, a.1, a.2))))
