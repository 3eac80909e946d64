use Rattle.std.proofs.Common.{arith, refl}
use Rattle.board_core.specs.Inside.Search.{IsLaterCapture}
use Rattle.board_core.proofs.Listing.{IsLegal-stands}
use Rattle.board_core.proofs.SideSets.{set_of_side}
use Rattle.board_core.proofs.Sweep.{Rests-begin, Rests-without, none_on, none_left}
use Rattle.board_core.proofs.NextCapture.{first_of_all, rises_from}
use Rattle.board_core.proofs.capturing.first_capture.Goals as goal

pub movers-init : goal.movers-init
movers-init c = record {
  rests = Rests-begin _ _ (λ s b q. rw c.of_side-rest.ensures (set_of_side c.args.p.now.men c.args.p.now.side c.args.sides.now s c.requires.sides (rw q.2 at (IsLegal-stands c.args.p.now q.0 q.1.0.0))));
  none = λ s lt. absurd (omega arith);
}

pub returns-in-Some-clause-found : goal.returns-in-Some-clause-found
returns-in-Some-clause-found c =
    first_of_all (IsLaterCapture c.args.p.now c.args.start) (λ m. m.from) _ _ c.lowest-from.result c.args.p.now c.args.start c.in-Some.m c.in-Some.ensures.from (λ x w lt. rises_from c.in-Some.m x c.in-Some.ensures.found.candidate.to_board lt) (λ m w. w.0.0.1.from_board)
    c.movers.invariant.rests c.lowest-from.ensures.first c.movers.invariant.none c.in-Some.ensures.found

pub movers-preserved : goal.movers-preserved
movers-preserved c = record {
  rests = rw c.number-next.ensures.value (Rests-without _ _ _ _ _ (omega arith) c.movers.invariant.rests c.lowest-from.ensures.first c.lowest-from.ensures.here c.without-rest.ensures.gone c.without-rest.ensures.kept);
  none = rw c.number-next.ensures.value (none_on _ _ _ _ (omega arith) c.movers.invariant.rests c.lowest-from.ensures.first c.movers.invariant.none (λ q. c.in_default.ensures.none q.0 (q.1, q.2)));
}

pub returns-clause-none : goal.returns-clause-none
returns-clause-none c = λ m w. none_left _ _ _ c.movers.invariant.rests (c.is_empty.ensures.0 c.movers-test.false) c.movers.invariant.none m.from w.0.0.1.from_board (m, w, refl)
