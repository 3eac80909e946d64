use Rattle.std.proofs.Common.{arith, sym, ◌∙◌, refl}
use Rattle.board_core.specs.Inside.Search.{IsLaterFrom}
use Rattle.board_core.proofs.Sweep.{Rests-without, none_on, none_left}
use Rattle.board_core.proofs.NextCapture.{first_of_all, rises_to}
use Rattle.board_core.proofs.capturing.capture_from.Goals as goal

pub returns-in-Some-clause-found : goal.returns-in-Some-clause-found
returns-in-Some-clause-found c =
    first_of_all (IsLaterFrom c.args.p.now c.args.start c.args.from) (λ m. m.to) _ _ c.lowest-to.result c.args.p.now c.args.start c.in-Some.m c.in-Some.ensures.to (λ x w lt. rises_to c.in-Some.m x (c.in-Some.ensures.from ∙ sym w.1) lt) (λ m w. w.0.0.0.1.to_board)
    c.targets.invariant.rests c.lowest-to.ensures.first c.targets.invariant.none c.in-Some.ensures.found

pub targets-preserved : goal.targets-preserved
targets-preserved c = record {
  rests = rw c.number-next.ensures.value (Rests-without _ _ _ _ _ (omega arith) c.targets.invariant.rests c.lowest-to.ensures.first c.lowest-to.ensures.here c.without-rest.ensures.gone c.without-rest.ensures.kept);
  none = rw c.number-next.ensures.value (none_on _ _ _ _ (omega arith) c.targets.invariant.rests c.lowest-to.ensures.first c.targets.invariant.none (λ q. c.in_default.ensures.none q.0 (q.1, q.2)));
}

pub returns-clause-none : goal.returns-clause-none
returns-clause-none c = λ m w. none_left _ _ _ c.targets.invariant.rests (c.is_empty.ensures.0 c.targets-test.false) c.targets.invariant.none m.to w.0.0.0.1.to_board (m, w, refl)

pub returns-then-is_left_behind-clause-found : goal.returns-then-is_left_behind-clause-found
returns-then-is_left_behind-clause-found c = tt

pub returns-in-Some-clause-none : goal.returns-in-Some-clause-none
returns-in-Some-clause-none c = tt

pub returns-clause-found : goal.returns-clause-found
returns-clause-found c = tt
