use Rattle.std.proofs.Common.{arith, rules}
use Rattle.board_core.proofs.Sweep.{Rests-begin, Rests-without, none_on, none_left}
use Rattle.board_core.proofs.mobility.may_go_within.Goals as goal

pub targets-init : goal.targets-init
targets-init c = record {
  rests = Rests-begin _ _ (λ s b q. c.requires.whole s q);
  none = λ s lt. absurd (omega arith);
}

pub returns-then-may_go : goal.returns-then-may_go
returns-then-may_go c = (λ _. (c.lowest-to.result, c.may_go.ensures.0 c.if-may_go.true), λ _. search rules)

pub targets-preserved : goal.targets-preserved
targets-preserved c = record {
  rests = rw c.number-next.ensures.value (Rests-without _ _ _ _ _ (omega arith) c.targets.invariant.rests c.lowest-to.ensures.first c.lowest-to.ensures.here c.without-rest.ensures.gone c.without-rest.ensures.kept);
  none = rw c.number-next.ensures.value (none_on _ _ _ _ (omega arith) c.targets.invariant.rests c.lowest-to.ensures.first c.targets.invariant.none (λ q. let t = c.may_go.ensures.1 q in search rules));
}

pub returns : goal.returns
returns c = (λ t. search rules, λ a. absurd (none_left _ _ _ c.targets.invariant.rests (c.is_empty.ensures.0 c.targets-test.false) c.targets.invariant.none a.0 a.1.1.1.to_board a.1))
