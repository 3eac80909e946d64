use Rattle.std.proofs.Common.{arith, rules}
use Rattle.board_core.proofs.Sweep.{Rests-begin, Rests-without, none_on, none_left}
use Rattle.board_core.proofs.attack.some_attacks_to.Goals as goal

pub enemies-init : goal.enemies-init
enemies-init c = record {
  rests = Rests-begin _ _ (λ s b q. c.requires s b (q.kind, q.stands));
  none = λ s lt. absurd (omega arith);
}

pub returns-then-attacks_to : goal.returns-then-attacks_to
returns-then-attacks_to c = (
  λ _. let q = c.attacks_to.ensures.0 c.if-attacks_to.true in record { from = c.lowest-from.result; kind = q.kind; on_board = omega arith; stands = q.stands; reaches = q.reaches },
  λ _. search rules,
)

pub enemies-preserved : goal.enemies-preserved
enemies-preserved c = record {
  rests = rw c.number-next.ensures.value (Rests-without _ _ _ _ _ (omega arith) c.enemies.invariant.rests c.lowest-from.ensures.first c.lowest-from.ensures.here c.without-rest.ensures.gone c.without-rest.ensures.kept);
  none = rw c.number-next.ensures.value (none_on _ _ _ _ (omega arith) c.enemies.invariant.rests c.lowest-from.ensures.first c.enemies.invariant.none (λ q. let t = c.attacks_to.ensures.1 q in search rules));
}

pub returns : goal.returns
returns c = (λ t. search rules, λ a. absurd (none_left _ _ _ c.enemies.invariant.rests (c.is_empty.ensures.0 c.enemies-test.false) c.enemies.invariant.none a.from a.on_board (record { kind = a.kind; stands = a.stands; reaches = a.reaches })))
