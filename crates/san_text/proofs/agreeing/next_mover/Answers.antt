use Rattle.std.proofs.Common.{arith, rules}
use Rattle.board_core.proofs.Sweep.{Rests-without, none_on}
use Rattle.san_text.proofs.LegalMoves.{others_rest}
use Rattle.san_text.proofs.agreeing.next_mover.Goals as goal

pub returns-then-may_be_meant-clause-rest : goal.returns-then-may_be_meant-clause-rest
returns-then-may_be_meant-clause-rest c = λ s b w q ne.
    others_rest _ _ _ _ _ c.movers.invariant.rests c.movers.invariant.none c.without-rest.ensures.kept s b (record { meant = q; here = w }) ne

pub movers-preserved : goal.movers-preserved
movers-preserved c = record {
  rests = rw c.number-next.ensures.value (Rests-without _ _ _ _ _ (omega arith) c.movers.invariant.rests c.lowest-from.ensures.first c.lowest-from.ensures.here c.without-rest.ensures.gone c.without-rest.ensures.kept);
  none = rw c.number-next.ensures.value (none_on _ _ _ _ (omega arith) c.movers.invariant.rests c.lowest-from.ensures.first c.movers.invariant.none (λ q. let t = c.may_be_meant.ensures.1 q.meant in search rules));
  part = λ s e. c.movers.invariant.part s (c.without-rest.ensures.only s e);
}
