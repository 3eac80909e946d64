use Rattle.std.proofs.Common.{arith, inl, inr}
use Rattle.std.proofs.lemmas.Bool.{cases_lt}
use Rattle.board_core.proofs.Sweep.{Rests-without, Rests-empty}
use Rattle.board_core.proofs.Attacked.{Covers-all, Covers-more}
use Rattle.board_core.proofs.generation.attacked_squares.Goals as goal

pub loop-next-preserved : goal.loop-next-preserved
loop-next-preserved c = record {
  rests = rw c.number-next.ensures.value (Rests-without _ _ _ _ _ (omega arith) c.loop-next.invariant.rests c.lowest-from.ensures.first c.lowest-from.ensures.here c.without-rest.ensures.gone c.without-rest.ensures.kept);
  covered = rw (c.number-next.ensures.value, c.bitor-all.ensures) (Covers-more _ _ _ _ _ _ _ c.loop-next.invariant.rests c.lowest-from.ensures.first (omega arith) c.loop-next.invariant.covered c.attacks_from.ensures);
}

pub returns : goal.returns
returns c = Covers-all _ _ _ (λ s b taken. elim (cases_lt s c.loop-next.next) [
  | inl lt ↦ c.loop-next.invariant.covered s lt
  | inr ge ↦ absurd (Rests-empty _ _ _ s c.loop-next.invariant.rests (omega arith) b ge taken)
])
