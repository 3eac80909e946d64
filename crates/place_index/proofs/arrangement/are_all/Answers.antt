use Rattle.std.proofs.Common.{refl, arith}
use Rattle.place_index.proofs.arrangement.are_all.Goals as goal

pub returns : goal.returns
returns c = (λ t i low lt. c.loop-i.invariant i low (omega (arith, lt, c.loop-i-test.false)), λ b. refl)
