use Rattle.std.proofs.Common.{refl, arith}
use Rattle.place_index.proofs.arrangement.begins_by_three.Goals as goal

pub returns : goal.returns
returns c = (λ t i lt. c.loop-i.invariant i (omega (arith, lt, c.loop-i-test.false)), λ b. refl)
