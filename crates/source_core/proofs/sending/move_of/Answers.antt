use Rattle.std.proofs.Common.{arith}
use Rattle.source_core.proofs.sending.move_of.Goals as goal

pub returns-in-None-clause-err : goal.returns-in-None-clause-err
returns-in-None-clause-err c =
    let spelled = rw c.in-Some.is at c.read-read.ensures.some in
    (c.number-number.ensures.value, omega (arith, c.number-number.ensures.in_range), (c.in-Some.m, spelled, λ legal. let e = c.in-None.ensures.only legal.0 legal.1 in absurd cc))
