use Rattle.std.proofs.Common.{sym, arith}
use Rattle.place_index.proofs.Materials.MenTables.{men_three, men_four, men_five}
use Rattle.place_index.proofs.material.men.Goals as goal

pub returns-in-0-to-4-clause-is : goal.returns-in-0-to-4-clause-is
returns-in-0-to-4-clause-is c = rw (← c.key.ensures.is) (sym (men_three c.key.result (omega arith)))

pub returns-in-5-to-34-clause-is : goal.returns-in-5-to-34-clause-is
returns-in-5-to-34-clause-is c = rw (← c.key.ensures.is) (sym (men_four c.key.result (omega arith) (omega arith)))

pub returns-in_default-clause-is : goal.returns-in_default-clause-is
returns-in_default-clause-is c = rw (← c.key.ensures.is) (sym (men_five c.key.result (omega arith) c.key.ensures.below))
