use Rattle.place_index.proofs.Materials.MenTables.{leading_table, leading_least, leading_most}
use Rattle.place_index.proofs.material.leading_men.Goals as goal

pub returns-clause-is : goal.returns-clause-is
returns-clause-is c = rw (← c.key-key.ensures.is) (leading_table c.key-key.result c.key-key.ensures.below)

pub returns-clause-least : goal.returns-clause-least
returns-clause-least c = leading_least c.key-key.result c.key-key.ensures.below

pub returns-clause-most : goal.returns-clause-most
returns-clause-most c = leading_most c.key-key.result c.key-key.ensures.below

pub returns-clause-known : goal.returns-clause-known
returns-clause-known c = rw (← c.key-key.ensures.is) c.key-key.ensures.below
