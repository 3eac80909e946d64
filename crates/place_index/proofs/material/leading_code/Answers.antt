use Rattle.place_index.proofs.Materials.KeyTables.{leading_code_table}
use Rattle.place_index.proofs.material.leading_code.Goals as goal

pub returns-clause-is : goal.returns-clause-is
returns-clause-is c = rw (← c.key-key.ensures.is) (leading_code_table c.key-key.result c.key-key.ensures.below)

pub returns-clause-known : goal.returns-clause-known
returns-clause-known c = rw (← c.key-key.ensures.is) c.key-key.ensures.below
