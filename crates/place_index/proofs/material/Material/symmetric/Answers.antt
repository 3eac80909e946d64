use Rattle.place_index.proofs.Materials.KeyTables.{symmetric_table}
use Rattle.place_index.proofs.material.Material.symmetric.Goals as goal

pub returns : goal.returns
returns c = rw (← c.key-key.ensures.is) (symmetric_table c.key-key.result c.key-key.ensures.below)
