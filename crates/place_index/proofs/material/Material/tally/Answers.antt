use Rattle.place_index.proofs.Materials.Tallies.{tally_table}
use Rattle.place_index.proofs.material.Material.tally.Goals as goal

pub returns : goal.returns
returns c = rw (← c.key-key.ensures.is) (tally_table c.key-key.result c.key-key.ensures.below)
