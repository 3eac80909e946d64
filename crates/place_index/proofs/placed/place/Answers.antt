use Rattle.std.proofs.Common.{arith}
use Rattle.place_index.specs.Placed.{men_on}
use Rattle.place_index.proofs.Materials.Symmetric.{material_few}
use Rattle.place_index.proofs.placed.place.Goals as goal

pub men_on-count-requires : goal.men_on-count-requires
men_on-count-requires c = material_few c.args.material.now (men_on c.args.position.now.men) (omega (arith, c.key-key.ensures.is, c.key-key.ensures.below)) c.requires
