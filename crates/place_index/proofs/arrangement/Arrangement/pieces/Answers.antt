use Rattle.std.proofs.Common.{ap, length, arith}
use Rattle.place_index.proofs.Shapes.Greatest.{good_length}
use Rattle.place_index.proofs.Materials.MenTables.{men_least}
use Rattle.place_index.proofs.arrangement.Arrangement.pieces.Goals as goal

pub returns-clause-least : goal.returns-clause-least
returns-clause-least c =
    omega (
      arith,
      ap length c.as_slice.ensures.value,
      good_length c.self.inside.material c.self.inside.pieces.items c.self.invariant.pieces,
      men_least c.self.inside.material c.self.invariant.material,
    )
