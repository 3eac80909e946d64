use Rattle.place_index.proofs.Turns.TurnedMen.{are_men}
use Rattle.place_index.proofs.indexing.Turned.pawn_numbers.Goals as goal

pub pawn_numbers_of-requires-clause-men : goal.pawn_numbers_of-requires-clause-men
pawn_numbers_of-requires-clause-men c = are_men c.self.inside.shape.now.material c.self.inside.men.now c.self.invariant.turned.shape.material c.self.invariant.men
