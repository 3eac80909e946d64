use Rattle.place_index.specs.Inside.Turns.{turned_by}
use Rattle.place_index.proofs.Turns.LeadSquares.{group_few}
use Rattle.place_index.proofs.Turns.TurnedMen.{are_men}
use Rattle.place_index.proofs.indexing.Turned.squares_of.Goals as goal

pub squares_of-requires-clause-men : goal.squares_of-requires-clause-men
squares_of-requires-clause-men c = are_men c.self.inside.shape.now.material c.self.inside.men.now c.self.invariant.turned.shape.material c.self.invariant.men

pub squares_of-requires-clause-few : goal.squares_of-requires-clause-few
squares_of-requires-clause-few c = group_few c.self.inside.shape.now.material (turned_by c.self.inside.turn c.self.inside.men.now) c.args.code c.self.invariant.turned.shape.material c.self.invariant.turned.men
