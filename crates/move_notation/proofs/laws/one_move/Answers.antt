use Rattle.move_notation.proofs.TurnLaws.{names_one}
use Rattle.move_notation.proofs.laws.one_move.Goals as goal

pub returns : goal.returns
returns c = names_one c.one_move.ensures c.one_thing.ensures
