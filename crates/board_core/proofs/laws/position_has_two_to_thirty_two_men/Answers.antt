use Rattle.board_core.proofs.ComputedMen.{men_of_position}
use Rattle.board_core.proofs.laws.position_has_two_to_thirty_two_men.Goals as goal

pub returns : goal.returns
returns c = λ p i. men_of_position p i
