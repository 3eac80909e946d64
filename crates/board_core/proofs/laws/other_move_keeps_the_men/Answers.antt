use Rattle.board_core.proofs.ComputedMen.{other_keeps}
use Rattle.board_core.proofs.laws.other_move_keeps_the_men.Goals as goal

pub returns : goal.returns
returns c = λ p m q i l f. other_keeps p m q i l f
