use Rattle.board_core.proofs.ComputedMen.{capture_takes}
use Rattle.board_core.proofs.laws.capture_takes_one_man.Goals as goal

pub returns : goal.returns
returns c = λ p m q i l t. capture_takes p m q i l t
