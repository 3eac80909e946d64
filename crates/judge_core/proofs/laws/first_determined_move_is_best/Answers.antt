use Rattle.judge_core.proofs.RootOrder.{first_determined_is_best}
use Rattle.judge_core.proofs.laws.first_determined_move_is_best.Goals as goal

pub returns : goal.returns
returns c = first_determined_is_best
