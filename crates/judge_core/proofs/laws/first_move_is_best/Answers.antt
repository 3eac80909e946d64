use Rattle.judge_core.proofs.RootOrder.{first_is_best}
use Rattle.judge_core.proofs.laws.first_move_is_best.Goals as goal

pub returns : goal.returns
returns c = first_is_best
