use Rattle.judge_core.proofs.RootOrder.{first_keeps_the_value}
use Rattle.judge_core.proofs.laws.first_move_keeps_the_value.Goals as goal

pub returns : goal.returns
returns c = first_keeps_the_value
