use Rattle.judge_core.proofs.RootOrder.{determined_wins_within_rule}
use Rattle.judge_core.proofs.laws.first_determined_move_wins_within_rule.Goals as goal

pub returns : goal.returns
returns c = determined_wins_within_rule
