use Rattle.judge_core.proofs.RootOrder.{wins_within_rule}
use Rattle.judge_core.proofs.laws.first_move_wins_within_rule.Goals as goal

pub returns : goal.returns
returns c = wins_within_rule
