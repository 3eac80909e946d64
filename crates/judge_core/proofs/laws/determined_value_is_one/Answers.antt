use Rattle.judge_core.proofs.Completing.{one_value}
use Rattle.judge_core.proofs.laws.determined_value_is_one.Goals as goal

pub returns : goal.returns
returns c = one_value
