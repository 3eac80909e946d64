use Rattle.judge_core.proofs.Completing.{one_distance}
use Rattle.judge_core.proofs.laws.determined_distance_is_one.Goals as goal

pub returns : goal.returns
returns c = one_distance
