use Rattle.judge_core.proofs.DeterminedMoves.{as_probed}
use Rattle.judge_core.proofs.laws.determined_move_is_as_probed.Goals as goal

pub returns : goal.returns
returns c = as_probed
