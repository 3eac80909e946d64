use Rattle.judge_core.proofs.Plies.{goes_on}
use Rattle.judge_core.proofs.laws.one_move_more.Goals as goal

pub returns : goal.returns
returns c = goes_on
