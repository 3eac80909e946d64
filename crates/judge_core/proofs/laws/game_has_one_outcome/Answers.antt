use Rattle.judge_core.proofs.OneOutcome.{one_outcome}
use Rattle.judge_core.proofs.laws.game_has_one_outcome.Goals as goal

pub returns : goal.returns
returns c = one_outcome
