use Rattle.judge_core.proofs.KnownValue.{value_is_known}
use Rattle.judge_core.proofs.laws.value_is_known.Goals as goal

pub returns : goal.returns
returns c = value_is_known
