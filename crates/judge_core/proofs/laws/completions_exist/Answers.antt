use Rattle.judge_core.proofs.Completing.{completions_exist}
use Rattle.judge_core.proofs.laws.completions_exist.Goals as goal

pub returns : goal.returns
returns c = completions_exist
