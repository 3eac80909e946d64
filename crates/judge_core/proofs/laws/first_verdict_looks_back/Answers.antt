use Rattle.judge_core.proofs.InWords.{looks_back}
use Rattle.judge_core.proofs.laws.first_verdict_looks_back.Goals as goal

pub returns : goal.returns
returns c = looks_back
