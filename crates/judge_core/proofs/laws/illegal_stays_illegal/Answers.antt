use Rattle.judge_core.proofs.InWords.{stays_illegal}
use Rattle.judge_core.proofs.laws.illegal_stays_illegal.Goals as goal

pub returns : goal.returns
returns c = stays_illegal
