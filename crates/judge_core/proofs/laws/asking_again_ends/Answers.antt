use Rattle.judge_core.proofs.Opened.{asking_again_ends}
use Rattle.judge_core.proofs.laws.asking_again_ends.Goals as goal

pub returns : goal.returns
returns c = asking_again_ends
