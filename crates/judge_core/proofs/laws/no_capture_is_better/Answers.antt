use Rattle.judge_core.proofs.RootCaptures.{no_capture_is_better}
use Rattle.judge_core.proofs.laws.no_capture_is_better.Goals as goal

pub returns : goal.returns
returns c = no_capture_is_better
