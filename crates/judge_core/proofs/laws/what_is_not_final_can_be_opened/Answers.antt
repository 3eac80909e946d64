use Rattle.judge_core.proofs.Opened.{not_final_can_be_opened}
use Rattle.judge_core.proofs.laws.what_is_not_final_can_be_opened.Goals as goal

pub returns : goal.returns
returns c = not_final_can_be_opened
