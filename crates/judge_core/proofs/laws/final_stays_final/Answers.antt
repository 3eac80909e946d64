use Rattle.judge_core.proofs.Opened.{final_stays_final}
use Rattle.judge_core.proofs.laws.final_stays_final.Goals as goal

pub returns : goal.returns
returns c = final_stays_final
