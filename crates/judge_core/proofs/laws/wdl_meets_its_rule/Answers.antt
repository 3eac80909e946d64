use Rattle.judge_core.proofs.Rule.{meets_rule}
use Rattle.judge_core.proofs.laws.wdl_meets_its_rule.Goals as goal

pub returns : goal.returns
returns c = λ tables p position. meets_rule tables p position
