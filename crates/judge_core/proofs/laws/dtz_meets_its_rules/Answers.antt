use Rattle.judge_core.proofs.TwoSteps.{in_scope}
use Rattle.judge_core.proofs.laws.dtz_meets_its_rules.Goals as goal

pub returns : goal.returns
returns c = λ tables p filed position scope. in_scope tables p filed position scope
