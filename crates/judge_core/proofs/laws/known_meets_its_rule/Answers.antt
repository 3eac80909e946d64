use Rattle.judge_core.proofs.KnownValue.{known_meets_rule}
use Rattle.judge_core.proofs.laws.known_meets_its_rule.Goals as goal

pub returns : goal.returns
returns c = known_meets_rule
