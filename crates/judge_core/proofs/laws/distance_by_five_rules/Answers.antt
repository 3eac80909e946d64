use Rattle.judge_core.proofs.FiveRules.{by_five_rules}
use Rattle.judge_core.proofs.laws.distance_by_five_rules.Goals as goal

pub returns : goal.returns
returns c = by_five_rules c.few_men_have_tables.ensures
