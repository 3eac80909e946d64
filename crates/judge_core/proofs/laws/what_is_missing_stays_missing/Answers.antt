use Rattle.judge_core.proofs.MoreTables.{missing_stays}
use Rattle.judge_core.proofs.laws.what_is_missing_stays_missing.Goals as goal

pub returns : goal.returns
returns c = missing_stays
