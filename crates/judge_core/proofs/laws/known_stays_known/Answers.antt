use Rattle.judge_core.proofs.KnownValue.{known_stays_known}
use Rattle.judge_core.proofs.laws.known_stays_known.Goals as goal

pub returns : goal.returns
returns c = known_stays_known
