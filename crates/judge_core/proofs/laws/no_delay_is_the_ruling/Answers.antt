use Rattle.judge_core.proofs.StoodPlies.{no_delay}
use Rattle.judge_core.proofs.laws.no_delay_is_the_ruling.Goals as goal

pub returns : goal.returns
returns c = no_delay
