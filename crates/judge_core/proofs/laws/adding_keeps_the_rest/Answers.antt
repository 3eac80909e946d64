use Rattle.judge_core.proofs.Opened.{adding_keeps_the_rest}
use Rattle.judge_core.proofs.laws.adding_keeps_the_rest.Goals as goal

pub returns : goal.returns
returns c = adding_keeps_the_rest
