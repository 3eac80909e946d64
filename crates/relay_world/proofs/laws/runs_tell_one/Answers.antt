use Rattle.relay_world.proofs.laws.runs_tell_one.Goals as goal
use Rattle.relay_world.proofs.OneAnswer.{runs_tell_one}

pub returns : goal.returns
returns c = runs_tell_one
