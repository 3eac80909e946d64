use Rattle.relay_world.proofs.laws.progress.Goals as goal
use Rattle.relay_world.proofs.Progress.{keeps_all, keeps_one}
use Rattle.relay_world.proofs.Whole.{last_of_outcome}

pub returns : goal.returns
returns c = record { all = keeps_all; one = keeps_one; last = last_of_outcome }
