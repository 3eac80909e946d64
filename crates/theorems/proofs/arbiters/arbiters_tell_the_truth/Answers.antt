use Rattle.theorems.proofs.Netting.{arbiters_tell_the_truth}
use Rattle.theorems.proofs.arbiters.arbiters_tell_the_truth.Goals as goal

pub returns : goal.returns
returns g c = arbiters_tell_the_truth g.K.Keeper.facts
