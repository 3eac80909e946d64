use Rattle.theorems.proofs.Netting.{arbiters_are_worlds}
use Rattle.theorems.proofs.arbiters.arbiters_are_worlds.Goals as goal

pub returns : goal.returns
returns g c = arbiters_are_worlds g.K.Keeper.facts
