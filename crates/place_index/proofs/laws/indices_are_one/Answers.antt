use Rattle.place_index.proofs.Indices.IndexLaw.{indices_are_one}
use Rattle.place_index.proofs.laws.indices_are_one.Goals as goal

pub returns : goal.returns
returns c = indices_are_one
