use Rattle.relay_world.proofs.laws.whole_records_are_one.Goals as goal
use Rattle.relay_world.proofs.Whole.{whole_is_one}

pub returns : goal.returns
returns c = whole_is_one
