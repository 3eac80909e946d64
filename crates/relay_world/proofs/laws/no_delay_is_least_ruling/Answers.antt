use Rattle.relay_world.proofs.laws.no_delay_is_least_ruling.Goals as goal
use Rattle.relay_world.proofs.Whole.{least_ruling}

pub returns : goal.returns
returns c = least_ruling c.no_delay_is_the_ruling.ensures
