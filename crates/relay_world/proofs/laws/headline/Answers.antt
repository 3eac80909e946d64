use Rattle.relay_world.proofs.laws.headline.Goals as goal
use Rattle.relay_world.proofs.Faithful.{faithful_at}

pub returns : goal.returns
returns c = faithful_at
