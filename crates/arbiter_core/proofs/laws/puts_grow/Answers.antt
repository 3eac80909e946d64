use Rattle.arbiter_core.proofs.Growing.{puts_grow}
use Rattle.arbiter_core.proofs.laws.puts_grow.Goals as goal

pub returns : goal.returns
returns c = puts_grow
