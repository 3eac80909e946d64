use Rattle.arbiter_core.proofs.InWords.{one_resumed}
use Rattle.arbiter_core.proofs.laws.one_resumed.Goals as goal

pub returns : goal.returns
returns c = one_resumed
