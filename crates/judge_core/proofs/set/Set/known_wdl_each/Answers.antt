use Rattle.judge_core.proofs.KnownValue.{known_is_probe}
use Rattle.judge_core.proofs.set.Set.known_wdl_each.Goals as goal

pub returns-clause-probe : goal.returns-clause-probe
returns-clause-probe c p = known_is_probe c.args.self.now.tables p
