use Rattle.judge_core.proofs.Looking.{is_probe}
use Rattle.judge_core.proofs.set.Set.wdl_each.Goals as goal

pub returns-clause-probe : goal.returns-clause-probe
returns-clause-probe c p = is_probe c.args.self.now.tables p
