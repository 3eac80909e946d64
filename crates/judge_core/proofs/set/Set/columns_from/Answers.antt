use Rattle.judge_core.proofs.AskedPawns.{lists}
use Rattle.judge_core.proofs.ByReadings.{ruled_inside}
use Rattle.judge_core.proofs.Told.{both_inside}
use Rattle.judge_core.proofs.set.Set.columns_from.Goals as goal

pub returns-in-Ok-clause-told : goal.returns-in-Ok-clause-told
returns-in-Ok-clause-told c =
    both_inside c.args.self.now.tables c.args.position.now c.requires.position c.in-Ok.determined.wdl c.in-Ok.determined.dtz c.columns_telling.result.probed c.requires.scope (rw c.in-Ok.is at c.determine.ensures.wdl) (rw c.in-Ok.is at c.determine.ensures.dtz) c.columns_telling.ensures.wdl c.columns_telling.ensures.dtz

pub returns-in-Ok-clause-verdict : goal.returns-in-Ok-clause-verdict
returns-in-Ok-clause-verdict c =
    ruled_inside c.args.self.now.tables c.args.position.now c.args.strict.now.wdl c.args.strict.now.dtz c.columns_telling.result.verdict c.requires.scope c.requires.wdl c.requires.dtz c.columns_telling.ensures.verdict

pub returns-in-Err-clause-memory : goal.returns-in-Err-clause-memory
returns-in-Err-clause-memory c = lists c.args.self.now.tables c.args.position.now c.requires.position c.in-Err.ensures.memory
