use Rattle.judge_core.proofs.ByReadings.{probed_by, ruled_inside}
use Rattle.judge_core.proofs.set.Set.columns.Goals as goal

pub returns-in-Ok-clause-told : goal.returns-in-Ok-clause-told
returns-in-Ok-clause-told c =
    probed_by c.args.self.now.tables c.args.position.now c.in-Ok.readings.wdl c.in-Ok.readings.dtz c.columns.result.probed c.requires.scope (rw c.in-Ok.is at c.readings.ensures.wdl) (rw c.in-Ok.is at c.readings.ensures.dtz) c.columns.ensures.wdl c.columns.ensures.dtz

pub returns-in-Ok-clause-verdict : goal.returns-in-Ok-clause-verdict
returns-in-Ok-clause-verdict c =
    ruled_inside c.args.self.now.tables c.args.position.now c.in-Ok.readings.wdl c.in-Ok.readings.dtz c.columns.result.verdict c.requires.scope (rw c.in-Ok.is at c.readings.ensures.wdl) (rw c.in-Ok.is at c.readings.ensures.dtz) c.columns.ensures.verdict
