use Rattle.std.proofs.lemmas.Result.{IfOk-weaker}
use Rattle.system_fakes.proofs.DiskLaws.{kept_one, read_so}
use Rattle.system_fakes.proofs.disk_file.read_after.Goals as goal

pub returns-clause-left : goal.returns-clause-left
returns-clause-left c = IfOk-weaker c.begin.result _ _ (λ got h. read_so c.args.disk c.stop-started.result c.args.choice _ h c.stop-started.ensures.rest c.stop-started.ensures.left) c.begin.ensures.one

pub returns-clause-one : goal.returns-clause-one
returns-clause-one c = IfOk-weaker c.begin.result _ _ (λ got h. kept_one c.args.disk c.stop-started.result _ c.stop-started.ensures.same h) c.begin.ensures.one
