use Rattle.std.proofs.Common.{refl}
use Rattle.system_fakes.proofs.DiskLaws.{fewer}
use Rattle.system_fakes.proofs.disk_file.DiskFile.sync_names.Goals as goal

pub returns-then-not-self-clause-same : goal.returns-then-not-self-clause-same
returns-then-not-self-clause-same c = λ a b h. fewer c.args.self.now (record c.args.self.now { earlier = c.clear.new.self }) a b c.clear.ensures.items refl h
