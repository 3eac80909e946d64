use Rattle.system_fakes.proofs.DiskLaws.{still}
use Rattle.system_fakes.proofs.disk_file.DiskFileKeptFile.settle.Goals as goal

pub returns-in-Good-clause-same : goal.returns-in-Good-clause-same
returns-in-Good-clause-same c = λ a b h. c.settle_now.ensures.same a b (still c.args.self.now c.next.new.self a b c.next.ensures.stands c.next.ensures.earlier h)
