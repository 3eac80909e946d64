use Rattle.system_fakes.proofs.DiskLaws.{still}
use Rattle.system_fakes.proofs.disk_file.DiskFileKeptFile.sync_folder.Goals as goal

pub returns-in-After-clause-same : goal.returns-in-After-clause-same
returns-in-After-clause-same c = λ a b h.
    still c.sync_names-in-After.new.self c.fail-in-After.new.self a b c.fail-in-After.ensures.stands c.fail-in-After.ensures.earlier
    (c.sync_names-in-After.ensures.same a b (still c.args.self.now c.next.new.self a b c.next.ensures.stands c.next.ensures.earlier h))
