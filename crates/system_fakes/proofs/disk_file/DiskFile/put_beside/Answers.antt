use Rattle.std.proofs.Common.{◌∙◌, refl}
use Rattle.system_fakes.proofs.disk_file.DiskFile.put_beside.Goals as goal

pub returns-in-Ok-clause-written : goal.returns-in-Ok-clause-written
returns-in-Ok-clause-written c = record { content = _; is = refl; bytes_are = c.written.ensures.bytes ∙ c.in-Ok.ensures.items; whole = c.written.ensures.whole }
