use Rattle.std.proofs.Common.{string_bytes, sym}
use Rattle.system_io.proofs.FileSteps.{has_name}
use Rattle.system_io.proofs.system_file.SystemCallsFileCalls.rename.Goals as goal

pub returns-in-Ok-clause-renamed : goal.returns-in-Ok-clause-renamed
returns-in-Ok-clause-renamed g c =
    has_name (g.R.FilePaths.facts c.args.self.now.rt.now) (string_bytes c.args.self.now.path) c.args.self.now.synced c.in-Some.synced (sym c.in-Some.ensures.value) (rw c.as_str.ensures.value at c.in-Ok.ensures)
