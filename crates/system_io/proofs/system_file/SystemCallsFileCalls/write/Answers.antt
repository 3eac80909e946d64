use Rattle.std.proofs.Common.{string_bytes}
use Rattle.system_io.proofs.FileSteps.{has_written}
use Rattle.system_io.proofs.system_file.SystemCallsFileCalls.write.Goals as goal

pub returns-in-Ok-clause-beside : goal.returns-in-Ok-clause-beside
returns-in-Ok-clause-beside g c = has_written g.R.Handle.FileHandle.facts (string_bytes c.clear_once.new.self.path) c.args.bytes.now c.in-Ok.written (rw c.as_str.ensures.value at c.in-Ok.ensures)
