use Rattle.std.proofs.Common.{sym}
use Rattle.system_io.proofs.FileSteps.{has_synced}
use Rattle.system_io.proofs.system_file.SystemCallsFileCalls.sync.Goals as goal

pub returns-in-Ok-clause-synced : goal.returns-in-Ok-clause-synced
returns-in-Ok-clause-synced g c = has_synced g.R.Handle.FileHandle.facts c.args.self.now.written c.in-Some.written c.in-Ok.synced (sym c.in-Some.ensures.value) c.in-Ok.ensures
