use Rattle.std.proofs.Common.{refl}
use Rattle.task_files.specs.InputReads.{LinesAre}
use Rattle.task_files.proofs.input_reading.manifest_of.Goals as goal

pub returns-in-Ok : goal.returns-in-Ok
returns-in-Ok c = let is = c.in-Ok.ensures in LinesAre c.in-Ok.manifest is.0 is.1 is.2 (refl, refl)
