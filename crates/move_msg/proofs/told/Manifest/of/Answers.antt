use Rattle.std.proofs.Common.{refl, Ok, Err}
use Rattle.move_msg.proofs.ManifestFaults.{bad_line}
use Rattle.move_msg.proofs.told.Manifest.of.Goals as goal

pub returns-in-Ok : goal.returns-in-Ok
returns-in-Ok c = (Ok _, c.in-Ok.ensures.ok, refl)

pub returns-in-Err-BadLine : goal.returns-in-Err-BadLine
returns-in-Err-BadLine c = (Err _, bad_line _ _ c.in-Err-BadLine.number (cc) c.in-Err-BadLine.ensures.err, refl)
