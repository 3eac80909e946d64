use Rattle.std.proofs.Common.{refl}
use Rattle.host_commands.specs.Listens.{StartIs, StartIsNone}
use Rattle.host_commands.proofs.listening.start_of.Goals as goal

pub returns-in-Ok : goal.returns-in-Ok
returns-in-Ok c =
    let read = rw c.as_bytes.ensures.value at c.in-Ok.ensures in
    StartIs c.in-Ok.start read.ok read.position refl refl

pub returns-in-Err : goal.returns-in-Err
returns-in-Err c = StartIsNone c.in-Err.fault (rw c.as_bytes.ensures.value at c.in-Err.ensures.err) refl refl
