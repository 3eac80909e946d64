use Rattle.std.proofs.Common.{ap, Ok}
use Rattle.source_core.proofs.TryLaws.{hears_came, hears_missed, hears_quiet}
use Rattle.source_core.proofs.exchange.receive_one.Goals as goal

pub returns-in-Ok-Some : goal.returns-in-Ok-Some
returns-in-Ok-Some g c =
    let came = rw c.in-Ok-Some.field-0-is at c.in-Ok-Some.ensures.made in
    rw c.take_up.ensures.port (hears_came _ _ _ _ _ _ _ _ _ _ _ _ _ came c.in-Ok-Some.ensures.same.to c.take_up.ensures.made (c.take_up.ensures.last _) c.take_up.ensures.learns)

pub returns-in-Ok-None : goal.returns-in-Ok-None
returns-in-Ok-None g c =
    let came = rw c.in-Ok-None.field-0-is at c.in-Ok-None.ensures.made in
    hears_quiet _ _ _ _ _ _ _ _ _ _ came c.in-Ok-None.ensures.same.to (c.in-Ok-None.ensures.quiet (ap Ok c.in-Ok-None.field-0-is)).sender c.note_quiet.ensures

pub returns-in-Err : goal.returns-in-Err
returns-in-Err g c = hears_missed _ _ _ _ _ _ _ _ _ c.in-Err.ensures.made c.in-Err.ensures.same.to c.in-Err.ensures.missed.sender
