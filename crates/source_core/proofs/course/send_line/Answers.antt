use Rattle.std.proofs.Common.{refl}
use Rattle.source_core.proofs.RunLaws.{line_refused, line_sent}
use Rattle.source_core.proofs.course.send_line.Goals as goal

pub returns-in-Err : goal.returns-in-Err
returns-in-Err g c =
    let refused = rw c.in-Err.is at c.move_of.ensures.err in
    line_refused _ _ _ _ _ refused

pub returns-in-Ok : goal.returns-in-Ok
returns-in-Ok g c =
    let played = rw c.in-Ok.is at c.move_of.ensures.ok in
    line_sent _ _ _ _ _ _ c.in-Ok.m c.send_move.result _ refl refl played (rw c.number-number.ensures.value at c.send_move.ensures) c.end_of.ensures
