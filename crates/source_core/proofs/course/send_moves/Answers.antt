use Rattle.source_core.proofs.CourseLaws.{with_no_notes, with_notes}
use Rattle.source_core.proofs.course.send_moves.Goals as goal

pub run-requires : goal.run-requires
run-requires g c = (c.begun_at-course.ensures.last, c.begun_at-course.ensures.known)

pub returns-in-Ok-clause-made : goal.returns-in-Ok-clause-made
returns-in-Ok-clause-made g c =
    let o = g.S.System.outside c.args.system.now in
    let ran = rw c.begun_at-course.ensures.port at rw c.begun_at-course.ensures.position at c.in-Ok.ensures.made in
    with_notes o _ _ _ _ _ _ _ c.in-Ok.ended ran c.note_end.ensures

pub returns-clause-made : goal.returns-clause-made
returns-clause-made g c =
    let o = g.S.System.outside c.args.system.now in
    let ran = rw c.begun_at-course.ensures.port at rw c.begun_at-course.ensures.position at c.in-Err.ensures.made in
    with_no_notes o _ _ _ _ _ _ c.in-Err.fault ran
