use Rattle.source_core.specs.Heard.{moment}
use Rattle.source_core.specs.Inside.Courses.{course_at}
use Rattle.source_core.proofs.CourseLaws.{HasRun}
use Rattle.source_core.proofs.course.run.Given as goal

abbrev pub invariant-loop-number : goal.invariant-loop-number
invariant-loop-number g l =
    let o = g.S.System.outside l.system in
    let first = o.lines l.fn.reading.lines in
    let now = o.lines l.reading.lines in
    HasRun first.fails now.fails first.takes_memory now.takes_memory l.fn.terms l.fn.course.position first.left now.left (moment o l.fn.timeline l.fn.course.exchange.port) (course_at o l.timeline l.course) l.number
