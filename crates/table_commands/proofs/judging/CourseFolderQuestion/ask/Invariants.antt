use Rattle.table_commands.proofs.GameInPlay.{HasJudged}
use Rattle.table_commands.specs.Inside.Courses.{course_of}
use Rattle.table_commands.proofs.judging.CourseFolderQuestion.ask.Given as goal

abbrev pub invariant-loop-ply : goal.invariant-loop-ply
invariant-loop-ply g l =
    HasJudged (g.F.TableFiles.facts l.folder.disk) l.folder.folder l.fn.set.tables l.set.tables (course_of l.self) l.ply l.standing (g.F.TableFiles.events l.folder.disk l.fn.log) (g.F.TableFiles.events l.folder.disk l.log)
