use Rattle.answer_parts.specs.Looks.{gathered}
use Rattle.table_commands.specs.Game.{IsOutcomeOfGiven}
use Rattle.table_commands.specs.Inside.Courses.{course_of}
use Rattle.table_commands.proofs.FolderReadLaws.{makes_of_given}
use Rattle.table_commands.proofs.game.outcome_at.Goals as goal

pub returns-in-Some : goal.returns-in-Some
returns-in-Some g c = rw c.in-Some.is (rw c.manifest-manifest.ensures at c.outcome_in.ensures)

pub returns-in-None : goal.returns-in-None
returns-in-None g c =
    let game = course_of c.args.game.now in
    rw c.in-None.is (makes_of_given (gathered c.args.sources.now) (IsOutcomeOfGiven game) game.start c.outcome_of.result _ c.outcome_of.ensures)
