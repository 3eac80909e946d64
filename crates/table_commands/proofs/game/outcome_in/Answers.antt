use Rattle.std.proofs.Common.{ap, inl, refl}
use Rattle.std.specs.Prelude.{Ok}
use Rattle.answer_parts.specs.Lines.{refusal_words}
use Rattle.table_commands.specs.Courses.{IsOutcomeOf}
use Rattle.table_commands.specs.Game.{IsOutcomeReply, outcome_reply}
use Rattle.table_commands.specs.Inside.Courses.{course_of}
use Rattle.table_commands.proofs.FolderReadLaws.{makes_err, makes_in, makes_refusal}
use Rattle.table_commands.proofs.game.outcome_in.Goals as goal

pub returns-in_err-outcome : goal.returns-in_err-outcome
returns-in_err-outcome g c =
    let game = course_of c.args.game.now in
    makes_err _ _ _ refusal_words _ (IsOutcomeOf game) (IsOutcomeReply game) (λ outcome. outcome_reply outcome game.moves) (λ tables outcome is. (outcome, is, refl)) c.from_residual.result c.in_err-outcome.field-0.0 _ _ c.from_residual.ensures.0 c.in_err-outcome.ensures

pub returns-in-Ok : goal.returns-in-Ok
returns-in-Ok g c =
    let game = course_of c.args.game.now in
    makes_in _ _ _ refusal_words _ (IsOutcomeOf game) (IsOutcomeReply game) (λ outcome. outcome_reply outcome game.moves) (λ tables outcome is. (outcome, is, refl)) c.in-Ok.outcome _ _ _ (inl (ap Ok c.told.ensures)) (rw c.in-Ok.is at c.in_ok-outcome.ensures)

pub returns-in-Err : goal.returns-in-Err
returns-in-Err g c =
    let game = course_of c.args.game.now in
    makes_refusal _ _ _ refusal_words _ (IsOutcomeOf game) (IsOutcomeReply game) (λ outcome. outcome_reply outcome game.moves) (λ tables outcome is. (outcome, is, refl)) c.in-Err.refusal _ _ _ (inl refl) (rw c.in-Err.is at c.in_ok-outcome.ensures)
