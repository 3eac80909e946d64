use Rattle.std.proofs.Common.{inl, refl, true}
use Rattle.answer_parts.specs.Asked.{reply_of}
use Rattle.answer_parts.specs.declared.answers.Answer.TheVariants.{One}
use Rattle.answer_parts.specs.declared.answers.lines.Line.TheVariants.{Ruling}
use Rattle.answer_parts.specs.Lines.{refusal_words}
use Rattle.table_commands.specs.Inside.LookingUp.{AreColumns}
use Rattle.table_commands.specs.Judge.{JudgedBy, judged}
use Rattle.table_commands.proofs.FolderReadLaws.{makes_err, makes_in, makes_refusal}
use Rattle.table_commands.proofs.judge.verdict_in.Goals as goal

pub returns-in_err-columns : goal.returns-in_err-columns
unfolding judged
returns-in_err-columns g c = makes_err _ _ _ refusal_words _ (AreColumns c.args.position.now) (JudgedBy c.args.position.now) (λ x. reply_of (One (Ruling x.verdict) true)) (λ tables x are. rw are.1 refl) c.from_residual.result c.in_err-columns.field-0.0 _ _ c.from_residual.ensures.0 c.in_err-columns.ensures

pub returns-in-Ok : goal.returns-in-Ok
unfolding judged
returns-in-Ok g c = makes_in _ _ _ refusal_words _ (AreColumns c.args.position.now) (JudgedBy c.args.position.now) (λ x. reply_of (One (Ruling x.verdict) true)) (λ tables x are. rw are.1 refl) c.in-Ok.columns _ _ _ (inl refl) (rw c.in-Ok.is at c.in_ok-columns.ensures)

pub returns-in-Err : goal.returns-in-Err
unfolding judged
returns-in-Err g c = makes_refusal _ _ _ refusal_words _ (AreColumns c.args.position.now) (JudgedBy c.args.position.now) (λ x. reply_of (One (Ruling x.verdict) true)) (λ tables x are. rw are.1 refl) c.in-Err.refusal _ _ _ (inl refl) (rw c.in-Err.is at c.in_ok-columns.ensures)
