use Rattle.std.proofs.Common.{inl, refl}
use Rattle.answer_parts.specs.Lines.{refusal_words}
use Rattle.table_commands.specs.Inside.LookingUp.{AreColumns}
use Rattle.table_commands.specs.Probe.{ProbedBy, probed_reply}
use Rattle.table_commands.proofs.FolderReadLaws.{made_or_not, makes_err, makes_in, makes_refusal}
use Rattle.table_commands.proofs.probe.told_in.Goals as goal

pub returns-in_err-columns : goal.returns-in_err-columns
returns-in_err-columns g c = makes_err _ _ _ refusal_words _ (AreColumns c.args.position.now) (ProbedBy c.args.position.now) (λ x. probed_reply x.probed) (λ tables x are. (x.probed, are.0, refl)) c.from_residual.result c.in_err-columns.field-0.0 _ _ c.from_residual.ensures.0 c.in_err-columns.ensures

pub returns-in-Ok : goal.returns-in-Ok
returns-in-Ok g c = makes_in _ _ _ refusal_words _ (AreColumns c.args.position.now) (ProbedBy c.args.position.now) (λ x. probed_reply x.probed) (λ tables x are. (x.probed, are.0, refl)) c.in-Ok.columns _ _ _ (made_or_not c.tell.result _ c.tell.ensures) (rw c.in-Ok.is at c.in_ok-columns.ensures)

pub returns-in-Err : goal.returns-in-Err
returns-in-Err g c = makes_refusal _ _ _ refusal_words _ (AreColumns c.args.position.now) (ProbedBy c.args.position.now) (λ x. probed_reply x.probed) (λ tables x are. (x.probed, are.0, refl)) c.in-Err.refusal _ _ _ (inl refl) (rw c.in-Err.is at c.in_ok-columns.ensures)
