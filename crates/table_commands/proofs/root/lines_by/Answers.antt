use Rattle.std.proofs.Common.{false, inl, refl}
use Rattle.answer_parts.specs.Asked.{reply_of}
use Rattle.judge_core.specs.declared.ask.Ask.TheVariants.{Strict}
use Rattle.table_commands.specs.Root.{IsRootReply, IsToldIn, refused_words}
use Rattle.table_commands.proofs.FolderReadLaws.{made_or_not, makes_err, makes_in, makes_refusal}
use Rattle.table_commands.proofs.root.lines_by.Goals as goal

pub returns-in_err-answer : goal.returns-in_err-answer
returns-in_err-answer g c =
    let p = c.args.position.now in
    makes_err _ _ _ (refused_words false) _ (λ tables a. IsRootReply Strict tables p (reply_of a)) (λ tables. IsToldIn false Strict tables p) reply_of (λ tables a is. is) c.from_residual.result c.in_err-answer.field-0.0 _ _ c.from_residual.ensures.0 c.in_err-answer.ensures

pub returns-in-Ok : goal.returns-in-Ok
returns-in-Ok g c =
    let p = c.args.position.now in
    makes_in _ _ _ (refused_words false) _ (λ tables a. IsRootReply Strict tables p (reply_of a)) (λ tables. IsToldIn false Strict tables p) reply_of (λ tables a is. is) c.in-Ok.answer _ _ _ (inl refl) (rw c.in-Ok.is at c.in_ok-answer.ensures)

pub returns-in-Err : goal.returns-in-Err
returns-in-Err g c =
    let p = c.args.position.now in
    makes_refusal _ _ _ (refused_words false) _ (λ tables a. IsRootReply Strict tables p (reply_of a)) (λ tables. IsToldIn false Strict tables p) reply_of (λ tables a is. is) c.in-Err.refusal _ _ _ (made_or_not c.refused_as.result _ c.refused_as.ensures) (rw c.in-Err.is at c.in_ok-answer.ensures)
