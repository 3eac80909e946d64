use Rattle.std.proofs.Common.{refl, true}
use Rattle.answer_parts.specs.JsonAnswers.{json_reply}
use Rattle.json_lines.specs.Told.{IsLineOf}
use Rattle.judge_core.specs.declared.ask.Ask.TheVariants.{Strict}
use Rattle.table_commands.specs.Root.{IsToldIn, refused_words}
use Rattle.table_commands.proofs.FolderReadLaws.{made_or_not, makes_err, makes_in, makes_refusal}
use Rattle.table_commands.proofs.root.json_in.Goals as goal

pub returns-in_err-line : goal.returns-in_err-line
returns-in_err-line g c =
    let p = c.args.position.now in
    makes_err _ _ _ (refused_words true) _ (λ tables l. IsLineOf Strict true tables p l) (λ tables. IsToldIn true Strict tables p) json_reply (λ tables l is. (l, is, refl)) c.from_residual.result c.in_err-line.field-0.0 _ _ c.from_residual.ensures.0 c.in_err-line.ensures

pub returns-in-Ok : goal.returns-in-Ok
returns-in-Ok g c =
    let p = c.args.position.now in
    makes_in _ _ _ (refused_words true) _ (λ tables l. IsLineOf Strict true tables p l) (λ tables. IsToldIn true Strict tables p) json_reply (λ tables l is. (l, is, refl)) c.in-Ok.line _ _ _ (made_or_not c.answer_as_json.result _ c.answer_as_json.ensures) (rw c.in-Ok.is at c.in_ok-line.ensures)

pub returns-in-Err : goal.returns-in-Err
returns-in-Err g c =
    let p = c.args.position.now in
    makes_refusal _ _ _ (refused_words true) _ (λ tables l. IsLineOf Strict true tables p l) (λ tables. IsToldIn true Strict tables p) json_reply (λ tables l is. (l, is, refl)) c.in-Err.refusal _ _ _ (made_or_not c.refused_as.result _ c.refused_as.ensures) (rw c.in-Err.is at c.in_ok-line.ensures)
