use Rattle.std.proofs.Common.{◌∷◌, [], ap, refl}
use Rattle.std.proofs.lemmas.Result.{IfOk-weaker}
use Rattle.answer_commands.specs.Run.{BadLine}
use Rattle.answer_commands.proofs.run.answer_text.Goals as goal

pub returns-in-Ok-Ok : goal.returns-in-Ok-Ok
returns-in-Ok-Ok c = IfOk-weaker c.answer_schedule.result _ _ (λ a is. is c.args.text.now (rw c.in-Ok-Ok.field-0-is at c.in-Ok-Ok.ensures.ok)) c.answer_schedule.ensures

pub returns-in-Ok-Err : goal.returns-in-Ok-Err
returns-in-Ok-Err c =
    let bad = rw c.in-Ok-Err.field-0-is at c.in-Ok-Err.ensures.err in
    BadLine bad.0 bad.1 (ap (λ words. words ∷ []) bad.2) refl
