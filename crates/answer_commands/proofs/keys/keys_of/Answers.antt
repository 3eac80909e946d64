use Rattle.std.proofs.Common.{ap, refl}
use Rattle.std.specs.Prelude.{Err}
use Rattle.answer_parts.specs.declared.answers.refusals.Refusal.TheVariants as refusal
use Rattle.answer_commands.specs.KeyReads.{KeysAre, LineAtFault, OthersMay}
use Rattle.answer_commands.proofs.keys.keys_of.Goals as goal

pub returns-then-file-ne0 : goal.returns-then-file-ne0
returns-then-file-ne0 c = OthersMay c.if-file-ne0.true refl

pub returns-in-Ok : goal.returns-in-Ok
returns-in-Ok c = KeysAre c.in-Ok.keys c.if-file-ne0.false (rw c.deref.ensures.value at c.in-Ok.ensures.ok) refl

pub returns-in-Err : goal.returns-in-Err
returns-in-Err c = LineAtFault c.if-file-ne0.false c.in-Err.fault (rw c.deref.ensures.value at c.in-Err.ensures.err) (ap (λ n. Err (refusal.Key n)) c.line.ensures)
