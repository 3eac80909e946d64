use Rattle.std.proofs.Common.{[], refl}
use Rattle.std.specs.Prelude.{Some, string_bytes}
use Rattle.answer_parts.specs.Lines.{refusal_words}
use Rattle.host_commands.specs.Steps.{BothDone, FirstIsRefused}
use Rattle.host_commands.proofs.ready.ready_if.Goals as goal

pub returns-then-not-is_wanted : goal.returns-then-not-is_wanted
returns-then-not-is_wanted g c = rw c.if-not-is_wanted.true (refl, refl)

pub returns-in-Ok : goal.returns-in-Ok
returns-in-Ok g c = rw c.if-not-is_wanted.false (BothDone (string_bytes c.in-Ok.line) [] [] c.in-Ok.ensures (refl, refl) refl)

pub returns-in-Err : goal.returns-in-Err
returns-in-Err g c = rw c.if-not-is_wanted.false (FirstIsRefused (refusal_words c.in-Err.refusal) c.in-Err.ensures refl)
