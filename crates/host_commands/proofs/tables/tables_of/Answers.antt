use Rattle.std.proofs.Common.{refl, sym}
use Rattle.answer_parts.specs.Lines.{refusal_words}
use Rattle.host_commands.specs.Tables.{TablesAre, TablesAreNot}
use Rattle.host_commands.proofs.tables.tables_of.Goals as goal

pub returns-in-Ok-Ok : goal.returns-in-Ok-Ok
returns-in-Ok-Ok c =
    let is = sym (rw c.in-Ok-Ok.field-0-is at c.in-Ok-Ok.ensures.tables) in
    TablesAre c.in-Ok-Ok.set is (rw c.in-Ok-Ok.field-0-is at c.in-Ok-Ok.ensures.cache) refl refl

pub returns-in-Ok-Err : goal.returns-in-Ok-Err
returns-in-Ok-Err c =
    let is = sym (rw c.in-Ok-Err.field-0-is at c.in-Ok-Err.ensures.tables) in
    TablesAreNot (refusal_words c.in-Ok-Err.refusal) is refl refl
