use Rattle.std.proofs.Common.{refl}
use Rattle.table_commands.proofs.game.outcome_of.Goals as goal

pub returns-in-Ok : goal.returns-in-Ok
returns-in-Ok c =
    let tables = rw c.in-Ok-Ok.field-0-is at c.in-Ok-Ok.ensures.tables in
    let is = rw c.plies-delay.ensures.value at c.in-Ok.ensures.value in
    rw (← tables) (c.in-Ok.outcome, is, c.told.ensures)

pub returns-in-Ok-Err : goal.returns-in-Ok-Err
returns-in-Ok-Err c =
    let tables = rw c.in-Ok-Err.field-0-is at c.in-Ok-Err.ensures.tables in
    rw (← tables) refl
