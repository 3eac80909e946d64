use Rattle.std.proofs.Common.{refl}
use Rattle.answer_commands.specs.Run.{NoTable}
use Rattle.answer_commands.proofs.RunLaws.{ran_all}
use Rattle.answer_commands.proofs.run.answer_game.Goals as goal

pub returns-in-Ok-Ok : goal.returns-in-Ok-Ok
returns-in-Ok-Ok c =
    let runs = rw c.deref.ensures.value at (rw c.in-Ok-Ok.field-0-is at c.in-Ok-Ok.ensures.ok) in
    ran_all c.answer_world.result c.args.schedule.now c.args.game.now _ _ runs c.answer_world.ensures.lines c.answer_world.ensures.status

pub returns-in-Ok-Err : goal.returns-in-Ok-Err
returns-in-Ok-Err c = λ delay is_game text spells.
    NoTable c.args.schedule.now spells _ (rw c.in-Ok-Err.field-0-is at c.in-Ok-Err.ensures.err) refl refl
