use Rattle.adjudicate_core.specs.Program.{ByCommand, ByServer}
use Rattle.adjudicate_core.proofs.program.answer_task.Goals as goal

pub returns-in-Ok : goal.returns-in-Ok
returns-in-Ok g c = ByCommand c.in-Ok.task c.in-Ok.ensures c.answer.ensures

pub returns-in-Err : goal.returns-in-Err
returns-in-Err g c = ByServer c.in-Err.serve c.in-Err.ensures c.serve_and_end.ensures
