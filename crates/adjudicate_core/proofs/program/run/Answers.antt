use Rattle.adjudicate_core.specs.Program.{Misused, ToTask}
use Rattle.adjudicate_core.proofs.program.run.Goals as goal

pub returns-in-Ok : goal.returns-in-Ok
returns-in-Ok g c = ToTask c.in-Ok.task c.in-Ok.ensures.ok c.answer_task.ensures

pub returns-in-Err-Misuse : goal.returns-in-Err-Misuse
returns-in-Err-Misuse g c = Misused c.in-Err-Misuse.misuse (c.in-Err-Misuse.ensures.misuse c.in-Err-Misuse.misuse c.in-Err-Misuse.field-0-is) c.refuse_misuse.ensures
