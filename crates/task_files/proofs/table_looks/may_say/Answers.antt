use Rattle.task_files.specs.TableLooks.{Due}
use Rattle.task_files.proofs.table_looks.may_say.Goals as goal

pub returns : goal.returns
returns g c =
    let said = rw c.progress_line.ensures at c.say.ensures in
    (said.0, said.1, Due c.if-not-is_wanted.false c.if-before-after.false said.2)
