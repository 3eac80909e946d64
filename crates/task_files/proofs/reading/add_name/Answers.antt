use Rattle.task_files.proofs.NameLaws.{adds}
use Rattle.task_files.proofs.reading.add_name.Goals as goal

pub returns-in-Ok-clause-ok : goal.returns-in-Ok-clause-ok
returns-in-Ok-clause-ok c =
    adds c.args.names.now.items _ c.args.name c.in-Some.place c.requires (rw c.deref.ensures.value at c.in-Some.ensures.place) c.in-Ok.ensures.items
