use Rattle.std.proofs.Common.{◌∷◌, [], Err, ap, refl}
use Rattle.timeline.specs.Events.{FolderListed}
use Rattle.task_files.specs.TableReads.{NotListed}
use Rattle.task_files.proofs.ReadLaws.{lists_so}
use Rattle.task_files.proofs.table_reading.list_tables.Goals as goal

pub returns-in-Ok : goal.returns-in-Ok
returns-in-Ok g c =
    let noted = rw c.deref.ensures.value at c.note_if_none.ensures in
    let are = rw c.deref-in-Ok.ensures.value at c.wanted_names.ensures.ok in
    let cause = rw c.deref-in-Ok.ensures.value at c.wanted_names.ensures.cause in
    lists_so (g.S.System.outside c.args.system.now) _ _ _ _ _ _ c.wanted_names.result c.in-Ok.ensures.listed are cause c.in-Ok.ensures.made noted

pub returns-in-Err : goal.returns-in-Err
returns-in-Err g c = (FolderListed c.args.folder.now (Err c.in-Err.fault) ∷ [], c.in-Err.ensures.made, NotListed c.in-Err.fault (λ same. c.in-Err.ensures.cause (ap Err same)) refl refl)
