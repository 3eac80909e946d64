use Rattle.task_files.specs.Inside.Readings.{looks_taken}
use Rattle.task_files.proofs.TurnLaws.{looks_alone, looks_then}
use Rattle.task_files.proofs.table_looks.look_at_tables.Goals as goal

pub returns-in-Ok : goal.returns-in-Ok
returns-in-Ok g c =
    let looked = rw c.deref.ensures.value at c.look_at_each.ensures in
    looks_then (g.S.System.outside c.args.system.now) c.args.folder.now c.args.progress g.L.TableRequest.made_of _ _ _ c.args.manifest.now c.in-Ok.wanted.items (looks_taken c.look_at_each.result) c.in-Ok.ensures looked

pub returns-in-Err : goal.returns-in-Err
returns-in-Err g c = looks_alone (g.S.System.outside c.args.system.now) c.args.folder.now c.args.progress g.L.TableRequest.made_of _ _ c.args.manifest.now c.in-Err.fault c.in-Err.ensures
