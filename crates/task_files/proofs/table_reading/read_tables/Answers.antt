use Rattle.std.proofs.Common.{refl}
use Rattle.task_files.specs.TableReads.{FolderUnlisted, taken}
use Rattle.task_files.proofs.ReadLaws.{are_files_read, reads_so}
use Rattle.task_files.proofs.table_reading.read_tables.Goals as goal

pub returns-in-Ok-clause-reads : goal.returns-in-Ok-clause-reads
returns-in-Ok-clause-reads g c =
    let read = rw c.deref.ensures.value at c.read_each.ensures in
    reads_so (g.S.System.outside c.args.system.now) _ _ _ c.args.folder.now c.args.manifest.now c.in-Ok.wanted.items (taken c.read_each.result) c.in-Ok.ensures read

pub returns-in-Ok-clause-files : goal.returns-in-Ok-clause-files
returns-in-Ok-clause-files g c =
    let read = rw c.deref.ensures.value at c.read_each.ensures in
    are_files_read (g.S.System.outside c.args.system.now) _ _ _ c.args.folder.now c.args.manifest.now c.in-Ok.wanted.items c.read_each.result c.in-Ok.ensures read

pub returns-in-Err-clause-reads : goal.returns-in-Err-clause-reads
returns-in-Err-clause-reads g c = let listing = c.in-Err.ensures in (listing.0, listing.1, FolderUnlisted c.in-Err.fault listing.2 refl)
