use Rattle.std.proofs.Common.{◌∙◌, Err, Ok, ap, subst, sym}
use Rattle.move_msg.specs.Files.{table_file_of}
use Rattle.table_folder.specs.Reads.{PassesSome}
use Rattle.task_files.specs.TableReads.{ReadsTable}
use Rattle.table_folder.proofs.Reading.{looks_by_file, looks_no_room}
use Rattle.table_folder.proofs.folder.TableFolder.table_of.Goals as goal

pub returns-in-Ok : goal.returns-in-Ok
returns-in-Ok g c =
    let read = subst (λ v. PassesSome (g.F.TableFiles.events v.disk c.args.log.now) (g.F.TableFiles.events v.disk c.table_file.new.log) (ReadsTable (g.F.TableFiles.facts v.disk) v.folder.path c.args.listed.now (Ok (table_file_of c.in-Ok.file)))) c.self.view_is c.in-Ok.ensures in
    looks_by_file _ _ _ (table_file_of c.in-Ok.file) _ _ _ c.requires (rw (c.as_str.ensures.text, c.deref.ensures.value) at c.table_in.ensures) read

pub returns-in-Err-OutOfMemory : goal.returns-in-Err-OutOfMemory
returns-in-Err-OutOfMemory g c =
    let read = subst (λ v. PassesSome (g.F.TableFiles.events v.disk c.args.log.now) (g.F.TableFiles.events v.disk c.table_file.new.log) (ReadsTable (g.F.TableFiles.facts v.disk) v.folder.path c.args.listed.now (Err c.in-Err-OutOfMemory.field-0))) c.self.view_is c.in-Err-OutOfMemory.ensures in
    looks_no_room _ _ _ _ _ _ _ c.requires read
