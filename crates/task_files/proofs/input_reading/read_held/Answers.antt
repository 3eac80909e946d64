use Rattle.std.specs.Prelude.{map}
use Rattle.move_msg.specs.Files.{table_file_of}
use Rattle.task_files.specs.Sources.{named_by}
use Rattle.task_files.proofs.InputReadLaws.{held_read, held_unread, held_unwanted}
use Rattle.task_files.proofs.input_reading.read_held.Goals as goal

pub returns-in-Err-clause-reads : goal.returns-in-Err-clause-reads
returns-in-Err-clause-reads g c = held_unread (g.S.System.outside c.args.system.now) _ _ (named_by c.args.places.now) c.in-Err.fault c.in-Err.ensures

pub returns-in-Ok-wanted_files-clause-reads : goal.returns-in-Ok-wanted_files-clause-reads
returns-in-Ok-wanted_files-clause-reads g c = held_read (g.S.System.outside c.args.system.now) _ _ _ (named_by c.args.places.now) c.in-Ok.manifest (map table_file_of c.in-Ok-wanted_files.files.items) c.in-Ok.ensures c.in-Ok-wanted_files.ensures.reads

pub returns-in-Err-wanted_files-clause-reads : goal.returns-in-Err-wanted_files-clause-reads
returns-in-Err-wanted_files-clause-reads g c = held_unwanted (g.S.System.outside c.args.system.now) _ _ _ (named_by c.args.places.now) c.in-Ok.manifest c.in-Err-wanted_files.fault c.in-Ok.ensures c.in-Err-wanted_files.ensures.reads
