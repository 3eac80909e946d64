use Rattle.std.proofs.Common.{map, take}
use Rattle.move_msg.specs.Files.{table_file_of}
use Rattle.task_files.proofs.ReadLaws.{HasRead}
use Rattle.task_files.proofs.table_reading.read_each.Given as goal

abbrev pub invariant-loop-name : goal.invariant-loop-name
invariant-loop-name g l = HasRead (g.S.System.outside l.system) l.folder (take l.name-index l.names) (map table_file_of l.files.items) l.fn.timeline l.timeline
