use Rattle.std.proofs.Common.{◌≡◌, map, drop}
use Rattle.move_msg.specs.Files.{table_file_of}
use Rattle.task_files.specs.FileNames.{file_named}
use Rattle.answer_parts.proofs.tables.file_named.Given as goal

abbrev pub invariant-loop-file : goal.invariant-loop-file
invariant-loop-file l = file_named l.name (map table_file_of (drop l.file-index l.files)) ≡ file_named l.name (map table_file_of l.files)
