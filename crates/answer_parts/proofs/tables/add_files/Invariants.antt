use Rattle.std.proofs.Common.{◌≡◌, map, drop}
use Rattle.move_msg.specs.Files.{table_file_of}
use Rattle.answer_parts.specs.Looks.{look_at, tables_from_looks}
use Rattle.answer_parts.proofs.tables.add_files.Given as goal

-- what the rest adds to the tables so far is what all add, and the cache stays
abbrev pub invariant-loop-file : goal.invariant-loop-file
invariant-loop-file l =
    (tables_from_looks l.set.tables (map look_at (map table_file_of (drop l.file-index l.files))) ≡ tables_from_looks l.fn.set.tables (map look_at (map table_file_of l.files)))
    × (l.set.cache ≡ l.fn.set.cache)
