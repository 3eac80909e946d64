use Rattle.std.proofs.Common.{◌≡◌, map, drop}
use Rattle.move_msg.specs.Manifests.{entry_of}
use Rattle.move_msg.specs.Files.{table_file_of}
use Rattle.answer_parts.specs.Looks.{look_for, tables_from_looks}
use Rattle.answer_parts.proofs.tables.add_lines.Given as goal

-- what the rest adds to the tables so far is what all add, and the cache stays
abbrev pub invariant-loop-line : goal.invariant-loop-line
invariant-loop-line l =
    (tables_from_looks l.set.tables (map (look_for (map table_file_of l.files)) (map entry_of (drop l.line-index l.lines)))
    ≡ tables_from_looks l.fn.set.tables (map (look_for (map table_file_of l.files)) (map entry_of l.lines)))
    × (l.set.cache ≡ l.fn.set.cache)
