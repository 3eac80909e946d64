use Rattle.std.proofs.Common.{map, take}
use Rattle.std.specs.Prelude.{string_bytes}
use Rattle.task_files.specs.TableReads.{HasTable}
use Rattle.task_files.proofs.table_reading.has_table.Given as goal

abbrev pub invariant-loop-name : goal.invariant-loop-name
invariant-loop-name l = HasTable (map string_bytes (take l.name-index l.names)) → ⊥
