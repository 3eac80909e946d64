use Rattle.std.proofs.Common.{◌≡◌, ◌++◌, take}
use Rattle.table_file.proofs.forging.values.put_narrow.Given as goal

abbrev pub invariant-loop-entry : goal.invariant-loop-entry
invariant-loop-entry l = l.bytes.items ≡ l.initial.bytes.items ++ take l.entry-index l.entries
