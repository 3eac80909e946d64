use Rattle.std.proofs.Common.{◌≡◌, ◌++◌, take}
use Rattle.std.specs.List.{flat_map}
use Rattle.table_file.proofs.forging.layout.put_entries.Given as goal

abbrev pub invariant-loop-part : goal.invariant-loop-part
invariant-loop-part l = l.file.items ≡ l.initial.file.items ++ flat_map (λ p. p.entries) (take l.part-index l.parts)
