use Rattle.std.proofs.Common.{◌≡◌, ◌++◌, ◌/◌, ◌%◌, ◌∷◌, [], take}
use Rattle.std.specs.List.{flat_map}
use Rattle.table_file.proofs.forging.values.put_wide.Given as goal

abbrev pub invariant-loop-entry : goal.invariant-loop-entry
invariant-loop-entry l = l.bytes.items ≡ l.initial.bytes.items ++ flat_map (λ e. e % 256 ∷ e / 256 ∷ []) (take l.entry-index l.entries)
