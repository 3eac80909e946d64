use Rattle.std.proofs.Common.{take}
use Rattle.std.specs.List.{Contains}
use Rattle.table_folder.proofs.folder.TableFolder.listed.Given as goal

abbrev pub invariant-loop-listed : goal.invariant-loop-listed
invariant-loop-listed g l = Contains (take l.listed-index l.listed-items) l.name → ⊥
