use Rattle.std.proofs.Common.{◌≡◌, take}
use Rattle.place_index.specs.Material.{name_at}
use Rattle.place_index.proofs.material.Material.name.Given as goal

abbrev pub invariant-loop-i : goal.invariant-loop-i
invariant-loop-i l = l.text.bytes ≡ take l.i (name_at l.self)
