use Rattle.std.proofs.Common.{◌≡◌, map, take}
use Rattle.table_file.specs.Plan.{planned_maps_of}
use Rattle.table_file.proofs.forging.compared.are_each_maps.Given as goal

abbrev pub invariant-loop-i : goal.invariant-loop-i
invariant-loop-i l = take l.i l.maps ≡ map planned_maps_of (take l.i l.parts)
