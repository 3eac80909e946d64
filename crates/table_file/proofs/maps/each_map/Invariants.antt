use Rattle.std.proofs.Common.{◌≡◌, drop}
use Rattle.table_file.specs.Reading.{each_at}
use Rattle.table_file.specs.Maps.{maps_at}
use Rattle.table_file.proofs.Loops.{with_front}
use Rattle.table_file.proofs.maps.each_map.Given as goal

abbrev pub invariant-loop-i : goal.invariant-loop-i
invariant-loop-i l = with_front l.maps.items (each_at maps_at (drop l.i l.parts) l.rest) ≡ each_at maps_at l.parts l.bytes
