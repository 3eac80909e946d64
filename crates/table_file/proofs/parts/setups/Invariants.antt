use Rattle.std.proofs.Common.{◌≡◌, ◌≤◌, ◌-◌, length}
use Rattle.std.specs.List.{range_with_len}
use Rattle.table_file.specs.Reading.{each_at}
use Rattle.table_file.specs.Files.{side_count, setup_at}
use Rattle.table_file.specs.Tables.{part_count}
use Rattle.table_file.proofs.Loops.{with_front}
use Rattle.table_file.proofs.parts.setups.Given as goal

abbrev pub invariant-places : goal.invariant-places
invariant-places l =
    record {
      read : with_front l.shapes.items (each_at (setup_at l.material (side_count l.kind l.material)) (range_with_len (length l.shapes.items) (part_count l.kind l.material - length l.shapes.items)) l.rest)
          ≡ each_at (setup_at l.material (side_count l.kind l.material)) (range_with_len 0 (part_count l.kind l.material)) l.bytes;
      few : length l.shapes.items ≤ part_count l.kind l.material;
    }

abbrev pub decreases-places : goal.decreases-places
decreases-places l = part_count l.kind l.material - length l.shapes.items
