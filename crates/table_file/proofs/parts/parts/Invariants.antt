use Rattle.std.proofs.Common.{◌≡◌, ◌+◌, length}
use Rattle.std.specs.Vec.Iter.{into_iter_items, into_iter_len}
use Rattle.table_file.specs.Reading.{each_at}
use Rattle.table_file.specs.Files.{part_at}
use Rattle.table_file.proofs.Loops.{with_front}
use Rattle.table_file.proofs.parts.parts.Given as goal

abbrev pub invariant-shapes : goal.invariant-shapes
invariant-shapes l =
    record {
      read : with_front l.parts.items (each_at (part_at l.kind) (into_iter_items l.left) l.rest) ≡ each_at (part_at l.kind) l.fn.shapes.items l.bytes;
      len : into_iter_len l.left ≡ length (into_iter_items l.left);
      all : length l.parts.items + length (into_iter_items l.left) ≡ length l.fn.shapes.items;
    }

abbrev pub decreases-shapes : goal.decreases-shapes
decreases-shapes l = into_iter_len l.left
