use Rattle.std.proofs.Common.{◌≡◌, ◌++◌, length, take}
use Rattle.std.specs.Vec.Iter.{into_iter_items, into_iter_len}
use Rattle.table_file.specs.Inside.OpenedParts.{plain_parts, all_entries, all_lengths, all_blocks}
use Rattle.table_file.proofs.table.opened_parts.Given as goal

abbrev pub invariant-parts : goal.invariant-parts
invariant-parts l =
    record {
      parts : plain_parts l.opened.items ++ into_iter_items l.left ≡ l.fn.parts.items;
      entries : all_entries l.opened.items ≡ take (length l.opened.items) l.sections.entries.items;
      lengths : all_lengths l.opened.items ≡ take (length l.opened.items) l.sections.lengths.items;
      blocks : all_blocks l.opened.items ≡ take (length l.opened.items) l.sections.blocks.items;
      len : into_iter_len l.left ≡ length (into_iter_items l.left);
    }

abbrev pub decreases-parts : goal.decreases-parts
decreases-parts l = into_iter_len l.left
