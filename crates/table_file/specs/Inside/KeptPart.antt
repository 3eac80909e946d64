-- One part of a table as it is kept, and what opening the table checked of it.
use Rattle.std.specs.Prelude.{◌≡◌, true, length, Some}
use Rattle.table_file.specs.declared.parts.Section.TheVariants.{Entries, Lengths, Blocks}
use Rattle.table_file.specs.declared.table.OpenedPart.{OpenedPart}
use Rattle.table_file.specs.declared.table_part.TablePart.TheInside.{Inside}
use Rattle.table_file.specs.Files.{indices, section_size}
use Rattle.table_file.specs.Sparse.{fits_in}
use Rattle.table_file.specs.Tables.{PartAt, part_file, part_of, lengths_of, blocks_of}

-- sections of the right sizes, whose sparse entries name the values in the middle of their spans
pub record IsWholePart (o : OpenedPart) : Type 0 where
  pub entries_fit : length o.entries ≡ section_size Entries (indices o.head.shape) o.head.size_record.coding
  pub lengths_fit : length o.lengths ≡ section_size Lengths (indices o.head.shape) o.head.size_record.coding
  pub blocks_fit : length o.blocks ≡ section_size Blocks (indices o.head.shape) o.head.size_record.coding
  pub right : fits_in (indices o.head.shape) o.head.size_record.coding o.entries o.lengths ≡ true

-- what stands in a table at this place
pub record StandsInTable (p : PartAt) (o : OpenedPart) : Type 0 where
  pub found : part_of p ≡ Some o.head
  pub lengths : o.lengths ≡ lengths_of p
  pub blocks : o.blocks ≡ blocks_of p
  pub material : o.head.shape.material ≡ p.table.material
  pub file : o.head.shape.file ≡ part_file p.table.material p.file

abbrev pub part_of_table : Inside → PartAt
part_of_table a = record { table = a.table.now; side = a.side; file = a.file }

pub record IsKeptPart (a : Inside) : Type 0 where
  pub whole : IsWholePart a.part.now
  pub stands : StandsInTable (part_of_table a) a.part.now
