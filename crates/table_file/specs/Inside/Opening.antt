-- Steps of opening a file, as its functions take them.
use Rattle.std.specs.Prelude.{ℕ, List, length, Result, Ok, Err, if◌then◌else◌}
use Rattle.std.specs.List.{range_with_len}
use Rattle.place_index.specs.Material.{pieces_of}
use Rattle.table_file.specs.declared.fault.TableFault.{TableFault}
use Rattle.table_file.specs.declared.fault.TableFault.TheVariants.{BadSparse}
use Rattle.table_file.specs.declared.kind.TableKind.{TableKind}
use Rattle.table_file.specs.declared.parts.Part.{Part}
use Rattle.table_file.specs.declared.parts.Section.TheVariants.{Entries, Lengths, Blocks}
use Rattle.table_file.specs.Reading.{◌>>=◌, each_at, byte_at, taken_at, risen}
use Rattle.table_file.specs.Files.{side_count, second_at, setup_at, part_at, section_at}
use Rattle.table_file.specs.Sparse.{all_fit}
use Rattle.table_file.specs.Tables.{part_count}

-- the sections behind the maps: of each part its sparse entries, its block lengths and its blocks
pub record SectionBytes : Type 0 where
  pub entries : List (List ℕ)
  pub lengths : List (List ℕ)
  pub blocks : List (List ℕ)

unfoldable pub section_bytes_at : List Part → List ℕ → Result SectionBytes TableFault
section_bytes_at parts bytes = do
  entries ← each_at (section_at Entries) parts bytes
  lengths ← each_at (section_at Lengths) parts entries.1
  blocks ← each_at (section_at Blocks) parts lengths.1
  Ok (record { entries = entries.0; lengths = lengths.0; blocks = blocks.0 })

-- and the check of the sparse entries
unfoldable pub checked_at : List Part → List ℕ → Result SectionBytes TableFault
checked_at parts bytes = do
  runs ← section_bytes_at parts bytes
  if all_fit parts runs.entries runs.lengths then Ok runs else Err BadSparse

-- the order bytes and the pieces of a file of the leading pawn, and what is left
unfoldable pub both_setups_at : ℕ → List ℕ → Result ((ℕ × ℕ × List ℕ) × List ℕ) TableFault
both_setups_at m bytes = do
  order ← byte_at bytes
  second ← second_at m order.1
  men ← taken_at (length (pieces_of m)) second.1
  Ok ((order.0, second.0, men.0), men.1)

-- shapes and size records, and what is left
unfoldable pub all_parts_at : TableKind → ℕ → List ℕ → Result (List Part × List ℕ) TableFault
all_parts_at kind material bytes = do
  shapes ← each_at (setup_at material (side_count kind material)) (range_with_len 0 (part_count kind material)) bytes
  each_at (part_at kind) shapes.0 (risen 2 shapes.1)
