-- One part of an opened file, as opening it checked.
use Rattle.std.specs.Prelude.{◌≡◌, ℕ, ◌+◌, ◌*◌, ◌≤◌, true, List, length, Some}
use Rattle.place_index.specs.Shape.{greatest_size}
use Rattle.table_file.specs.declared.parts.Section.TheVariants.{Entries, Lengths, Blocks}
use Rattle.table_file.specs.declared.spots.View.{View}
use Rattle.table_file.specs.Figures.{Figures, span, sparse_entry_count}
use Rattle.table_file.specs.Files.{section_size, indices}
use Rattle.table_file.specs.Sparse.{sizes_of, are_entries, fits_in}
use Rattle.table_file.specs.Tables.{PartAt, part_of, lengths_of, blocks_of}
use Rattle.table_file.specs.declared.parts.Part.{Part}

-- sparse entries and block lengths of a part with blocks
pub record AreChecked (size : ℕ) (c : Figures) (entries lengths : List ℕ) : Type 0 where
  pub some : 1 ≤ size
  pub most : size ≤ greatest_size
  pub entries_fit : length entries ≡ 6 * sparse_entry_count size c
  pub lengths_fit : length lengths ≡ 2 * (c.blocks + c.padding)
  pub right : are_entries (sizes_of lengths) (span c) entries (sparse_entry_count size c) ≡ true

-- all sections of a part
pub record IsChecked (v : View) : Type 0 where
  pub some : 1 ≤ v.size
  pub most : v.size ≤ greatest_size
  pub entries_fit : length v.entries.now ≡ section_size Entries v.size v.coding.now
  pub lengths_fit : length v.lengths.now ≡ section_size Lengths v.size v.coding.now
  pub blocks_fit : length v.blocks.now ≡ section_size Blocks v.size v.coding.now
  pub right : fits_in v.size v.coding.now v.entries.now v.lengths.now ≡ true

-- a view of a part
pub record IsViewOf (p : PartAt) (v : View) : Type 0 where
  pub part : Part
  pub found : part_of p ≡ Some part
  pub size : v.size ≡ indices part.shape
  pub coding : v.coding.now ≡ part.size_record.coding
  pub lengths : v.lengths.now ≡ lengths_of p
  pub blocks : v.blocks.now ≡ blocks_of p
