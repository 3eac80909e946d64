-- A table as it is kept, and what opening it checked.
use Rattle.std.specs.Prelude.{◌≡◌, true, length}
use Rattle.table_file.specs.declared.kind.TableKind.TheVariants.{Dtz}
use Rattle.table_file.specs.declared.parts.Section.TheVariants.{Entries, Lengths, Blocks}
use Rattle.table_file.specs.declared.table.Table.TheInside.{Inside}
use Rattle.place_index.specs.Shape.{has_pawns}
use Rattle.table_file.specs.Files.{side_count}
use Rattle.table_file.specs.Inside.Places.{sides_count}
use Rattle.table_file.specs.Sparse.{all_fit}
use Rattle.table_file.specs.Tables.{Contents, part_count}
use Rattle.table_file.specs.Sections.{AreShaped, AreSized}
use Rattle.table_file.specs.Inside.OpenedParts.{plain_parts, all_entries, all_lengths, all_blocks}

abbrev pub contents_of : Inside → Contents
contents_of a = record {
  kind = a.kind;
  material = a.material;
  parts = plain_parts a.parts.items;
  maps = a.maps.items;
  entries = all_entries a.parts.items;
  lengths = all_lengths a.parts.items;
  blocks = all_blocks a.parts.items;
}

pub record IsOpened (a : Inside) : Type 0 where
  pub has_pawns : a.has_pawns ≡ has_pawns a.material
  pub sides : sides_count a.sides ≡ side_count a.kind a.material
  pub parts : length (plain_parts a.parts.items) ≡ part_count a.kind a.material
  pub shaped : AreShaped a.kind a.material (plain_parts a.parts.items)
  pub maps : a.kind ≡ Dtz → length a.maps.items ≡ length (plain_parts a.parts.items)
  pub entries : AreSized Entries (plain_parts a.parts.items) (all_entries a.parts.items)
  pub lengths : AreSized Lengths (plain_parts a.parts.items) (all_lengths a.parts.items)
  pub blocks : AreSized Blocks (plain_parts a.parts.items) (all_blocks a.parts.items)
  pub fit : all_fit (plain_parts a.parts.items) (all_entries a.parts.items) (all_lengths a.parts.items) ≡ true
