-- What a table file says, and the first fault in the order of its parts (Syzygy table format).
use Rattle.std.specs.Prelude.{◌≡◌, ℕ, false, ◌+◌, ◌*◌, ◌/◌, ◌%◌, List, [], slice_get, slice_index_or, Option, Some, None, Result, Ok, Err, if◌then◌else◌}
use Rattle.std.specs.List.{range_with_len}
use Rattle.board_core.specs.declared.piece.Side.{Side}
use Rattle.place_index.specs.Placed.{Placement, side_number}
use Rattle.place_index.specs.Shape.{Layout, has_pawns}
use Rattle.table_file.specs.declared.fault.TableFault.{TableFault}
use Rattle.table_file.specs.declared.fault.TableFault.TheVariants.{BadSparse}
use Rattle.table_file.specs.declared.kind.TableKind.{TableKind}
use Rattle.table_file.specs.declared.size_record.Coding.{Coding}
use Rattle.table_file.specs.declared.size_record.Coding.TheVariants.{Single, Pairs}
use Rattle.table_file.specs.declared.parts.Part.{Part}
use Rattle.table_file.specs.declared.parts.Section.TheVariants.{Entries, Lengths, Blocks}
use Rattle.table_file.specs.Reading.{◌>>=◌, each_at, risen}
use Rattle.table_file.specs.Names.{title_of}
use Rattle.table_file.specs.Figures.{span}
use Rattle.table_file.specs.Files.{side_count, files_of, side_of, body_of, magic_at, flags_at, setup_at, part_at, section_at}
use Rattle.table_file.specs.Maps.{ValueMaps, all_maps_at}
use Rattle.table_file.specs.Sparse.{all_fit}

-- What a file says. Part k is of file k / sides and of side k % sides. So are its sparse entries, its block lengths and its
-- blocks; these are bytes, and a part of a single value has none. Maps are there in DTZ files alone, four for each part.
pub record Contents : Type 0 where
  pub kind : TableKind
  pub material : ℕ
  pub parts : List Part
  pub maps : List ValueMaps
  pub entries : List (List ℕ)
  pub lengths : List (List ℕ)
  pub blocks : List (List ℕ)

-- name, size, magic and flags: the kind, the material, and what is left to read
unfoldable pub head_at : List ℕ → List ℕ → Result ((TableKind × ℕ) × List ℕ) TableFault
head_at name file = do
  title ← title_of name
  body ← body_of file
  magic ← magic_at title.0 body
  flags ← flags_at title.0 title.1 magic
  Ok (title, flags)

-- the sections behind the maps, and the check of the sparse entries
unfoldable pub sections_at : TableKind → ℕ → List Part → List ValueMaps → List ℕ → Result Contents TableFault
sections_at kind material parts maps bytes = do
  entries ← each_at (section_at Entries) parts bytes
  lengths ← each_at (section_at Lengths) parts entries.1
  blocks ← each_at (section_at Blocks) parts lengths.1
  if all_fit parts entries.0 lengths.0
      then Ok (record { kind = kind; material = material; parts = parts; maps = maps; entries = entries.0; lengths = lengths.0; blocks = blocks.0 })
      else Err BadSparse

-- how many parts a file has
abbrev pub part_count : TableKind → ℕ → ℕ
part_count kind material = files_of material * side_count kind material

-- shapes, size records and value maps, and then the sections
unfoldable pub parts_at : TableKind → ℕ → List ℕ → Result Contents TableFault
parts_at kind material bytes = do
  shapes ← each_at (setup_at material (side_count kind material)) (range_with_len 0 (part_count kind material)) bytes
  parts ← each_at (part_at kind) shapes.0 (risen 2 shapes.1)
  maps ← all_maps_at kind parts.0 parts.1
  sections_at kind material parts.0 maps.0 maps.1

-- the whole file of that name
unfoldable pub contents_at : List ℕ → List ℕ → Result Contents TableFault
contents_at name file = do
  head ← head_at name file
  parts_at head.0.0 head.0.1 head.1

-- ---- one part

-- One part of a table: that for a side to move and a file of the leading pawn, 0 for a and h to 3 for d and e.
pub record PartAt : Type 0 where
  pub table : Contents
  pub side : Side
  pub file : ℕ

abbrev pub part_for : Contents → Side → ℕ → PartAt
part_for t side file = record { table = t; side = side; file = file }

-- part k of a table
abbrev pub nth_part : Contents → ℕ → PartAt
nth_part t k = part_for t (side_of (k % side_count t.kind t.material)) (k / side_count t.kind t.material)

-- a file of the leading pawn, and 0 where there are no pawns
abbrev pub part_file : ℕ → ℕ → ℕ
part_file material file = if has_pawns material then file else 0

-- The place of a part. A table without pawns doesn't look at the file, and one of one side not at the side.
abbrev pub part_place : PartAt → ℕ
part_place p = part_file p.table.material p.file * side_count p.table.kind p.table.material + side_number p.side % side_count p.table.kind p.table.material

-- a placement for the table, by whose file of the leading pawn the part was found
pub record IsAskedBy (p : PartAt) (placed : Placement) : Type 0 where
  pub material : placed.material ≡ p.table.material
  pub file : placed.file ≡ p.file
  pub first : has_pawns placed.material ≡ false → placed.file ≡ 0

abbrev pub part_of : PartAt → Option Part
part_of p = slice_get p.table.parts (part_place p)

abbrev pub lengths_of : PartAt → List ℕ
lengths_of p = slice_index_or p.table.lengths (part_place p) []

abbrev pub blocks_of : PartAt → List ℕ
blocks_of p = slice_index_or p.table.blocks (part_place p) []

abbrev pub shape_in : Option Part → Option Layout
shape_in None = None
shape_in (Some p) = Some p.shape

-- the shape of a part
abbrev pub shape_of : PartAt → Option Layout
shape_of p = shape_in (part_of p)

abbrev pub flags_in : Option Part → Option ℕ
flags_in None = None
flags_in (Some p) = Some p.size_record.flags

-- the flags of a part's size record
abbrev pub flags_of : PartAt → Option ℕ
flags_of p = flags_in (part_of p)

-- how many values lie between two sparse entries of a part; one of a single value has no entry
abbrev pub coding_span : Coding → ℕ
coding_span (Single v) = 0
coding_span (Pairs c) = span c

abbrev pub span_in : Option Part → ℕ
span_in None = 0
span_in (Some p) = coding_span p.size_record.coding

-- the span of a part
abbrev pub span_of : PartAt → ℕ
span_of p = span_in (part_of p)
