-- The parts of a table file, in their order (Syzygy table format).
use Rattle.std.specs.Prelude.{ℕ, ◌+◌, ◌-◌, ◌*◌, ◌/◌, ◌%◌, Bool, true, false, List, length, map, take, Result, Ok, Err, nat_lt, ◌==◌, ◌&&◌, not, if◌then◌else◌}
use Rattle.board_core.specs.declared.piece.Side.{Side}
use Rattle.board_core.specs.declared.piece.Side.TheVariants.{White, Black}
use Rattle.place_index.specs.Material.{men_of, pieces_of}
use Rattle.place_index.specs.Shape.{Layout, has_pawns, both_have_pawns, size_of}
use Rattle.table_file.specs.declared.fault.TableFault.{TableFault}
use Rattle.table_file.specs.declared.fault.TableFault.TheVariants.{BadSize, BadMagic, BadFlags}
use Rattle.table_file.specs.declared.kind.TableKind.{TableKind}
use Rattle.table_file.specs.declared.kind.TableKind.TheVariants.{Wdl, Dtz}
use Rattle.table_file.specs.declared.size_record.Coding.{Coding}
use Rattle.table_file.specs.declared.size_record.Coding.TheVariants.{Single, Pairs}
use Rattle.table_file.specs.declared.parts.Part.{Part}
use Rattle.table_file.specs.declared.parts.Section.{Section}
use Rattle.table_file.specs.declared.parts.Section.TheVariants.{Entries, Lengths, Blocks}
use Rattle.table_file.specs.Names.{equal}
use Rattle.table_file.specs.Figures.{block_size, sparse_entry_count}
use Rattle.table_file.specs.Shapes.{shape_at}
use Rattle.table_file.specs.SizeRecords.{size_record_at}
use Rattle.table_file.specs.Reading.{◌>>=◌, byte_at, taken_at, four_bytes_at, risen, has_bit}

-- ---- sides and files

-- whether both sides have the same men
unfoldable pub is_symmetric : ℕ → Bool
is_symmetric m = equal (men_of m).first (men_of m).second

-- WDL of unsymmetric material has two sides, all else has one
unfoldable pub side_count : TableKind → ℕ → ℕ
side_count Dtz m = 1
side_count Wdl m = if is_symmetric m then 1 else 2

-- files a to d of the leading pawn where there are pawns, else one
unfoldable pub files_of : ℕ → ℕ
files_of m = if has_pawns m then 4 else 1

-- The side of a number: 0 is the first side of the name, which counts as white, and 1 the second.
abbrev pub side_of : ℕ → Side
side_of n = if n == 0 then White else Black

-- how many indices a shape has
unfoldable pub indices : Layout → ℕ
indices l = size_of l

-- ---- size, magic and flags

-- the file without its last 16 bytes
unfoldable pub body_of : List ℕ → Result (List ℕ) TableFault
body_of file =
    if nat_lt (length file) 80 then Err BadSize
    else if length file % 64 == 16 then Ok (take (length file - 16) file) else Err BadSize

-- the bytes 0x71 0xE8 0x23 0x5D or 0xD7 0x66 0x0C 0xA5 as a number, the low byte first
abbrev pub magic_of : TableKind → ℕ
magic_of Wdl = 1562634353
magic_of Dtz = 2769053399

unfoldable pub magic_at : TableKind → List ℕ → Result (List ℕ) TableFault
magic_at kind bytes = do
  magic ← four_bytes_at bytes
  if magic.0 == magic_of kind then Ok magic.1 else Err BadMagic

abbrev pub same : Bool → Bool → Bool
same true b = b
same false b = not b

-- Bit 1 says whether there are pawns, and in WDL bit 0 whether there are two sides.
abbrev pub flags_agree : TableKind → ℕ → ℕ → Bool
flags_agree Wdl m flags = same (has_bit 2 flags) (has_pawns m) && same (has_bit 1 flags) (not (is_symmetric m))
flags_agree Dtz m flags = same (has_bit 2 flags) (has_pawns m)

unfoldable pub flags_at : TableKind → ℕ → List ℕ → Result (List ℕ) TableFault
flags_at kind m bytes = do
  flags ← byte_at bytes
  if flags_agree kind m flags.0 then Ok flags.1 else Err BadFlags

-- ---- orders and pieces

-- the half of a byte that belongs to a side: the low nibble to side 0, the high one to side 1
abbrev pub nibble : Side → ℕ → ℕ
nibble White b = b % 16
nibble Black b = b / 16

-- the second order byte, where both sides have pawns
unfoldable pub second_at : ℕ → List ℕ → Result (ℕ × List ℕ) TableFault
second_at m bytes = if both_have_pawns m then byte_at bytes else Ok (0, bytes)

-- The k-th shape: files in order, and the sides of each in order. The bytes of a file are left only after its last side.
unfoldable pub setup_at : ℕ → ℕ → ℕ → List ℕ → Result (Layout × List ℕ) TableFault
setup_at m sides k bytes = do
  order ← byte_at bytes
  second ← second_at m order.1
  men ← taken_at (length (pieces_of m)) second.1
  shape ← shape_at m (map (nibble (side_of (k % sides))) men.0) (nibble (side_of (k % sides)) order.0) (nibble (side_of (k % sides)) second.0) (k / sides)
  Ok (shape, if k % sides + 1 == sides then men.1 else bytes)

-- ---- size records

unfoldable pub part_at : TableKind → Layout → List ℕ → Result (Part × List ℕ) TableFault
part_at kind shape bytes = do
  size_record ← size_record_at kind bytes
  Ok (record { shape = shape; size_record = size_record.0 }, size_record.1)

-- ---- sparse entries, block lengths, blocks

-- how many bytes a section has for a part of so many indices
abbrev pub section_size : Section → ℕ → Coding → ℕ
section_size section size (Single v) = 0
section_size Entries size (Pairs c) = 6 * sparse_entry_count size c
section_size Lengths size (Pairs c) = 2 * (c.blocks + c.padding)
section_size Blocks size (Pairs c) = c.blocks * block_size c

-- where a section begins: blocks at the next multiple of 64
abbrev pub begun : Section → List ℕ → List ℕ
begun Entries bytes = bytes
begun Lengths bytes = bytes
begun Blocks bytes = risen 64 bytes

unfoldable pub section_at : Section → Part → List ℕ → Result (List ℕ × List ℕ) TableFault
section_at section part bytes = taken_at (section_size section (indices part.shape) part.size_record.coding) (begun section bytes)
