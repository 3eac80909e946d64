-- The bytes of the file that a plan describes (Syzygy table format).
use Rattle.std.specs.Prelude.{ℕ, zero, suc, ◌+◌, ◌-◌, ◌*◌, ◌/◌, ◌%◌, ◌^◌, Bool, true, false, List, [], ◌∷◌, ◌++◌, length, map, replicate, Option, Some, None, nat_le, ◌==◌, if◌then◌else◌}
use Rattle.std.specs.List.{flat_map}
use Rattle.std.specs.Int.{w16, w32, to_le_bytes, bytes_low_first}
use Rattle.place_index.specs.Shape.{has_pawns, size_of}
use Rattle.table_file.specs.declared.kind.TableKind.{TableKind}
use Rattle.table_file.specs.declared.kind.TableKind.TheVariants.{Wdl, Dtz}
use Rattle.table_file.specs.declared.forging.codes.Code.{Code}
use Rattle.table_file.specs.declared.plan.Plan.{Plan}
use Rattle.table_file.specs.declared.plan.PartPlan.{PartPlan}
use Rattle.table_file.specs.declared.plan.PairsPlan.{PairsPlan}
use Rattle.table_file.specs.declared.plan.MapsPlan.{MapsPlan}
use Rattle.table_file.specs.declared.plan.Content.{Content}
use Rattle.table_file.specs.declared.plan.Content.TheVariants.{Single, Pairs}
use Rattle.table_file.specs.Reading.{has_bit}
use Rattle.table_file.specs.Files.{is_symmetric, side_count, magic_of}
use Rattle.table_file.specs.Plan.{symbol_bytes, value_count, last_point, planned_shape, second_nibble, map_bytes, is_wide, code_of, codes_size}

-- zeros up to the next length that m divides
unfoldable pub filled_to : ℕ → List ℕ → List ℕ
filled_to m bytes = bytes ++ replicate ((m - length bytes % m) % m) 0

-- ---- head, orders and pieces

-- the magic number, and whether there are two sides (bit 0) and pawns (bit 1)
unfoldable pub head_bytes : TableKind → ℕ → List ℕ
head_bytes kind material = to_le_bytes w32 (magic_of kind) ++ ((if is_symmetric material then 0 else 1) + (if has_pawns material then 2 else 0)) ∷ []

-- a byte of which side 0 has the low half and side 1 the high half
abbrev pub halves : ℕ → ℕ → ℕ
halves low high = low % 16 + 16 * (high % 16)

-- the pieces of both sides; where one isn't there it has zeros
abbrev pub piece_halves : List ℕ → List ℕ → List ℕ
piece_halves [] pieces = []
piece_halves (low ∷ others) [] = halves low 0 ∷ piece_halves others []
piece_halves (low ∷ others) (high ∷ pieces) = halves low high ∷ piece_halves others pieces

-- the second order byte, where both sides have pawns
abbrev pub second_bytes : Option ℕ → ℕ → List ℕ
second_bytes None high = []
second_bytes (Some low) high = halves low high ∷ []

-- orders and pieces of a file of the leading pawn, with those of side 1
unfoldable pub setup_bytes : PartPlan → ℕ → ℕ → List ℕ → List ℕ
setup_bytes p order second pieces = halves p.order order ∷ second_bytes p.second second ++ piece_halves p.pieces.items pieces

-- those of all files of one side
unfoldable pub one_sided : List PartPlan → List ℕ
one_sided [] = []
one_sided (p ∷ parts) = setup_bytes p 0 0 [] ++ one_sided parts

-- those of all files of two sides
unfoldable pub two_sided : List PartPlan → List ℕ
two_sided [] = []
two_sided (p ∷ []) = []
two_sided (p ∷ q ∷ parts) = setup_bytes p q.order (second_nibble q.second) q.pieces.items ++ two_sided parts

abbrev pub setups_bytes : ℕ → List PartPlan → List ℕ
setups_bytes sides parts = if sides == 1 then one_sided parts else two_sided parts

-- ---- size records

unfoldable pub word_bytes : List ℕ → List ℕ
word_bytes words = flat_map (λ w. to_le_bytes w16 w) words

-- the greatest code length and the least, the lowest symbols, the count of symbols, the symbols, and fill
unfoldable pub dictionary_bytes : PairsPlan → List ℕ
dictionary_bytes q =
    q.greatest ∷ q.least ∷ (
    word_bytes q.lowest.items ++ (to_le_bytes w16 (length q.symbols.items) ++ (symbol_bytes q ++ replicate (length q.symbols.items % 2) 0))
    )

-- as few padding entries of 65536 values each as put the last sparse entry's value before their end
abbrev pub padding_for : ℕ → ℕ → ℕ
padding_for span size = (((last_point span size + 1) - size) + 65535) / 65536

abbrev pub planned_span : PairsPlan → ℕ
planned_span q = 2 ^ q.span_exponent

unfoldable pub figures_bytes : PairsPlan → ℕ → List ℕ
figures_bytes q size =
    q.block_exponent ∷ q.span_exponent ∷ padding_for (planned_span q) size ∷ to_le_bytes w32 (length q.blocks.items) ++ dictionary_bytes q

-- ---- block lengths and sparse entries

-- one less than the values of each block, where so many are left: the last block is cut
abbrev pub cut_lengths : List ℕ → ℕ → List ℕ
cut_lengths [] left = []
cut_lengths (count ∷ counts) left = ((if nat_le count left then count else left) - 1) ∷ cut_lengths counts (left - count)

-- the lengths of the blocks, and of the padding entries behind them
unfoldable pub planned_lengths : PairsPlan → ℕ → List ℕ
planned_lengths q size =
    cut_lengths (map (λ block. value_count (symbol_bytes q) block.items) q.blocks.items) size ++ replicate (padding_for (planned_span q) size) 65535

-- the block that holds the value of an index, and the offset there
unfoldable pub spot_among : List ℕ → ℕ → ℕ × ℕ
spot_among [] index = (0, index)
spot_among (l ∷ lengths) index =
    if nat_le index l then (0, index) else (let rest = spot_among lengths (index - suc l) in (suc rest.0, rest.1))

abbrev pub entry_bytes : ℕ × ℕ → List ℕ
entry_bytes spot = bytes_low_first 0 4 spot.0 ++ bytes_low_first 0 2 spot.1

-- the first so many entries, one for each span that is begun, for the value in its middle
unfoldable pub entries_bytes : List ℕ → ℕ → ℕ → List ℕ
entries_bytes lengths span zero = []
entries_bytes lengths span (suc k) = entries_bytes lengths span k ++ entry_bytes (spot_among lengths (k * span + span / 2))

-- ---- blocks

-- codes one after the other as one number, behind the bits before them
abbrev pub codes_number : (ℕ → Code) → ℕ → List ℕ → ℕ
codes_number code before [] = before
codes_number code before (s ∷ block) = codes_number code (before * 2 ^ (code s).length + (code s).bits) block

-- so many bytes of a number, the highest first
unfoldable pub big_endian_bytes : ℕ → ℕ → List ℕ
big_endian_bytes zero n = []
big_endian_bytes (suc k) n = n / 2 ^ (8 * k) % 256 ∷ big_endian_bytes k n

-- so many bytes that begin with the bits of these codes, the high bits first, and then zeros
unfoldable pub block_bytes : (ℕ → Code) → ℕ → List ℕ → List ℕ
block_bytes code size block = big_endian_bytes size (codes_number code 0 block * 2 ^ (8 * size - codes_size code block))

unfoldable pub blocks_bytes : PairsPlan → List ℕ
blocks_bytes q = flat_map (λ block. block_bytes (code_of q) (2 ^ q.block_exponent) block.items) q.blocks.items

-- ---- parts

-- what the sections of a file hold of a part
pub record Laid : Type 0 where
  pub size_record : List ℕ
  pub entries : List ℕ
  pub lengths : List ℕ
  pub blocks : List ℕ

abbrev pub laid_content : Content → ℕ → ℕ → Laid
laid_content (Single v) flags size = record { size_record = flags ∷ v ∷ []; entries = []; lengths = []; blocks = [] }
laid_content (Pairs q) flags size = record {
  size_record = flags ∷ figures_bytes q size;
  entries = entries_bytes (planned_lengths q size) (planned_span q) ((size + (planned_span q - 1)) / planned_span q);
  lengths = word_bytes (planned_lengths q size);
  blocks = blocks_bytes q;
}

-- a part of a file of the leading pawn
unfoldable pub laid_part : ℕ → PartPlan → ℕ → Laid
laid_part material p file = laid_content p.content p.flags (size_of (planned_shape material p file))

-- the parts from the k-th one on
abbrev pub laid_parts : ℕ → ℕ → ℕ → List PartPlan → List Laid
laid_parts material sides k [] = []
laid_parts material sides k (p ∷ parts) = laid_part material p (k / sides) ∷ laid_parts material sides (suc k) parts

-- ---- value maps

-- a map: its length, of two bytes where it is wide, and its entries
abbrev pub one_map_bytes : Bool → List ℕ → List ℕ
one_map_bytes true entries = to_le_bytes w16 (length entries) ++ map_bytes true entries
one_map_bytes false entries = length entries ∷ map_bytes false entries

-- wins, losses, cursed wins, blessed losses
unfoldable pub four_maps_bytes : Bool → MapsPlan → List ℕ
four_maps_bytes wide m =
    one_map_bytes wide m.win.items ++ one_map_bytes wide m.loss.items ++ one_map_bytes wide m.cursed_win.items ++ one_map_bytes wide m.blessed_loss.items

-- The file with the maps of a part, where its flags announce them; wide ones begin at an even place.
unfoldable pub with_maps : List ℕ → PartPlan → List ℕ
with_maps file p =
    if has_bit 2 p.flags
    then (if is_wide p then filled_to 2 file else file) ++ four_maps_bytes (is_wide p) p.maps
    else file

unfoldable pub with_each_maps : List ℕ → List PartPlan → List ℕ
with_each_maps file [] = file
with_each_maps file (p ∷ parts) = with_each_maps (with_maps file p) parts

-- A WDL file has no maps; in a DTZ file an even place follows them.
unfoldable pub with_all_maps : TableKind → List ℕ → List PartPlan → List ℕ
with_all_maps Wdl file parts = file
with_all_maps Dtz file parts = filled_to 2 (with_each_maps file parts)

-- ---- the whole file

-- the file with the blocks of each part, from a multiple of 64 on
unfoldable pub with_blocks : List ℕ → List Laid → List ℕ
with_blocks file [] = file
with_blocks file (l ∷ parts) = with_blocks (filled_to 64 file ++ l.blocks) parts

-- what stands before the size records
unfoldable pub front_bytes : Plan → List ℕ
front_bytes plan = filled_to 2 (head_bytes plan.kind plan.material ++ setups_bytes (side_count plan.kind plan.material) plan.parts.items)

-- the sections behind the maps
unfoldable pub with_sections : List ℕ → List Laid → List ℕ
with_sections file laid = with_blocks (file ++ flat_map (λ l. l.entries) laid ++ flat_map (λ l. l.lengths) laid) laid

-- fill, and a checksum of zeros
unfoldable pub ended_file : List ℕ → List ℕ
ended_file file = filled_to 64 file ++ replicate 16 0

unfoldable pub file_with : Plan → List Laid → List ℕ
file_with plan laid = ended_file (with_sections (with_all_maps plan.kind (front_bytes plan ++ flat_map (λ l. l.size_record) laid) plan.parts.items) laid)

-- The bytes of the file: head, orders and pieces, size records, value maps, sparse entries, block lengths, blocks, checksum.
unfoldable pub planned_file : Plan → List ℕ
planned_file plan = file_with plan (laid_parts plan.material (side_count plan.kind plan.material) 0 plan.parts.items)
