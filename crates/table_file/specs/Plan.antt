-- What a plan of a table file says (Syzygy table format).
use Rattle.std.specs.Prelude.{◌≡◌, ℕ, ◌+◌, ◌-◌, ◌*◌, ◌/◌, ◌%◌, ◌^◌, ◌<◌, ◌≤◌, ◌↔◌, Bool, true, false, List, [], ◌∷◌, length, map, take, slice_get, slice_index, nat_le, if◌then◌else◌, Option, Some, None, IsSome, ◌&&◌}
use Rattle.std.specs.List.{flat_map, All}
use Rattle.pair_dict.specs.Symbols.{values_of, symbol_count, AllHaveValues}
use Rattle.pair_dict.specs.Codes.{Pairing, bases, IsCode}
use Rattle.pair_dict.specs.Reading.{falls}
use Rattle.place_index.specs.Shape.{Layout, layout, size_of, both_have_pawns, HasGoodPieces, HasGoodOrder}
use Rattle.table_file.specs.Files.{files_of, side_count}
use Rattle.table_file.specs.declared.forging.codes.Code.{Code}
use Rattle.table_file.specs.declared.plan.MapsPlan.{MapsPlan}
use Rattle.table_file.specs.declared.kind.TableKind.{TableKind}
use Rattle.table_file.specs.declared.kind.TableKind.TheVariants.{Wdl, Dtz}
use Rattle.table_file.specs.declared.plan.PartPlan.{PartPlan}
use Rattle.table_file.specs.declared.plan.PairsPlan.{PairsPlan}
use Rattle.table_file.specs.declared.plan.Content.{Content}
use Rattle.table_file.specs.declared.plan.Content.TheVariants.{Single, Pairs}
use Rattle.table_file.specs.Reading.{has_bit}
use Rattle.table_file.specs.Maps.{ValueMaps}
use Rattle.table_file.specs.Expansion.{Expansion, everywhere, listed}

-- ---- values

-- the symbols' bytes, three each
abbrev pub symbol_bytes : PairsPlan → List ℕ
symbol_bytes q = flat_map (λ s. s) q.symbols.items

-- the values of a block's symbols, one after the other
unfoldable pub symbols_values : List ℕ → List ℕ → List ℕ
symbols_values symbols block = flat_map (values_of symbols) block

-- the values of the first so many blocks
unfoldable pub first_values : PairsPlan → ℕ → List ℕ
first_values q n = flat_map (λ block. symbols_values (symbol_bytes q) block.items) (take n q.blocks.items)

-- the values of so many indices: those of all blocks, one after the other, the last ones cut
unfoldable pub plan_values : PairsPlan → ℕ → List ℕ
plan_values q size = take size (flat_map (λ block. symbols_values (symbol_bytes q) block.items) q.blocks.items)

-- the expanded table of so many indices
abbrev pub planned_expansion : Content → ℕ → Expansion
planned_expansion (Single v) size = everywhere v
planned_expansion (Pairs q) size = listed (map (λ v. Some v) (plan_values q size))

-- There is a value for each index.
abbrev pub HasEnough : Content → ℕ → Type 0
HasEnough (Single v) size = Unit {0}
HasEnough (Pairs q) size = length (plan_values q size) ≡ size

-- ---- shapes

-- the second nibble is 0 where there is none
abbrev pub second_nibble : Option ℕ → ℕ
second_nibble None = 0
second_nibble (Some second) = second

abbrev pub planned_shape : ℕ → PartPlan → ℕ → Layout
planned_shape material p file = layout material p.pieces.items p.order (second_nibble p.second) file

-- ---- maps

-- the entries of a map as bytes: two for each, the low one first, where maps are wide
abbrev pub map_bytes : Bool → List ℕ → List ℕ
map_bytes true entries = flat_map (λ e. e % 256 ∷ e / 256 ∷ []) entries
map_bytes false entries = entries

abbrev pub is_wide : PartPlan → Bool
is_wide p = has_bit 2 p.flags && has_bit 16 p.flags

abbrev pub planned_maps_of : PartPlan → ValueMaps
planned_maps_of p = record {
  wide = is_wide p;
  win = map_bytes (is_wide p) p.maps.win.items;
  loss = map_bytes (is_wide p) p.maps.loss.items;
  cursed_win = map_bytes (is_wide p) p.maps.cursed_win.items;
  blessed_loss = map_bytes (is_wide p) p.maps.blessed_loss.items;
}

-- the maps of wins are those of a planned part
abbrev pub HasWins : PartPlan → ValueMaps → Type 0
HasWins p maps = (maps.win ≡ map_bytes (is_wide p) p.maps.win.items) × (maps.cursed_win ≡ map_bytes (is_wide p) p.maps.cursed_win.items)

-- the maps of losses are those of a planned part
abbrev pub HasLosses : PartPlan → ValueMaps → Type 0
HasLosses p maps = (maps.loss ≡ map_bytes (is_wide p) p.maps.loss.items) × (maps.blessed_loss ≡ map_bytes (is_wide p) p.maps.blessed_loss.items)

-- A WDL file has no maps.
abbrev pub planned_maps : TableKind → List PartPlan → List ValueMaps
planned_maps Wdl parts = []
planned_maps Dtz parts = map planned_maps_of parts

-- ---- good plans

-- what the dictionary of a plan says
abbrev pub pairing_of : PairsPlan → Pairing
pairing_of q = record { least = q.least; lowest = q.lowest.items; symbols = symbol_bytes q }

-- The code of a symbol, from the lengths from n on and their lowest symbols. It has the least length whose lowest symbol
-- isn't above the symbol, and is as far above the base as the symbol is above the lowest one. It has no bits where there is
-- no such length.
unfoldable pub code_by : ℕ → List ℕ → ℕ → Code
code_by n [] s = record { length = 0; bits = 0 }
code_by n (low ∷ lowest) s =
    if nat_le low s then record { length = n; bits = slice_index (bases (low ∷ lowest)) 0 + (s - low) } else code_by (n + 1) lowest s

abbrev pub code_of : PairsPlan → ℕ → Code
code_of q s = code_by q.least q.lowest.items s

-- how many values a block's symbols stand for
abbrev pub value_count : List ℕ → List ℕ → ℕ
value_count symbols block = length (symbols_values symbols block)

-- how many bits the codes of symbols have
abbrev pub codes_size : (ℕ → Code) → List ℕ → ℕ
codes_size code [] = 0
codes_size code (s ∷ block) = (code s).length + codes_size code block

-- The figures of a size record. Exponents are in range. There is a lowest symbol for each length from the least to the
-- greatest, none above the one before. There are 1 to 4095 symbols, and the number of blocks fits four bytes.
pub record AreGoodFigures (q : PairsPlan) : Type 0 where
  pub block : q.block_exponent ≤ 24
  pub span_some : 1 ≤ q.span_exponent
  pub span_wide : q.span_exponent ≤ 31
  pub shortest : 1 ≤ q.least
  pub longest : q.greatest ≤ 32
  pub in_order : q.least ≤ q.greatest
  pub one_each : q.least + length q.lowest.items ≡ q.greatest + 1
  pub falling : falls q.lowest.items ≡ true
  pub some : 1 ≤ length q.symbols.items
  pub few : length q.symbols.items ≤ 4095
  pub blocks : length q.blocks.items < 2 ^ 32

-- Each symbol has a code, and its code is read as that symbol.
abbrev pub AreGoodCodes : PairsPlan → Type 0
AreGoodCodes q = (s : ℕ) → s < symbol_count (symbol_bytes q) → IsCode (pairing_of q) (code_of q s).length (code_of q s).bits s

-- A block has known symbols alone, whose codes fit its bytes.
pub record FitsBlock (q : PairsPlan) (block : List ℕ) : Type 0 where
  pub known : All (λ s. s < symbol_count (symbol_bytes q)) block
  pub fits : codes_size (code_of q) block ≤ 8 * 2 ^ q.block_exponent

-- Each block has 1 to 65536 values. Those before each block are below the size, and those of all blocks aren't.
pub record AreGoodBlocks (q : PairsPlan) (size : ℕ) : Type 0 where
  pub some : All (λ block. 1 ≤ value_count (symbol_bytes q) block.items) q.blocks.items
  pub few : All (λ block. value_count (symbol_bytes q) block.items ≤ 65536) q.blocks.items
  pub needed : (n : ℕ) → n < length q.blocks.items → length (first_values q n) < size
  pub enough : size ≤ length (first_values q (length q.blocks.items))

-- where the last sparse entry's value stands: in the middle of the last span that is begun
abbrev pub last_point : ℕ → ℕ → ℕ
last_point span size = (size - 1) / span * span + span / 2

-- Figures and codes are good, each symbol has 1 to 256 values, blocks are good and their codes fit, and no more than 255
-- padding entries are needed.
pub record AreGoodPairs (q : PairsPlan) (size : ℕ) : Type 0 where
  pub figures : AreGoodFigures q
  pub values : AllHaveValues (symbol_bytes q)
  pub codes : AreGoodCodes q
  pub fit : All (λ block. FitsBlock q block.items) q.blocks.items
  pub blocks : AreGoodBlocks q size
  pub padding : last_point (2 ^ q.span_exponent) size < size + 65536 * 255

-- A single value is one that a byte holds, in a DTZ file 0.
abbrev pub IsGoodSingle : TableKind → ℕ → Type 0
IsGoodSingle Wdl v = v < 256
IsGoodSingle Dtz v = v ≡ 0

-- The single flag announces a single value.
abbrev pub IsGoodContent : TableKind → Content → ℕ → ℕ → Type 0
IsGoodContent kind (Single v) flags size = (has_bit 128 flags ≡ true) × IsGoodSingle kind v
IsGoodContent kind (Pairs q) flags size = (has_bit 128 flags ≡ false) × AreGoodPairs q size

abbrev pub HasNoMaps : MapsPlan → Type 0
HasNoMaps m = (m.win.items ≡ []) × (m.loss.items ≡ []) × (m.cursed_win.items ≡ []) × (m.blessed_loss.items ≡ [])

-- whether a file has value maps of a part
abbrev pub has_maps : TableKind → PartPlan → Bool
has_maps Wdl p = false
has_maps Dtz p = has_bit 2 p.flags

-- a map whose length and entries its fields hold: two bytes each where it is wide, else one
abbrev pub IsGoodMap : Bool → List ℕ → Type 0
IsGoodMap true entries = length entries < 65536
IsGoodMap false entries = (length entries < 256) × All (λ e. e < 256) entries

pub record AreGoodMaps (wide : Bool) (m : MapsPlan) : Type 0 where
  pub win : IsGoodMap wide m.win.items
  pub loss : IsGoodMap wide m.loss.items
  pub cursed_win : IsGoodMap wide m.cursed_win.items
  pub blessed_loss : IsGoodMap wide m.blessed_loss.items

-- Pieces and orders make a shape: with a second order where both sides have pawns, and only there.
abbrev pub HasGoodShape : ℕ → PartPlan → ℕ → Type 0
HasGoodShape material p file = HasGoodPieces material p.pieces.items × HasGoodOrder (planned_shape material p file) × (IsSome p.second ↔ (both_have_pawns material ≡ true))

-- Pieces and orders make a shape, and there are maps only where a DTZ file's flags announce them.
pub record IsGoodPart (kind : TableKind) (material : ℕ) (p : PartPlan) (file : ℕ) : Type 0 where
  pub second : IsSome p.second ↔ (both_have_pawns material ≡ true)
  pub pieces : HasGoodPieces material p.pieces.items
  pub orders : HasGoodOrder (planned_shape material p file)
  pub content : IsGoodContent kind p.content p.flags (size_of (planned_shape material p file))
  pub maps : has_maps kind p ≡ false → HasNoMaps p.maps
  pub good_maps : AreGoodMaps (is_wide p) p.maps

-- as many parts as the material has, each a good one
pub record IsGoodPlan (kind : TableKind) (material : ℕ) (parts : List PartPlan) : Type 0 where
  pub count : length parts ≡ files_of material * side_count kind material
  pub each : (k : ℕ) (p : PartPlan) → slice_get parts k ≡ Some p → IsGoodPart kind material p (k / side_count kind material)
