-- The expanded table of a part: all its values in one list (Syzygy table format, the values of a table).
use Rattle.std.specs.Prelude.{◌≡◌, ℕ, ◌-◌, ◌*◌, ◌<◌, ◌≤◌, List, [], ◌∷◌, ◌++◌, length, map, take, drop, slice_get, slice_index, replicate, Option, Some, None}
use Rattle.pair_dict.specs.Blocks.{block_values}
use Rattle.table_file.specs.declared.size_record.Coding.{Coding}
use Rattle.table_file.specs.declared.size_record.Coding.TheVariants.{Single, Pairs}
use Rattle.table_file.specs.declared.parts.Part.{Part}
use Rattle.table_file.specs.declared.spots.Spot.{Spot}
use Rattle.table_file.specs.declared.spots.Spot.TheVariants.{Single as SingleSpot, At}
use Rattle.table_file.specs.Figures.{Figures, block_size}
use Rattle.table_file.specs.Sparse.{sizes_of, IsSpotIn}
use Rattle.table_file.specs.Tables.{PartAt, part_of, lengths_of, blocks_of}

-- A single value stands at each index. Otherwise the entries are listed, and None is one that is damaged.
pub data Expansion : Type 0 where
  everywhere : ℕ → Expansion
  listed : List (Option ℕ) → Expansion

-- the values of a block, cut or filled with 'damaged' to the size that the block's length gives
abbrev pub filled : ℕ → List ℕ → List (Option ℕ)
filled size vs = map (λ v. Some v) (take size vs) ++ replicate (size - length vs) None

-- the blocks of these sizes, one after the other
unfoldable pub joined : Figures → List ℕ → List ℕ → List (Option ℕ)
joined c [] blocks = []
joined c (size ∷ sizes) blocks = filled size (block_values c.dictionary (take (block_size c) blocks)) ++ joined c sizes (drop (block_size c) blocks)

-- the real blocks alone
abbrev pub expanded : Coding → List ℕ → List ℕ → Expansion
expanded (Single v) lengths blocks = everywhere v
expanded (Pairs c) lengths blocks = listed (joined c (take c.blocks (sizes_of lengths)) blocks)

abbrev pub expanded_part : Option Part → List ℕ → List ℕ → Expansion
expanded_part None lengths blocks = listed []
expanded_part (Some p) lengths blocks = expanded p.size_record.coding lengths blocks

unfoldable pub expansion : PartAt → Expansion
expansion p = expanded_part (part_of p) (lengths_of p) (blocks_of p)

abbrev pub known : Option (Option ℕ) → Option ℕ
known None = None
known (Some o) = o

-- the value at an index, if there is an entry and it isn't damaged
abbrev pub entry_at : Expansion → ℕ → Option ℕ
entry_at (everywhere v) index = Some v
entry_at (listed entries) index = known (slice_get entries index)

-- the index is past the last entry
abbrev pub IsPast : Expansion → ℕ → Type 0
IsPast (everywhere v) index = ⊥
IsPast (listed entries) index = length entries ≤ index

-- ---- spots

abbrev pub IsSpotOf : Coding → List ℕ → ℕ → Spot → Type 0
IsSpotOf (Single v) lengths index (SingleSpot w) = w ≡ v
IsSpotOf (Single v) lengths index (At block offset) = ⊥
IsSpotOf (Pairs c) lengths index (SingleSpot w) = ⊥
IsSpotOf (Pairs c) lengths index (At block offset) = IsSpotIn (sizes_of lengths) c.blocks index block offset

-- an offset below 65536
abbrev pub IsShort : Spot → Type 0
IsShort (SingleSpot w) = Unit {0}
IsShort (At block offset) = offset < 65536

abbrev pub IsSpotAt : Option Part → List ℕ → ℕ → Spot → Type 0
IsSpotAt None lengths index spot = ⊥
IsSpotAt (Some p) lengths index spot = IsSpotOf p.size_record.coding lengths index spot

-- Where the entry of an index stands: the single value, or a real block and an offset in it that with the values before
-- the block makes the index.
unfoldable pub IsSpot : PartAt → ℕ → Spot → Type 0
IsSpot p index spot = IsSpotAt (part_of p) (lengths_of p) index spot

-- ---- blocks

abbrev pub blocks_in : Coding → ℕ
blocks_in (Single v) = 0
blocks_in (Pairs c) = c.blocks

abbrev pub real_blocks_in : Option Part → ℕ
real_blocks_in None = 0
real_blocks_in (Some p) = blocks_in p.size_record.coding

-- how many blocks hold values, those of padding entries not counted
unfoldable pub real_blocks : PartAt → ℕ
real_blocks p = real_blocks_in (part_of p)

-- a spot in a block names a real one, and an offset below 65536
abbrev pub IsRealSpot : PartAt → Spot → Type 0
IsRealSpot p (SingleSpot v) = Unit {0}
IsRealSpot p (At block offset) = (block < real_blocks p) × (offset < 65536)

abbrev pub values_in : Coding → List ℕ → List ℕ → ℕ → List ℕ
values_in (Single v) lengths blocks block = []
values_in (Pairs c) lengths blocks block = take (slice_index (sizes_of lengths) block) (block_values c.dictionary (take (block_size c) (drop (block * block_size c) blocks)))

abbrev pub values_at : Option Part → List ℕ → List ℕ → ℕ → List ℕ
values_at None lengths blocks block = []
values_at (Some p) lengths blocks block = values_in p.size_record.coding lengths blocks block

-- the values of a block, cut by its length
unfoldable pub part_block_values : PartAt → ℕ → List ℕ
part_block_values p block = values_at (part_of p) (lengths_of p) (blocks_of p) block
