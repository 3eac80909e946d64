-- Where a value stands among blocks, and the sparse entries that give it (Syzygy table format, sparse entries).
use Rattle.std.specs.Prelude.{◌≡◌, ℕ, zero, suc, ◌+◌, ◌*◌, ◌/◌, ◌<◌, Bool, true, List, [], ◌∷◌, length, take, sum, slice_index, nat_le, ◌==◌, ◌&&◌}
use Rattle.table_file.specs.declared.size_record.Coding.{Coding}
use Rattle.table_file.specs.declared.size_record.Coding.TheVariants.{Single, Pairs}
use Rattle.table_file.specs.declared.parts.Part.{Part}
use Rattle.table_file.specs.Figures.{span, sparse_entry_count}
use Rattle.table_file.specs.Files.{indices}

-- how many values each block holds: one more than its length, of two bytes, the low one first
abbrev pub sizes_of : List ℕ → List ℕ
sizes_of [] = []
sizes_of (a ∷ []) = []
sizes_of (a ∷ b ∷ rest) = suc (a + 256 * b) ∷ sizes_of rest

-- how many values stand before a block
abbrev pub values_before : List ℕ → ℕ → ℕ
values_before sizes block = sum (take block sizes)

-- an entry of six bytes, the low ones first: four of the block, two of the offset
abbrev pub entry_block : List ℕ → ℕ → ℕ
entry_block entries k = slice_index entries (6 * k) + 256 * slice_index entries (6 * k + 1) + 65536 * slice_index entries (6 * k + 2) + 16777216 * slice_index entries (6 * k + 3)

abbrev pub entry_offset : List ℕ → ℕ → ℕ
entry_offset entries k = slice_index entries (6 * k + 4) + 256 * slice_index entries (6 * k + 5)

-- entry k names the spot of the value in the middle of its span
unfoldable pub is_entry : List ℕ → ℕ → List ℕ → ℕ → Bool
is_entry sizes span entries k =
    nat_le (entry_block entries k) (length sizes) && (values_before sizes (entry_block entries k) + entry_offset entries k == k * span + span / 2)

-- the first n entries do
unfoldable pub are_entries : List ℕ → ℕ → List ℕ → ℕ → Bool
are_entries sizes span entries zero = true
are_entries sizes span entries (suc k) = is_entry sizes span entries k && are_entries sizes span entries k

-- all entries of a part do
abbrev pub fits_in : ℕ → Coding → List ℕ → List ℕ → Bool
fits_in size (Single v) entries lengths = true
fits_in size (Pairs c) entries lengths = are_entries (sizes_of lengths) (span c) entries (sparse_entry_count size c)

-- all entries of all parts do
unfoldable pub all_fit : List Part → List (List ℕ) → List (List ℕ) → Bool
all_fit [] entries lengths = true
all_fit (p ∷ parts) [] lengths = true
all_fit (p ∷ parts) (e ∷ entries) [] = true
all_fit (p ∷ parts) (e ∷ entries) (l ∷ lengths) = fits_in (indices p.shape) p.size_record.coding e l && all_fit parts entries lengths

-- the value at an index stands in this block, one of the real ones, at this offset
pub record IsSpotIn (sizes : List ℕ) (real index block offset : ℕ) : Type 0 where
  pub is_real : block < real
  pub within : offset < slice_index sizes block
  pub place : values_before sizes block + offset ≡ index
