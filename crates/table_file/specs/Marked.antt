-- Bookmarks in a block of a part.
use Rattle.std.specs.Prelude.{ℕ, ◌*◌, List, take, drop, Option, Some, None}
use Rattle.pair_dict.specs.declared.bookmarks.Bookmarks.{Bookmarks}
use Rattle.pair_dict.specs.Marks.{AreMarks}
use Rattle.table_file.specs.declared.size_record.Coding.{Coding}
use Rattle.table_file.specs.declared.size_record.Coding.TheVariants.{Single, Pairs}
use Rattle.table_file.specs.declared.parts.Part.{Part}
use Rattle.table_file.specs.Figures.{block_size}
use Rattle.table_file.specs.Tables.{PartAt, part_of, blocks_of}

abbrev pub AreMarksOf : Coding → List ℕ → ℕ → Bookmarks → Type 0
AreMarksOf (Single v) blocks block marks = Unit {0}
AreMarksOf (Pairs c) blocks block marks = AreMarks c.dictionary (take (block_size c) (drop (block * block_size c) blocks)) marks

abbrev pub AreMarksAt : Option Part → List ℕ → ℕ → Bookmarks → Type 0
AreMarksAt None blocks block marks = Unit {0}
AreMarksAt (Some p) blocks block marks = AreMarksOf p.size_record.coding blocks block marks

-- Each bookmark is a place of this block of the part.
unfoldable pub AreMarksIn : PartAt → ℕ → Bookmarks → Type 0
AreMarksIn p block marks = AreMarksAt (part_of p) (blocks_of p) block marks

abbrev pub block_bytes_of : Coding → ℕ
block_bytes_of (Single v) = 0
block_bytes_of (Pairs c) = block_size c

abbrev pub block_bytes_at : Option Part → ℕ
block_bytes_at None = 0
block_bytes_at (Some p) = block_bytes_of p.size_record.coding

-- how many bytes each block of a part has
unfoldable pub block_bytes : PartAt → ℕ
block_bytes p = block_bytes_at (part_of p)
