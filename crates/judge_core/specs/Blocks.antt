-- Decoded blocks of tables.
use Rattle.std.specs.Prelude.{◌≡◌, ℕ, ◌≤◌, List, [], length, All, Option, None, Some, option_map, slice_index_or, Contains}
use Rattle.table_file.specs.Files.{side_of}
use Rattle.table_file.specs.Tables.{PartAt, part_for}
use Rattle.table_file.specs.Expansion.{part_block_values}
use Rattle.table_file.specs.Marked.{AreMarksIn}
use Rattle.judge_core.specs.declared.blocks.BlockKey.{BlockKey}
use Rattle.judge_core.specs.declared.blocks.MarkedBlock.{MarkedBlock}
use Rattle.judge_core.specs.declared.blocks.Blocks.{Blocks}
use Rattle.judge_core.specs.Tables.{Tables, Holding}

-- the part of a table that the key names
abbrev pub keyed_part : Tables → BlockKey → Option PartAt
keyed_part tables key = option_map (λ t. part_for t (side_of key.side) key.file) (slice_index_or tables key.slot None)

-- the values of the block that the key names
abbrev pub block_at : Tables → BlockKey → Option (List ℕ)
block_at tables key = option_map (λ part. part_block_values part key.block) (keyed_part tables key)

-- these are the values of that block
abbrev pub AreBlockValues : Tables → BlockKey → List ℕ → Type 0
AreBlockValues tables key values = block_at tables key ≡ Some values

-- The bookmarks are places of the block that the key names, in a table that is there.
pub record IsMarked (tables : Tables) (m : MarkedBlock) : Type 0 where
  pub part : PartAt
  pub on : keyed_part tables m.key ≡ Some part
  pub marks : AreMarksIn part m.key.block m.marks

-- Each kept block has the values of the block that its key names, and as many may be kept as the set is for. All bookmarks are
-- places of the blocks that their keys name.
pub record AreRight (h : Holding) (b : Blocks) : Type 0 where
  pub cap : b.kept.cap ≡ h.cache
  pub places : 1 ≤ length b.asked.items
  pub right : (kept : _) → Contains b.kept.entries kept → AreBlockValues h.tables kept.0 kept.1.items
  pub marked : All (IsMarked h.tables) b.marked.items

-- none is kept yet
pub record HasNoBlocks (most : ℕ) (b : Blocks) : Type 0 where
  pub cap : b.kept.cap ≡ most
  pub places : 1 ≤ length b.asked.items
  pub none : b.kept.entries ≡ []
  pub unmarked : b.marked.items ≡ []
