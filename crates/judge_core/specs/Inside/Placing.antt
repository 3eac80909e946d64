-- What a probe knows of a position, its men as its table sees them, and of that table the part for them.
use Rattle.std.specs.Prelude.{◌≡◌, ◌<◌, ℕ, Option, Some, None}
use Rattle.board_core.specs.declared.parts.Parts.{Parts}
use Rattle.board_core.specs.Position.{IsPosition}
use Rattle.place_index.specs.Placed.{Placement}
use Rattle.table_file.specs.declared.kind.TableKind.{TableKind}
use Rattle.table_file.specs.declared.kind.TableKind.TheVariants.{Wdl}
use Rattle.table_file.specs.declared.spots.Spot.TheVariants.{At}
use Rattle.table_file.specs.Expansion.{expansion, entry_at, real_blocks, IsSpot}
use Rattle.table_file.specs.Tables.{PartAt, IsAskedBy}
use Rattle.judge_core.specs.declared.blocks.BlockKey.{BlockKey}
use Rattle.judge_core.specs.declared.located_position.LocatedPosition.TheInside.{Inside}
use Rattle.judge_core.specs.declared.reading.OwnPlace.{OwnPlace}
use Rattle.judge_core.specs.declared.reading.PlaceInPart.{PlaceInPart}
use Rattle.judge_core.specs.declared.reading.PlaceInPart.TheVariants.{Known, InBlock}
use Rattle.judge_core.specs.Blocks.{keyed_part}
use Rattle.judge_core.specs.LookUp.{material_of, placed_of}
use Rattle.judge_core.specs.Tables.{Tables, table_at, part_asked, entry_in}

-- the men of the position, where it has a table
pub record IsPlacedAt (p : Parts) (placed : Placement) : Type 0 where
  pub found : material_of p ≡ Some placed.material
  pub is : placed ≡ placed_of placed.material p

abbrev pub IsPlacedOf : Parts → Option Placement → Type 0
IsPlacedOf p None = material_of p ≡ None
IsPlacedOf p (Some placed) = IsPlacedAt p placed

-- ---- a probe

abbrev pub position_of : Inside → Parts
position_of a = a.position.now

pub record IsProbeOf (a : Inside) : Type 0 where
  pub position : IsPosition a.position.now
  pub placed : IsPlacedOf a.position.now a.placed

-- ---- the part of a table

-- the part that the table of this kind has for placed men
pub record IsPartFor (tables : Tables) (kind : TableKind) (placed : Placement) (part : PartAt) : Type 0 where
  pub on : table_at tables kind placed.material ≡ Some part.table
  pub kind_is : part.table.kind ≡ kind
  pub is : part ≡ part_asked part.table placed
  pub asked : IsAskedBy part placed

-- what a block of a part has at an offset, wherever that is an index
abbrev pub IsValueAt : PartAt → ℕ → ℕ → Option ℕ → Type 0
IsValueAt part block offset value = (index : ℕ) → IsSpot part index (At block offset) → value ≡ entry_at (expansion part) index

-- ---- the place of placed men in it

-- the block that the key names, and what it has at the offset
pub record IsInBlock (tables : Tables) (placed : Placement) (part : PartAt) (key : BlockKey) (offset : ℕ) : Type 0 where
  pub on : keyed_part tables key ≡ Some part
  pub real : key.block < real_blocks part
  pub is : (value : Option ℕ) → IsValueAt part key.block offset value → value ≡ entry_in part.table placed

-- where the part has the entry of the men, or that entry
abbrev pub IsPlaceIn : Tables → Placement → PartAt → PlaceInPart → Type 0
IsPlaceIn tables placed part (Known value) = value ≡ entry_in part.table placed
IsPlaceIn tables placed part (InBlock key offset) = IsInBlock tables placed part key offset

-- ... in the position's own WDL table; none where that is missing
abbrev pub IsOwnPlace : Tables → Parts → Option OwnPlace → Type 0
IsOwnPlace tables p None = (placed : Placement) → IsPlacedAt p placed → table_at tables Wdl placed.material ≡ None
IsOwnPlace tables p (Some own) = (placed : Placement) → IsPlacedAt p placed → (table_at tables Wdl placed.material ≡ Some own.part.table) × IsPlaceIn tables placed own.part own.place
