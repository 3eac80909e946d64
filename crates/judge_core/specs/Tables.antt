-- The tables of a set, and the value that a position's own table has.
use Rattle.std.specs.Prelude.{◌≡◌, ℕ, ◌+◌, ◌<◌, max, List, fold, length, map, Option, Some, None, Ok, Err, slice_index_or, option_and_then}
use Rattle.board_core.specs.declared.parts.Parts.{Parts}
use Rattle.place_index.specs.Material.{men_of}
use Rattle.place_index.specs.Shape.{Layout}
use Rattle.place_index.specs.Index.{index_of}
use Rattle.place_index.specs.Placed.{Placement}
use Rattle.table_file.specs.declared.kind.TableKind.{TableKind}
use Rattle.table_file.specs.declared.kind.TableKind.TheVariants.{Wdl, Dtz}
use Rattle.table_file.specs.Tables.{Contents, PartAt, part_for, shape_of}
use Rattle.table_file.specs.Expansion.{expansion, entry_at}
use Rattle.judge_core.specs.declared.wdl.Wdl.{Wdl as Value}
use Rattle.judge_core.specs.declared.wdl.Wdl.TheVariants.{Draw}
use Rattle.judge_core.specs.declared.fault.ValueFault.TheVariants.{NotCovered, Damaged}
use Rattle.judge_core.specs.Values.{Reading, of_points}
use Rattle.judge_core.specs.LookUp.{material_of, placed_of}

-- Each of the 145 materials has a slot for its WDL table, and 145 slots on one for its DTZ table.
abbrev pub Tables : Type 0
Tables = List (Option Contents)

abbrev pub slot : TableKind → ℕ → ℕ
slot Wdl key = key
slot Dtz key = 145 + key

-- the table of this kind for the material with this key
abbrev pub table_at : Tables → TableKind → ℕ → Option Contents
table_at tables kind key = slice_index_or tables (slot kind key) None

-- each table is in the slot of its kind and its material
abbrev pub AreFiled : Tables → Type 0
AreFiled tables = (kind : TableKind) (key : ℕ) (t : Contents) → key < 145 → table_at tables kind key ≡ Some t → (t.kind ≡ kind) × (t.material ≡ key)

-- a set: its tables, and how many decoded blocks it may keep
pub record Holding : Type 0 where
  pub tables : Tables
  pub cache : ℕ

-- ---- men of tables

-- the men of the table with this key, kings included
abbrev pub men_count : ℕ → ℕ
men_count key = 2 + length (men_of key).first + length (men_of key).second

abbrev pub men_of_slot : Option Contents → ℕ
men_of_slot None = 0
men_of_slot (Some t) = men_count t.material

-- the largest number of men of a table, 0 without one
unfoldable pub largest_of : Tables → ℕ
largest_of tables = fold max 0 (map men_of_slot tables)

-- ---- table value

-- the part of a table in which placed men are looked up
abbrev pub part_asked : Contents → Placement → PartAt
part_asked t placed = part_for t placed.side placed.file

abbrev pub placed_entry : Option Layout → PartAt → Placement → Option ℕ
placed_entry None part placed = None
placed_entry (Some shape) part placed = entry_at (expansion part) (index_of shape placed.men)

-- the entry of the expanded table at the index of placed men, if there is one
unfoldable pub entry_in : Contents → Placement → Option ℕ
entry_in t placed = placed_entry (shape_of (part_asked t placed)) (part_asked t placed) placed

abbrev pub value_or_damaged : ℕ → Option Value → Reading
value_or_damaged key None = Err (Damaged key)
value_or_damaged key (Some v) = Ok v

abbrev pub value_in : Option Contents → ℕ → Parts → Reading
value_in None key p = Err (NotCovered key)
value_in (Some t) key p = value_or_damaged key (option_and_then of_points (entry_in t (placed_of key p)))

abbrev pub value_of : Tables → Option ℕ → Parts → Reading
value_of tables None p = Ok Draw
value_of tables (Some key) p = value_in (table_at tables Wdl key) key p

-- The table value: what the position's own WDL table says, and a draw for bare kings, which have no table.
unfoldable pub table_value : Tables → Parts → Reading
table_value tables p = value_of tables (material_of p) p
