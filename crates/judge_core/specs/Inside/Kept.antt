-- How tables are kept: each in its slot.
use Rattle.std.specs.Prelude.{◌≡◌, ◌≤◌, List, Option, Some, None, length, map}
use Rattle.std.specs.Arc.{arc_value}
use Rattle.table_file.specs.Tables.{Contents}
use Rattle.judge_core.specs.declared.table_slots.TableSlots.TheInside.{Inside}
use Rattle.judge_core.specs.declared.table_slot.TableSlot.{TableSlot}
use Rattle.judge_core.specs.declared.table_slot.TableSlot.TheVariants.{Empty, Own, Shared}
use Rattle.judge_core.specs.Tables.{Tables, Holding, AreFiled}

abbrev pub table_in : TableSlot → Option Contents
table_in Empty = None
table_in (Own table) = Some table
table_in (Shared table) = Some (arc_value table)

abbrev pub tables_in : List TableSlot → Tables
tables_in slots = map table_in slots

abbrev pub holding_of : Inside → Holding
holding_of a = record { tables = tables_in a.tables.items; cache = a.cache }

pub record IsSoundSet (a : Inside) : Type 0 where
  pub slots : length a.tables.items ≡ 290
  pub filed : AreFiled (tables_in a.tables.items)
  pub some : 1 ≤ a.cache
  pub most : a.cache ≤ 4096
