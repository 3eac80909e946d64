-- Tables that are added to a set.
use Rattle.std.specs.Prelude.{◌≡◌, ◌≢◌, ℕ, List, Some, IsSome, Ok, slice_set}
use Rattle.table_file.specs.declared.fault.TableFault.{TableFault}
use Rattle.table_file.specs.FirstFaults.{IsFirstTableFault}
use Rattle.table_file.specs.Tables.{Contents}
use Rattle.table_file.specs.Tables.{contents_at as table_of}
use Rattle.judge_core.specs.Tables.{Holding, slot, table_at}
use Rattle.probe_api.specs.Replies.{table_status}

-- the set with this table more
abbrev pub with_added_table : Holding → Contents → Holding
with_added_table set t = record set { tables = slice_set set.tables (slot t.kind t.material) (Some t) }

-- what adding a file comes to, by its status
pub record Adds (name bytes : List ℕ) (before : Holding) (status : ℕ) (after : Holding) : Type 0 where
  pub added : status ≡ 0 → (t : Contents) × (table_of name bytes ≡ Ok t) × (after ≡ with_added_table before t)
  pub refused : status ≢ 0 → after ≡ before
  pub duplicate : status ≡ 80 → (t : Contents) × (table_of name bytes ≡ Ok t) × IsSome (table_at before.tables t.kind t.material)
  pub fault : status ≢ 0 → status ≢ 5 → status ≢ 80 → (e : TableFault) × IsFirstTableFault name bytes e × (status ≡ table_status e)
