-- Which tables a set has.
use Rattle.std.specs.Prelude.{◌≡◌, ◌<◌, ◌⊎◌, ◌==◌, ℕ, ℤ, List, pos, is_some, if◌then◌else◌}
use Rattle.place_index.specs.Material.{Men, IsTable, name_of, men_of}
use Rattle.table_file.specs.declared.kind.TableKind.{TableKind}
use Rattle.table_file.specs.declared.kind.TableKind.TheVariants.{Wdl, Dtz}
use Rattle.judge_core.specs.Tables.{Tables, table_at}
use Rattle.probe_api.specs.Replies.{told, refused}
use Rattle.probe_api.specs.declared.reply.Reply.{Reply}

-- 1 where the table is there, else 0
abbrev pub has_number : Tables → TableKind → ℕ → ℤ
has_number tables kind key = if is_some (table_at tables kind key) then pos 1 else pos 0

-- the text names no table
abbrev pub NamesNone : List ℕ → Type 0
NamesNone name = (m : Men) → IsTable m → name_of m ≡ name → ⊥

-- 0 for a WDL table, and every other number for a DTZ table
abbrev pub numbered_kind : ℕ → TableKind
numbered_kind n = if n == 0 then Wdl else Dtz

-- whether the table of a kind that a text names is there; status 64 where it names none
pub record TellsHas (tables : Tables) (kind : ℕ) (name : List ℕ) (reply : Reply) : Type 0 where
  pub named : (key : ℕ) → key < 145 → name_of (men_of key) ≡ name → reply ≡ told (has_number tables (numbered_kind kind) key)
  pub none : NamesNone name → reply ≡ refused 64
  pub one : ((key : ℕ) × (key < 145) × (name_of (men_of key) ≡ name)) ⊎ NamesNone name
