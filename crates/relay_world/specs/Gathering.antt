-- The tables that files are, and their manifest (this project's own, docs/RULES.md).
use Rattle.std.specs.Prelude.{◌≡◌, ◌≤◌, ℕ, suc, length, take, drop, if◌then◌else◌, List, [], ◌∷◌, map, replicate, None, Some, is_some, Result, Ok, Err, slice_set}
use Rattle.std.specs.List.Sorted.{IsPermutation}
use Rattle.move_msg.specs.Files.{File, entries_of, entry_for}
use Rattle.move_msg.specs.Manifests.{Entry, SpellsManifest, IsAfter, IsBefore}
use Rattle.move_msg.specs.TableNames.{IsFileName}
use Rattle.table_file.specs.declared.fault.TableFault.{TableFault}
use Rattle.table_file.specs.Tables.{Contents, contents_at}
use Rattle.judge_core.specs.Tables.{Tables, slot, table_at}
use Rattle.relay_world.specs.declared.fault.WorldFault.{WorldFault}
use Rattle.relay_world.specs.declared.fault.WorldFault.TheVariants.{BadTable, DuplicateTable}

abbrev pub file_as : List ℕ → List ℕ → File
file_as name bytes = record { name = name; bytes = bytes }

-- ---- the tables

-- with what the file at this place was read as; there is one table of a kind for a material
abbrev pub with_table : Tables → ℕ → Result Contents TableFault → Result Tables WorldFault
with_table tables place (Err fault) = Err (BadTable place fault)
with_table tables place (Ok t) =
    if is_some (table_at tables t.kind t.material) then Err (DuplicateTable place) else Ok (slice_set tables (slot t.kind t.material) (Some t))

abbrev pub and_then : {A B E : Type 0} → Result A E → (A → Result B E) → Result B E
and_then (Ok x) f = f x
and_then (Err e) f = Err e

-- with what the files from this place on were read as, up to the first that is at fault
unfoldable pub tables_from : Tables → ℕ → List (Result Contents TableFault) → Result Tables WorldFault
tables_from tables place [] = Ok tables
tables_from tables place (found ∷ others) = and_then (with_table tables place found) (λ more. tables_from more (suc place) others)

abbrev pub found_in : File → Result Contents TableFault
found_in f = contents_at f.name f.bytes

-- the tables of files, or the first fault, place by place
abbrev pub tables_of : List File → Result Tables WorldFault
tables_of files = tables_from (replicate 290 None) 0 (map found_in files)

-- ---- the manifest

-- a manifest has an entry for each file, by rising name
pub record IsManifestOf (files : List File) (manifest : List ℕ) : Type 0 where
  pub entries : List Entry
  pub all : IsPermutation (entries_of files) entries
  pub spells : SpellsManifest manifest entries

-- ---- cited by private functions alone

-- the tables that are in a set where nothing was refused
abbrev pub filled_unless_faulty : {X : Type 0} → Result X WorldFault → Tables → Result Tables WorldFault
filled_unless_faulty (Ok x) tables = Ok tables
filled_unless_faulty (Err fault) tables = Err fault

-- no entry has this one's name
abbrev pub IsNew : Entry → List Entry → Type 0
IsNew e [] = Unit {0}
IsNew e (x ∷ others) = (e.name ≡ x.name → ⊥) × IsNew e others

-- each file has the name of a table's file, and each another one
abbrev pub AreTables : List File → Type 0
AreTables [] = Unit {0}
AreTables (f ∷ others) = IsFileName f.name × IsNew (entry_for f) (entries_of others) × AreTables others

-- it comes before the first of these
abbrev pub IsAhead : Entry → List Entry → Type 0
IsAhead e [] = Unit {0}
IsAhead e (x ∷ others) = IsBefore e x

-- this many entries come before the new one, and the next one, if any, comes after it
pub record Inserts (e : Entry) (entries : List Entry) (place : ℕ) : Type 0 where
  pub within : place ≤ length entries
  pub after : IsAfter (take place entries) e
  pub before : IsAhead e (drop place entries)
