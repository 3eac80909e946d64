-- The results for the files of tables (this project's own).
use Rattle.std.specs.Prelude.{ℕ, Bool, List, [], ◌∷◌, map, replicate, Option, Some, None, is_some, Result, Ok, Err, slice_set, if◌then◌else◌}
use Rattle.std.specs.List.{list_all}
use Rattle.std.specs.Str.{bytes_eq}
use Rattle.std.specs.Result.{is_ok}
use Rattle.sha2.specs.Sha256.{sha256}
use Rattle.move_msg.specs.Files.{File}
use Rattle.move_msg.specs.Manifests.{Entry}
use Rattle.table_file.specs.Tables.{Contents, contents_at}
use Rattle.judge_core.specs.Tables.{Tables, slot, table_at}
use Rattle.table_folder.specs.declared.fault.FileFault.{FileFault}
use Rattle.table_folder.specs.declared.fault.FileFault.TheVariants.{Missing, Changed}
use Rattle.table_folder.specs.Faults.{file_fault_name}
use Rattle.table_folder.specs.Folders.{Found, found_table}
use Rattle.task_files.specs.FileNames.{file_named}
use Rattle.move_msg.specs.ToldManifests.{ToldManifest}
use Rattle.task_files.specs.Given.{Given}
use Rattle.answer_parts.specs.Lines.{look_words, refused_file, refused_manifest}

-- ---- one file

-- what a file says as a table, or why it is none
abbrev pub file_found : File → Found
file_found f = found_table (contents_at f.name f.bytes)

-- the same of a file that is held to a digest: it is missing, or else changed, or else what it says
abbrev pub held : List ℕ → Option File → Found
held digest None = Err Missing
held digest (Some f) = if bytes_eq (sha256 f.bytes) digest then file_found f else Err Changed

-- ---- files that are looked at in turn

-- a name that is looked at, and what is found there
pub record Look : Type 0 where
  pub name : List ℕ
  pub found : Found

-- without a manifest each file is looked at
abbrev pub look_at : File → Look
look_at f = record { name = f.name; found = file_found f }

-- with a manifest each of its lines is, and no other file
abbrev pub look_for : List File → Entry → Look
look_for files e = record { name = e.name; found = held e.digest (file_named e.name files) }

-- ---- the tables of a set

abbrev pub no_tables : Tables
no_tables = replicate 290 None

-- with one table more; of two tables of one kind and material the first counts
abbrev pub with_table_once : Tables → Contents → Tables
with_table_once tables t = if is_some (table_at tables t.kind t.material) then tables else slice_set tables (slot t.kind t.material) (Some t)

-- a set with what was found, or the words that refuse it
abbrev pub with_found : Tables → List ℕ → Found → Result Tables (List ℕ)
with_found tables name (Ok t) = Ok (with_table_once tables t)
with_found tables name (Err fault) = Err (refused_file name (file_fault_name fault))

infixl 10 ◌>>=◌
abbrev pub ◌>>=◌ : {A B E : Type 0} → Result A E → (A → Result B E) → Result B E
(Ok x) >>= f = f x
(Err e) >>= f = Err e

-- the tables with all that is found in turn, or the words that refuse the first that is at fault
unfoldable pub tables_from_looks : Tables → List Look → Result Tables (List ℕ)
tables_from_looks tables [] = Ok tables
tables_from_looks tables (look ∷ looks) = do
  more ← with_found tables look.name look.found
  tables_from_looks more looks

-- what files and a manifest give: the tables of a set, or the words that refuse them
abbrev pub gathered_by : List File → Option ToldManifest → Result Tables (List ℕ)
gathered_by files None = tables_from_looks no_tables (map look_at files)
gathered_by files (Some (Ok es)) = tables_from_looks no_tables (map (look_for files) es)
gathered_by files (Some (Err number)) = Err (refused_manifest number)

unfoldable pub gathered : Given → Result Tables (List ℕ)
gathered given = gathered_by given.files given.told

-- ---- what is told of each

abbrev pub found_fault : Found → Option FileFault
found_fault (Ok t) = None
found_fault (Err fault) = Some fault

abbrev pub look_line : Look → List ℕ
look_line look = look_words look.name (found_fault look.found)

-- each is the table that it should be
abbrev pub are_tables : List Look → Bool
are_tables = list_all (λ look. is_ok look.found)
