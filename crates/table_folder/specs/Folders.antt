-- Folders of tables whose files are read when they are asked for (this project's own).
use Rattle.std.specs.Prelude.{◌≡◌, ◌<◌, ℕ, List, length, Option, Some, None, IsSome, Result, Ok, Err, find, option_map, if◌then◌else◌}
use Rattle.std.specs.List.{Contains}
use Rattle.std.specs.Str.{bytes_eq}
use Rattle.sha2.specs.Sha256.{sha256}
use Rattle.move_msg.specs.ToldManifests.{ToldManifest}
use Rattle.system_io.specs.Disks.{AtFile, DiskFacts}
use Rattle.table_file.specs.declared.fault.TableFault.{TableFault}
use Rattle.table_file.specs.declared.kind.TableKind.{TableKind}
use Rattle.table_file.specs.Names.{file_name}
use Rattle.table_file.specs.Tables.{Contents, contents_at}
use Rattle.judge_core.specs.Tables.{Tables, table_at}
use Rattle.task_files.specs.Outside.{AreNamesIn, path_in}
use Rattle.table_folder.specs.declared.fault.FileFault.{FileFault}
use Rattle.table_folder.specs.declared.fault.FileFault.TheVariants.{Missing, Changed, Bad, Unreadable}

-- ---- one file

-- what a file says as a table, or why it is none
abbrev pub Found : Type 0
Found = Result Contents FileFault

abbrev pub found_table : Result Contents TableFault → Found
found_table (Ok t) = Ok t
found_table (Err fault) = Err (Bad fault)

-- what the bytes of a file say that is held to a digest, where there is one
abbrev pub found_in : Option (List ℕ) → List ℕ → List ℕ → Found
found_in None name bytes = found_table (contents_at name bytes)
found_in (Some digest) name bytes = if bytes_eq (sha256 bytes) digest then found_table (contents_at name bytes) else Err Changed

-- ---- a folder

-- its path, the names of table files that it lists, those that its manifest names where there is one, and that manifest
pub record Folder : Type 0 where
  pub path : List ℕ
  pub names : List (List ℕ)
  pub manifest : Option ToldManifest

-- a folder on a disk
pub record FolderOn (D : Type 0) : Type 0 where
  pub disk : D
  pub folder : Folder

-- the folder at a path, held to a manifest where there is one
pub record IsFolderAt (disk : DiskFacts) (path : List ℕ) (manifest : Option ToldManifest) (folder : Folder) : Type 0 where
  pub names : AreNamesIn disk path manifest folder.names
  pub path_is : folder.path ≡ path
  pub manifest_is : folder.manifest ≡ manifest

-- the digest that a manifest has for a name
abbrev pub digest_in : Option ToldManifest → List ℕ → Option (List ℕ)
digest_in None name = None
digest_in (Some (Ok es)) name = option_map (λ e. e.digest) (find (λ e. bytes_eq e.name name) es)
digest_in (Some (Err line)) name = None

-- without a manifest the files are those that are listed, with one those that it names
abbrev pub IsNamed : Option ToldManifest → List (List ℕ) → List ℕ → Type 0
IsNamed None names name = Contains names name
IsNamed (Some manifest) names name = IsSome (digest_in (Some manifest) name)

-- the folder has a table of this kind for the material with this key
abbrev pub HasTable : Folder → TableKind → ℕ → Type 0
HasTable folder kind key = IsNamed folder.manifest folder.names (file_name kind key)

-- what the folder's file of a name says: it isn't listed, or it is and can't be read, or its bytes say it
pub data Says (disk : DiskFacts) (folder : Folder) (name : List ℕ) (found : Found) : Type 0 where
  NotListed : (Contains folder.names name → ⊥) → found ≡ Err Missing → Says disk folder name found
  NotRead : Contains folder.names name → disk.fails (AtFile (path_in folder.path name)) → found ≡ Err Unreadable → Says disk folder name found
  Read : Contains folder.names name → (bytes : List ℕ) → disk.holds (path_in folder.path name) bytes → found ≡ found_in (digest_in folder.manifest name) name bytes → Says disk folder name found

-- a table of the folder, as its file says it
pub record IsTableOf (disk : DiskFacts) (folder : Folder) (kind : TableKind) (key : ℕ) (t : Contents) : Type 0 where
  pub has : HasTable folder kind key
  pub says : Says disk folder (file_name kind key) (Ok t)

-- a set of 290 slots each of whose tables is one of the folder
pub record AreOf (disk : DiskFacts) (folder : Folder) (tables : Tables) : Type 0 where
  pub slots : length tables ≡ 290
  pub each : (kind : TableKind) (key : ℕ) (t : Contents) → key < 145 → table_at tables kind key ≡ Some t → IsTableOf disk folder kind key t
