-- What happens outside while a folder is opened, and while tables of it are opened that positions miss (this project's own).
use Rattle.std.specs.Prelude.{◌≡◌, ◌<◌, ◌⊎◌, ◌+◌, ◌++◌, ℕ, List, [], ◌∷◌, length, map, Option, Some, None, IsSome, Result, Ok, Err}
use Rattle.std.specs.List.{Contains}
use Rattle.std.specs.declared.alloc.AllocError.{AllocError}
use Rattle.move_msg.specs.Files.{File}
use Rattle.move_msg.specs.declared.told.Manifest.{Manifest}
use Rattle.system_io.specs.Disks.{AtFile, DiskFacts}
use Rattle.system_io.specs.declared.reading.ReadFault.{ReadFault}
use Rattle.system_io.specs.declared.reading.ReadFault.TheVariants as read
use Rattle.table_file.specs.declared.kind.TableKind.{TableKind}
use Rattle.table_file.specs.Names.{file_name}
use Rattle.table_file.specs.Tables.{Contents}
use Rattle.judge_core.specs.MoreTables.{HasAll, table_count}
use Rattle.judge_core.specs.Tables.{Tables, table_at}
use Rattle.task_files.specs.FileNames.{names_of}
use Rattle.task_files.specs.Outside.{IsAtItsPath, path_in}
use Rattle.task_files.specs.TableReads.{ListsTables, ReadsTable, table_read}
use Rattle.timeline.specs.Events.{Event, FileRead, Passes}
use Rattle.table_folder.specs.declared.fault.FileFault.TheVariants.{Missing, Unreadable}
use Rattle.table_folder.specs.declared.fault.FileRefusal.{FileRefusal}
use Rattle.table_folder.specs.Folders.{Folder, FolderOn, Found, digest_in, found_in}

-- from one moment to a later one some events came, of which this is so
abbrev pub PassesSome : Option (List Event) → Option (List Event) → (List Event → Type 0) → Type 0
PassesSome old new Made = (more : List Event) × Passes old new more × Made more

-- so it is of a folder's disk, whose log and facts are these
abbrev pub PassesThere : {D L : Type 0} → (D → L → Option (List Event)) → (D → DiskFacts) → FolderOn D → L → L → (DiskFacts → Folder → List Event → Type 0) → Type 0
PassesThere events facts at before after By = PassesSome (events at.disk before) (events at.disk after) (By (facts at.disk) at.folder)

-- ---- opening a folder

-- it is listed once; its names may be known and memory to keep them refused
pub data OpensFolder (disk : DiskFacts) (path : List ℕ) (manifest : Manifest) (result : Result Folder ReadFault) (more : List Event) : Type 0 where
  Opened : (folder : Folder) → ListsTables disk path manifest (Ok folder.names) more → result ≡ Ok folder → OpensFolder disk path manifest result more
  NotOpened : (fault : ReadFault) → ListsTables disk path manifest (Err fault) more → result ≡ Err fault → OpensFolder disk path manifest result more
  NoRoomForNames : (names : List (List ℕ)) → ListsTables disk path manifest (Ok names) more → result ≡ Err read.OutOfMemory → OpensFolder disk path manifest result more

-- ---- opening its tables

-- The file of a name is looked at. One that isn't listed is not read; a listed one is read once, and its bytes say what is found. Or memory
-- for that is refused.
pub data LooksAt (disk : DiskFacts) (folder : Folder) (name : List ℕ) (found : Result Found AllocError) (more : List Event) : Type 0 where
  NotListed : (Contains folder.names name → ⊥) → found ≡ Ok (Err Missing) → more ≡ [] → LooksAt disk folder name found more
  NotRead : Contains folder.names name → disk.fails (AtFile (path_in folder.path name)) → found ≡ Ok (Err Unreadable) → more ≡ FileRead (path_in folder.path name) (Err read.Unreadable) ∷ [] → LooksAt disk folder name found more
  IsRead : Contains folder.names name → (f : File) → f.name ≡ name → IsAtItsPath disk folder.path f → found ≡ Ok (found_in (digest_in folder.manifest name) name f.bytes) → more ≡ table_read folder.path f ∷ [] → LooksAt disk folder name found more
  NoRoomForTable : Contains folder.names name → (r : Result File ReadFault) → ReadsTable disk folder.path name r more → (e : AllocError) → found ≡ Err e → LooksAt disk folder name found more

-- the file of a table that the second set has and the first lacks, with the bytes that say that table
pub record IsOpened (disk : DiskFacts) (folder : Folder) (old new : Tables) (f : File) : Type 0 where
  pub kind : TableKind
  pub key : ℕ
  pub known : key < 145
  pub name : f.name ≡ file_name kind key
  pub at : IsAtItsPath disk folder.path f
  pub lacked : table_at old kind key ≡ None
  pub table : Contents
  pub has : table_at new kind key ≡ Some table
  pub says : found_in (digest_in folder.manifest f.name) f.name f.bytes ≡ Ok table

-- The second set has what the first has, and these are the files of the tables that it has beside that: of each table one, as there are as many.
pub record AreOpened (disk : DiskFacts) (folder : Folder) (old new : Tables) (files : List File) : Type 0 where
  pub kept : HasAll old new
  pub each : (f : File) → Contains files f → IsOpened disk folder old new f
  pub all : (kind : TableKind) (key : ℕ) → key < 145 → table_at old kind key ≡ None → IsSome (table_at new kind key) → Contains (names_of files) (file_name kind key)
  pub count : length files + table_count old ≡ table_count new

-- memory is refused for the file of a table that the set lacks
pub record HasNoRoom (disk : DiskFacts) (folder : Folder) (tables : Tables) (last : List Event) : Type 0 where
  pub kind : TableKind
  pub key : ℕ
  pub known : key < 145
  pub lacks : table_at tables kind key ≡ None
  pub error : AllocError
  pub looks : LooksAt disk folder (file_name kind key) (Err error) last

-- what is refused, if a file is, or that memory was
abbrev pub refusal_of : {A : Type 0} → Result (Result A FileRefusal) AllocError → Result (Option FileRefusal) AllocError
refusal_of (Ok (Ok a)) = Ok None
refusal_of (Ok (Err refusal)) = Ok (Some refusal)
refusal_of (Err e) = Err e

-- what is read last: nothing beside the tables that are open; or the file that is refused; or, where memory is, a table's file or none
abbrev pub ReadsLast : DiskFacts → Folder → Tables → Result (Option FileRefusal) AllocError → List Event → Type 0
ReadsLast disk folder tables (Ok None) last = last ≡ []
ReadsLast disk folder tables (Ok (Some refusal)) last = LooksAt disk folder refusal.name.bytes (Ok (Err refusal.fault)) last
ReadsLast disk folder tables (Err e) last = (last ≡ []) ⊎ HasNoRoom disk folder tables last

-- The files of the tables that were opened are read, each once, in the order in which they were; and then what is read last.
pub record OpensTables (disk : DiskFacts) (folder : Folder) (old new : Tables) (refused : Result (Option FileRefusal) AllocError) (more : List Event) : Type 0 where
  pub files : List File
  pub opened : AreOpened disk folder old new files
  pub last : List Event
  pub ends : ReadsLast disk folder new refused last
  pub made : more ≡ map (table_read folder.path) files ++ last

-- from one moment of a folder's log to a later one its tables are opened so, or what comes of that is refused
abbrev pub OpensThere : {D L : Type 0} → (D → L → Option (List Event)) → (D → DiskFacts) → FolderOn D → L → L → Tables → Tables → Result (Option FileRefusal) AllocError → Type 0
OpensThere events facts at before after old new refused = PassesThere events facts at before after (λ disk folder. OpensTables disk folder old new refused)
