-- What happens outside while the table files of a folder are read, one event after another (this project's own).
use Rattle.std.specs.Prelude.{◌≡◌, ◌++◌, ℕ, List, [], ◌∷◌, map, Result, Ok, Err, Vec, codes}
use Rattle.std.specs.Global.{Global}
use Rattle.std.specs.List.{AllByRecursion, Contains}
use Rattle.move_msg.specs.Files.{File, table_file_of}
use Rattle.move_msg.specs.TableNames.{IsFileName}
use Rattle.move_msg.specs.declared.files.NamedFile.{NamedFile}
use Rattle.system_io.specs.Disks.{AtFile, AtFolder, DiskFacts}
use Rattle.system_io.specs.declared.reading.ReadFault.{ReadFault}
use Rattle.system_io.specs.declared.reading.ReadFault.TheVariants.{OutOfMemory, Unreadable}
use Rattle.timeline.specs.Events.{Event, FileRead, FolderListed, Noted}
use Rattle.move_msg.specs.ToldBy.{told_by}
use Rattle.move_msg.specs.declared.told.Manifest.{Manifest}
use Rattle.task_files.specs.FileNames.{names_of}
use Rattle.task_files.specs.Outside.{AreWantedOf, IsAtItsPath, ListsTwice, path_in}

-- the names that a call returns, and the files
abbrev pub listed : {E : Type 0} → Result (Vec (List ℕ) Global) E → Result (List (List ℕ)) E
listed (Ok names) = Ok names.items
listed (Err e) = Err e

abbrev pub taken_file : {E : Type 0} → Result NamedFile E → Result File E
taken_file (Ok file) = Ok (table_file_of file)
taken_file (Err e) = Err e

abbrev pub taken : {E : Type 0} → Result (Vec NamedFile Global) E → Result (List File) E
taken (Ok files) = Ok (map table_file_of files.items)
taken (Err e) = Err e

-- ---- the names

abbrev pub HasTable : List (List ℕ) → Type 0
HasTable names = (name : List ℕ) × Contains names name × IsFileName name

-- that a folder lists no table's file is noted, or memory for the line was refused; nothing else is
pub data MayNote (folder : List ℕ) (names : List (List ℕ)) (more : List Event) : Type 0 where
  NotNoted : more ≡ [] → MayNote folder names more
  IsNoted : (HasTable names → ⊥) → more ≡ Noted (codes "no table in " ++ folder) ∷ [] → MayNote folder names more

-- the folder was listed: these of its names are wanted, in rising order; or why they aren't known
pub data ListsTables (disk : DiskFacts) (folder : List ℕ) (manifest : Manifest) (result : Result (List (List ℕ)) ReadFault) (more : List Event) : Type 0 where
  Listed : (names wanted : List (List ℕ)) (note : List Event) → disk.lists folder names → MayNote folder names note → AreWantedOf (told_by manifest) names wanted → more ≡ FolderListed folder (Ok names) ∷ note → result ≡ Ok wanted → ListsTables disk folder manifest result more
  NotListed : (fault : ReadFault) → (fault ≡ Unreadable → disk.fails (AtFolder folder)) → more ≡ FolderListed folder (Err fault) ∷ [] → result ≡ Err fault → ListsTables disk folder manifest result more
  ListedTwice : (names : List (List ℕ)) (note : List Event) → disk.lists folder names → MayNote folder names note → (fault : ReadFault) → (fault ≡ Unreadable → ListsTwice (told_by manifest) names) → more ≡ FolderListed folder (Ok names) ∷ note → result ≡ Err fault → ListsTables disk folder manifest result more

-- ---- the files

-- a file of the folder was read
abbrev pub table_read : List ℕ → File → Event
table_read folder f = FileRead (path_in folder f.name) (Ok f.bytes)

-- the file of this name was read; or it can't be; or memory for its path was refused
pub data ReadsTable (disk : DiskFacts) (folder name : List ℕ) (result : Result File ReadFault) (more : List Event) : Type 0 where
  IsRead : (f : File) → f.name ≡ name → IsAtItsPath disk folder f → more ≡ table_read folder f ∷ [] → result ≡ Ok f → ReadsTable disk folder name result more
  NotRead : (fault : ReadFault) → (fault ≡ Unreadable → disk.fails (AtFile (path_in folder name))) → more ≡ FileRead (path_in folder name) (Err fault) ∷ [] → result ≡ Err fault → ReadsTable disk folder name result more
  NoPath : more ≡ [] → result ≡ Err OutOfMemory → ReadsTable disk folder name result more

-- these files of the folder were read, each with the bytes at its path
pub record AreRead (disk : DiskFacts) (folder : List ℕ) (names : List (List ℕ)) (files : List File) : Type 0 where
  pub named : names_of files ≡ names
  pub bytes : AllByRecursion (IsAtItsPath disk folder) files

-- the files of these names were read one by one, in this order; or those before one that wasn't, or was but couldn't be kept
pub data ReadsTables (disk : DiskFacts) (folder : List ℕ) (names : List (List ℕ)) (result : Result (List File) ReadFault) (more : List Event) : Type 0 where
  AllRead : (files : List File) → AreRead disk folder names files → more ≡ map (table_read folder) files → result ≡ Ok files → ReadsTables disk folder names result more
  OneUnread : (before : List File) (name : List ℕ) (after : List (List ℕ)) (last : List Event) (fault : ReadFault) → names ≡ names_of before ++ name ∷ after → AllByRecursion (IsAtItsPath disk folder) before → ReadsTable disk folder name (Err fault) last → more ≡ map (table_read folder) before ++ last → result ≡ Err fault → ReadsTables disk folder names result more
  NoRoomFor : (files : List File) (after : List (List ℕ)) → names ≡ names_of files ++ after → AllByRecursion (IsAtItsPath disk folder) files → more ≡ map (table_read folder) files → result ≡ Err OutOfMemory → ReadsTables disk folder names result more

-- the folder was listed, and then its wanted files were read
pub data ReadsFolder (disk : DiskFacts) (folder : List ℕ) (manifest : Manifest) (result : Result (List File) ReadFault) (more : List Event) : Type 0 where
  FilesRead : (wanted : List (List ℕ)) (listing reading : List Event) → ListsTables disk folder manifest (Ok wanted) listing → ReadsTables disk folder wanted result reading → more ≡ listing ++ reading → ReadsFolder disk folder manifest result more
  FolderUnlisted : (fault : ReadFault) → ListsTables disk folder manifest (Err fault) more → result ≡ Err fault → ReadsFolder disk folder manifest result more
