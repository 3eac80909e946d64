-- What the program reads of folders and files, and what can fail there (this project's own).
use Rattle.std.specs.Prelude.{◌≡◌, ◌≤◌, ◌⊎◌, ◌++◌, ◌∷◌, ℕ, List, length, map, Option, Some, None, Ok, Err}
use Rattle.std.specs.List.{Contains}
use Rattle.system_io.specs.Disks.{DiskFacts, AtFile, AtFolder, most_bytes}
use Rattle.move_msg.specs.TableNames.{IsFileName}
use Rattle.move_msg.specs.Files.{File}
use Rattle.task_files.specs.FileNames.{AreRisingNames}
use Rattle.move_msg.specs.ToldManifests.{ToldManifest, TellsManifest}

-- the path of a file of a folder
abbrev pub path_in : List ℕ → List ℕ → List ℕ
path_in folder name = folder ++ 47 ∷ name

-- without a manifest each name is wanted, with one its own are; one that is at fault wants none
abbrev pub IsWanted : Option ToldManifest → List ℕ → Type 0
IsWanted None name = Unit {0}
IsWanted (Some (Ok es)) name = Contains (map (λ e. e.name) es) name
IsWanted (Some (Err number)) name = ⊥

-- of these names those of table files that are wanted, in rising order
pub record AreWantedOf (told : Option ToldManifest) (names wanted : List (List ℕ)) : Type 0 where
  pub all : (name : List ℕ) → Contains names name → IsFileName name → IsWanted told name → Contains wanted name
  pub only : (name : List ℕ) → Contains wanted name → Contains names name × IsFileName name × IsWanted told name
  pub rising : AreRisingNames wanted

-- these are the names of the wanted files of a folder, in rising order
pub record AreNamesIn (disk : DiskFacts) (folder : List ℕ) (told : Option ToldManifest) (wanted : List (List ℕ)) : Type 0 where
  pub names : List (List ℕ)
  pub listed : disk.lists folder names
  pub are : AreWantedOf told names wanted

-- the name of a wanted file is listed twice
pub record ListsTwice (told : Option ToldManifest) (names : List (List ℕ)) : Type 0 where
  pub before : List (List ℕ)
  pub name : List ℕ
  pub after : List (List ℕ)
  pub file : IsFileName name
  pub wanted : IsWanted told name
  pub listed : names ≡ before ++ name ∷ after
  pub again : Contains before name

-- a file of the folder has the bytes at its path
abbrev pub IsAtItsPath : DiskFacts → List ℕ → File → Type 0
IsAtItsPath disk folder f = disk.holds (path_in folder f.name) f.bytes × (length f.bytes ≤ most_bytes)

-- a wanted file of the folder can't be read
pub record FailsAt (disk : DiskFacts) (folder : List ℕ) (told : Option ToldManifest) (names : List (List ℕ)) : Type 0 where
  pub name : List ℕ
  pub listed : Contains names name
  pub file : IsFileName name
  pub wanted : IsWanted told name
  pub unread : disk.fails (AtFile (path_in folder name))

-- the folder can't be read, lists a wanted file twice, or has one that can't be read
abbrev pub FolderFails : DiskFacts → List ℕ → Option ToldManifest → Type 0
FolderFails disk folder told =
    disk.fails (AtFolder folder) ⊎ ((names : List (List ℕ)) × disk.lists folder names × (ListsTwice told names ⊎ FailsAt disk folder told names))

-- what the file of the manifest tells, where one is named
abbrev pub IsToldAt : DiskFacts → Option (List ℕ) → Option ToldManifest → Type 0
IsToldAt disk None told = told ≡ None
IsToldAt disk (Some path) told =
    (text : List ℕ) × disk.holds path text × (length text ≤ most_bytes) × ((t : ToldManifest) × TellsManifest text t × (told ≡ Some t))
