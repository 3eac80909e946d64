-- A file beside another on its way to the name, and a file that is locked (this project's own).
use Rattle.std.specs.Prelude.{◌≡◌, ℕ, List, Option, Some, string_bytes}
use Rattle.system_io.specs.Handles.{HandleFacts, PathFacts, IsOwnAt, IsOwnNew, KeepsBytes, KeepsMade, Stays}
use Rattle.system_io.specs.Places.{IsBeside}
use Rattle.system_io.specs.declared.beside_file.BesideFile.{BesideFile}
use Rattle.system_io.specs.declared.beside_file.Written.{Written}
use Rattle.system_io.specs.declared.beside_file.Synced.{Synced}
use Rattle.system_io.specs.declared.locked.Locked.{Locked}

-- it was made beside the file at this path, and this process has locked it
pub record IsMadeBeside {H : Type 0} (facts : H → HandleFacts) (path : List ℕ) (beside : BesideFile H) : Type 0 where
  pub named : IsBeside path (string_bytes beside.path)
  pub own : IsOwnNew (facts beside.file)

-- it stands beside the file at this path, this process has locked it, and it holds these bytes
pub record IsWrittenBeside {H : Type 0} (facts : H → HandleFacts) (path bytes : List ℕ) (written : Written H) : Type 0 where
  pub named : IsBeside path (string_bytes written.beside.path)
  pub locked : (facts written.beside.file).is_locked
  pub whole : (facts written.beside.file).holds bytes

-- it is the written file with the same bytes, and these are on the disk
pub record IsSyncedFrom {H : Type 0} (facts : H → HandleFacts) (written : Written H) (synced : Synced H) : Type 0 where
  pub on_disk : (facts synced.beside.file).is_synced
  pub same : synced.beside.path ≡ written.beside.path
  pub bytes : KeepsBytes (facts written.beside.file) (facts synced.beside.file)
  pub stays : Stays (facts written.beside.file) (facts synced.beside.file)
  pub made : KeepsMade (facts written.beside.file) (facts synced.beside.file)

-- the file that has the lock is the one that stood at this path
pub record IsLockedAt {H : Type 0} (facts : H → HandleFacts) (paths : PathFacts) (path : List ℕ) (locked : Locked H) : Type 0 where
  pub at : string_bytes locked.path ≡ path
  pub own : IsOwnAt (facts locked.file) paths path
