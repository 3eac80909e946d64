-- What the calls of the system for a file achieve (this project's own).
use Rattle.std.specs.Prelude.{◌≡◌, ℕ, List, Option, Some, string_bytes}
use Rattle.system_io.specs.Handles.{HandleFacts, PathFacts}
use Rattle.system_io.specs.BesideFiles.{IsSyncedFrom, IsWrittenBeside}
use Rattle.system_io.specs.declared.beside_file.Written.{Written}
use Rattle.system_io.specs.declared.beside_file.Synced.{Synced}

-- a file beside the one at this path is written: it holds these bytes, and this process has its lock
pub record HasWritten {H : Type 0} (facts : H → HandleFacts) (path bytes : List ℕ) (has : Option (Written H)) : Type 0 where
  pub file : Written H
  pub is : has ≡ Some file
  pub beside : IsWrittenBeside facts path bytes file

-- the file beside that was written is synced
pub record HasSynced {H : Type 0} (facts : H → HandleFacts) (had : Option (Written H)) (has : Option (Synced H)) : Type 0 where
  pub written : Written H
  pub was : had ≡ Some written
  pub file : Synced H
  pub is : has ≡ Some file
  pub from : IsSyncedFrom facts written file

-- the file beside that was synced has got the name
pub record HasName {H : Type 0} (paths : PathFacts) (path : List ℕ) (had : Option (Synced H)) : Type 0 where
  pub file : Synced H
  pub was : had ≡ Some file
  pub renamed : paths.renames (string_bytes file.beside.path) path
