-- What the calls of the system for a file achieve, from what each step says (this project's own).
use Rattle.std.specs.Prelude.{◌≡◌, List, ℕ, Option, Some, string_bytes}
use Rattle.std.proofs.Common.{refl}
use Rattle.system_io.specs.BesideFiles.{IsSyncedFrom, IsWrittenBeside}
use Rattle.system_io.specs.Handles.{HandleFacts, PathFacts}
use Rattle.system_io.specs.SystemFiles.{HasName, HasSynced, HasWritten}
use Rattle.system_io.specs.declared.beside_file.Synced.{Synced}
use Rattle.system_io.specs.declared.beside_file.Written.{Written}

pub has_written : {H : Type 0} (facts : H → HandleFacts) (path bytes : List ℕ) (file : Written H) → IsWrittenBeside facts path bytes file → HasWritten facts path bytes (Some file)
has_written facts path bytes file h = record { file = file; is = refl; beside = h }

pub has_synced : {H : Type 0} (facts : H → HandleFacts) (had : Option (Written H)) (written : Written H) (synced : Synced H) → had ≡ Some written → IsSyncedFrom facts written synced → HasSynced facts had (Some synced)
has_synced facts had written synced was h = record { written = written; was = was; file = synced; is = refl; from = h }

pub has_name : {H : Type 0} (paths : PathFacts) (path : List ℕ) (had : Option (Synced H)) (synced : Synced H) → had ≡ Some synced → paths.renames (string_bytes synced.beside.path) path → HasName paths path had
has_name paths path had synced was h = record { file = synced; was = was; renamed = h }
