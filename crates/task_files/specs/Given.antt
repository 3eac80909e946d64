-- What is read for a task, as its answer uses it (this project's own).
use Rattle.std.specs.Prelude.{ℕ, List, Option}
use Rattle.move_msg.specs.Files.{File}
use Rattle.move_msg.specs.ToldManifests.{ToldManifest}

-- the files of a folder in rising order of names, what the manifest tells, if one is named, the input, and the bytes of the kept
-- files
pub record Given : Type 0 where
  pub files : List File
  pub told : Option ToldManifest
  pub input : List ℕ
  pub kept : List ℕ
  pub other_kept : List ℕ
