-- Open files and paths: what their calls achieve (this project's own).
use Rattle.std.specs.Prelude.{ℕ, List, []}
use Rattle.system_io.specs.declared.handles.FileNumber.{FileNumber}

-- what is known of an open file
pub record HandleFacts : Type 1 where
  -- its bytes are these
  pub holds : List ℕ → Type 0
  -- they are on the disk
  pub is_synced : Type 0
  -- this process has its lock
  pub is_locked : Type 0
  -- it still has a name
  pub is_linked : Type 0
  -- it is the file with this number
  pub is_numbered : FileNumber → Type 0
  -- this process made it at this path, where nothing stood, and hasn't found it locked by another since
  pub is_made_at : List ℕ → Type 0

-- what is known of paths
pub record PathFacts : Type 1 where
  -- the regular file with this number stands at this path
  pub names : List ℕ → FileNumber → Type 0
  -- nothing stands at this path that could be read
  pub lacks : List ℕ → Type 0
  -- the file at this path has got this name
  pub renames : List ℕ → List ℕ → Type 0
  -- the names in the folder of the file at this path are on the disk
  pub syncs : List ℕ → Type 0

-- what it holds, it still holds
abbrev pub KeepsBytes : HandleFacts → HandleFacts → Type 0
KeepsBytes old new = (bytes : List ℕ) → old.holds bytes → new.holds bytes

-- where this process made it, it still counts as made
abbrev pub KeepsMade : HandleFacts → HandleFacts → Type 0
KeepsMade old new = (path : List ℕ) → old.is_made_at path → new.is_made_at path

-- it is the same file, and its lock is kept
pub record Stays (old new : HandleFacts) : Type 0 where
  pub locked : old.is_locked → new.is_locked
  pub numbered : (number : FileNumber) → old.is_numbered number → new.is_numbered number

-- the file is the one that stands at this path
pub record StandsAt (file : HandleFacts) (paths : PathFacts) (path : List ℕ) : Type 0 where
  pub number : FileNumber
  pub open_one : file.is_numbered number
  pub named_one : paths.names path number

-- this process has the lock of the file that stands at this path
pub record IsOwnAt (file : HandleFacts) (paths : PathFacts) (path : List ℕ) : Type 0 where
  pub locked : file.is_locked
  pub stands : StandsAt file paths path

-- a file that this process may remove
pub data CanRemove (file : HandleFacts) (paths : PathFacts) (path : List ℕ) : Type 0 where
  -- it made it there
  Made : file.is_made_at path → CanRemove file paths path
  -- it stands there, and this process has its lock
  Own : IsOwnAt file paths path → CanRemove file paths path

-- a new file, whose name and lock this process has
pub record IsOwnNew (file : HandleFacts) : Type 0 where
  pub locked : file.is_locked
  pub linked : file.is_linked
  pub empty : file.holds []
