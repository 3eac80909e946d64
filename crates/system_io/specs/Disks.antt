-- Folders and files, as they are read (this project's own).
use Rattle.std.specs.Prelude.{◌≡◌, ◌<◌, ◌⊎◌, ℕ, Bool, List, length, IsPermutation}

-- where names or bytes come from: the folder or the file at a path
pub data Source : Type 0 where
  AtFolder : List ℕ → Source
  AtFile : List ℕ → Source

-- what is known of a disk
pub record DiskFacts : Type 1 where
  -- whether its contents are stated
  pub is_told : Bool
  -- the folder at this path lists these names, those apart that are no text
  pub lists : List ℕ → List (List ℕ) → Type 0
  -- the file at this path has these bytes
  pub holds : List ℕ → List ℕ → Type 0
  -- what stands there can't be read, or has more than 2^30 bytes
  pub fails : Source → Type 0
  -- the regular file at this path has this mode: what its owner, its group and others may do with it
  pub has_mode : List ℕ → ℕ → Type 0
  -- what stands at this path is no regular file
  pub is_irregular : List ℕ → Type 0

-- in each folder it lists one list of names, in any order, and in each file it holds one list of bytes, where it doesn't fail; each
-- regular file has one mode; and what is no regular file, such as a named pipe, gives no bytes
pub record HoldsOne (disk : DiskFacts) : Type 0 where
  pub names : (folder : List ℕ) (a b : List (List ℕ)) → disk.lists folder a → disk.lists folder b → IsPermutation a b
  pub bytes : (path a b : List ℕ) → disk.holds path a → disk.holds path b → a ≡ b
  pub listed : (folder : List ℕ) (names : List (List ℕ)) → disk.lists folder names → disk.fails (AtFolder folder) → ⊥
  pub held : (path bytes : List ℕ) → disk.holds path bytes → disk.fails (AtFile path) → ⊥
  pub mode : (path : List ℕ) (a b : ℕ) → disk.has_mode path a → disk.has_mode path b → a ≡ b
  pub regular : (path : List ℕ) (mode : ℕ) → disk.has_mode path mode → disk.is_irregular path → ⊥
  pub file : (path bytes : List ℕ) → disk.holds path bytes → disk.is_irregular path → ⊥

-- the file at this path has more bytes than so many
abbrev pub HasMore : DiskFacts → List ℕ → ℕ → Type 0
HasMore disk path most = (bytes : List ℕ) × disk.holds path bytes × (most < length bytes)

-- what stands at this path can't be read as a regular file of at most so many bytes
abbrev pub IsNoSmallFile : DiskFacts → List ℕ → ℕ → Type 0
IsNoSmallFile disk path most = (disk.fails (AtFile path) ⊎ HasMore disk path most) ⊎ disk.is_irregular path

-- a file and the input have at most 2^30 bytes
abbrev pub most_bytes : ℕ
most_bytes = 1073741824
