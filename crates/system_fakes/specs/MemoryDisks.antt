-- What stands on a disk in memory (this project's own).
use Rattle.std.specs.Prelude.{◌≡◌, ◌⊎◌, ◌≤◌, ◌<◌, ℕ, true, List, [], ◌∷◌, length, map, bit_and}
use Rattle.system_fakes.specs.declared.memory_disk.MemoryDisk.{MemoryDisk}
use Rattle.system_io.specs.Disks.{AtFile, AtFolder, DiskFacts, Source, most_bytes}

-- of these rows, the first at this path holds this
abbrev pub IsFoundAt : {A B : Type 0} → (A → List ℕ) → (A → B) → List A → List ℕ → B → Type 0
IsFoundAt path holds [] at value = ⊥
IsFoundAt path holds (row ∷ rows) at value = ((path row ≡ at) × (value ≡ holds row)) ⊎ ((path row ≡ at → ⊥) × IsFoundAt path holds rows at value)

-- none of these rows is at this path
abbrev pub IsNowhere : {A : Type 0} → (A → List ℕ) → List A → List ℕ → Type 0
IsNowhere path [] at = Unit {0}
IsNowhere path (row ∷ rows) at = (path row ≡ at → ⊥) × IsNowhere path rows at

-- this path is none of those at which nothing can be read
abbrev pub CanBeRead : MemoryDisk → List ℕ → Type 0
CanBeRead d at = IsNowhere (λ path. path.now) d.failing.now at

-- the file at this path
abbrev pub IsFileAt : MemoryDisk → List ℕ → List ℕ → Type 0
IsFileAt d at bytes = IsFoundAt (λ row. row.path.now) (λ row. row.holds.now) d.files.now at bytes

-- the names in the folder at this path
abbrev pub IsFolderAt : MemoryDisk → List ℕ → List (List ℕ) → Type 0
IsFolderAt d at names = IsFoundAt (λ row. row.path.now) (λ row. map (λ n. n.now) row.holds.now) d.folders.now at names

-- the mode of the file at this path: the stated one, or that of a file that its owner alone may read and write
abbrev pub HasMode : MemoryDisk → List ℕ → ℕ → Type 0
HasMode d at mode = IsFoundAt (λ row. row.path.now) (λ row. row.holds) d.modes.now at mode ⊎ (IsNowhere (λ row. row.path.now) d.modes.now at × (mode ≡ 0o100600))

-- by its mode a file is a regular one
abbrev pub IsRegular : ℕ → Type 0
IsRegular mode = bit_and mode 0o170000 ≡ 0o100000

-- the regular file at this path has this mode
abbrev pub HasRegular : MemoryDisk → List ℕ → ℕ → Type 0
HasRegular d at mode = HasMode d at mode × IsRegular mode

-- by its mode what stands at this path is no regular file
abbrev pub IsIrregularAt : MemoryDisk → List ℕ → Type 0
IsIrregularAt d at = (mode : ℕ) × HasMode d at mode × (IsRegular mode → ⊥)

-- nothing can be read there, or nothing stands there, or a file with too many bytes, or what is no regular file
abbrev pub CannotReadAt : MemoryDisk → Source → Type 0
CannotReadAt d (AtFolder at) = (CanBeRead d at → ⊥) ⊎ IsNowhere (λ row. row.path.now) d.folders.now at
CannotReadAt d (AtFile at) = ((CanBeRead d at → ⊥) ⊎ IsNowhere (λ row. row.path.now) d.files.now at) ⊎ (((bytes : List ℕ) × IsFileAt d at bytes × (most_bytes < length bytes)) ⊎ IsIrregularAt d at)

-- the facts of a disk in memory
abbrev pub disk_of : MemoryDisk → DiskFacts
disk_of d = record {
  is_told = true;
  lists = λ at names. IsFolderAt d at names × CanBeRead d at;
  holds = λ at bytes. IsFileAt d at bytes × (length bytes ≤ most_bytes) × CanBeRead d at × ((mode : ℕ) × HasRegular d at mode);
  fails = CannotReadAt d;
  has_mode = HasRegular d;
  is_irregular = IsIrregularAt d;
}
