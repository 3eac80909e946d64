-- What is read for a task (this project's own).
use Rattle.std.specs.Prelude.{◌⊎◌, ℕ, Bool, false, List, Option, None, option_map}
use Rattle.std.specs.Borrow.{Bor}
use Rattle.task_files.specs.declared.sources.InputPaths.{InputPaths}
use Rattle.system_io.specs.Disks.{DiskFacts, AtFile, HasMore}

-- the paths of the folder, of the manifest and of kept files, where one is named, and whether the input is read
pub record Named : Type 0 where
  pub folder : Option (List ℕ)
  pub manifest : Option (List ℕ)
  pub input : Bool
  pub kept : Option (List ℕ)
  pub other_kept : Option (List ℕ)

-- the path of a place, where one is named
abbrev pub path_named : Option (Bor (List ℕ)) → Option (List ℕ)
path_named place = option_map (λ s. s.now) place

abbrev pub nothing : Named
nothing = record { folder = None; manifest = None; input = false; kept = None; other_kept = None }

abbrev pub named_by : InputPaths → Named
named_by places = record {
  folder = option_map (λ s. s.now) places.folder;
  manifest = option_map (λ s. s.now) places.manifest;
  input = places.reads_input;
  kept = option_map (λ s. s.now) places.kept;
  other_kept = option_map (λ s. s.now) places.other_kept;
}

-- the bytes of the kept file at a path, where one is named; a record has at most 8217 bytes
abbrev pub most_kept : ℕ
most_kept = 8217

-- the file at a path can't be read, or has more bytes than a record
abbrev pub LacksKept : DiskFacts → List ℕ → Type 0
LacksKept disk path = disk.fails (AtFile path) ⊎ HasMore disk path most_kept
