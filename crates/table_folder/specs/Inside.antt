-- Intermediate results of functions. Private clauses alone cite them.
use Rattle.std.specs.Prelude.{◌≡◌, ◌≤◌, ◌+◌, ◌⊎◌, ℕ, length, slice_set, Option, Some, None, Result, Ok, Err}
use Rattle.std.specs.declared.alloc.AllocError.{AllocError}
use Rattle.board_core.specs.declared.parts.Parts.{Parts}
use Rattle.system_io.specs.Disks.{DiskFacts}
use Rattle.table_file.specs.declared.kind.TableKind.{TableKind}
use Rattle.table_file.specs.declared.kind.TableKind.TheVariants.{Wdl}
use Rattle.table_file.specs.Names.{file_name}
use Rattle.table_file.specs.Tables.{Contents}
use Rattle.judge_core.specs.declared.fault.ProbeFault.TheVariants.{NotCovered}
use Rattle.judge_core.specs.declared.probe_result.ProbeResult.{ProbeResult}
use Rattle.judge_core.specs.MoreTables.{HasAll, table_count}
use Rattle.judge_core.specs.ProbeResult.{IsProbed}
use Rattle.judge_core.specs.Ruling.{ruling}
use Rattle.judge_core.specs.Tables.{Tables, slot, table_at}
use Rattle.table_folder.specs.declared.fault.FileRefusal.{FileRefusal}
use Rattle.table_folder.specs.declared.settling.Look.{Look}
use Rattle.table_folder.specs.declared.settling.Look.TheVariants.{Settled, Opened, Refused}
use Rattle.table_folder.specs.Folders.{AreOf, Folder, FolderOn, Says}
use Rattle.table_folder.specs.Settled.{AddsOnlyMissed, IsAlone, IsRefusedAt, IsSettled}

-- by what both probes tell, this table is missed
abbrev pub MissesBy : Tables → ProbeResult → TableKind → ℕ → Type 0
MissesBy tables probed kind key =
    (table_at tables kind key ≡ None) × ((kind ≡ Wdl) × (probed.wdl ≡ Err (NotCovered key)) ⊎ (probed.dtz ≡ Err (NotCovered key)))

-- the table of a file is put into its slot, which was empty
pub record AddsTable (disk : DiskFacts) (folder : Folder) (old new : Tables) (kind : TableKind) (key : ℕ) : Type 0 where
  pub table : Contents
  pub says : Says disk folder (file_name kind key) (Ok table)
  pub put : new ≡ slice_set old (slot kind key) (Some table)

-- the file of a table is refused for what it says
pub record IsRefusalOf (disk : DiskFacts) (folder : Folder) (kind : TableKind) (key : ℕ) (refusal : FileRefusal) : Type 0 where
  pub name : refusal.name.bytes ≡ file_name kind key
  pub says : Says disk folder (file_name kind key) (Err refusal.fault)

-- one table more of the folder is open, which this position misses
pub record IsOneMoreOf (disk : DiskFacts) (folder : Folder) (old new : Tables) (p : Parts) : Type 0 where
  pub opened : AreOf disk folder new
  pub kept : HasAll old new
  pub slots : length new ≡ length old
  pub more : table_count old + 1 ≤ table_count new
  pub only : AddsOnlyMissed disk folder (IsAlone p) old new

-- what a look at a position comes to
abbrev pub IsLook : DiskFacts → Folder → Tables → Tables → Parts → Look → Type 0
IsLook disk folder old new p (Settled columns) =
    (new ≡ old) × IsProbed old p columns.probed × (columns.verdict ≡ ruling old p) × IsSettled folder old p
IsLook disk folder old new p Opened = IsOneMoreOf disk folder old new p
IsLook disk folder old new p (Refused refusal) = (new ≡ old) × IsRefusedAt disk folder p refusal

-- what a look refuses, if it does
abbrev pub looked : Result Look AllocError → Result (Option FileRefusal) AllocError
looked (Ok (Settled columns)) = Ok None
looked (Ok Opened) = Ok None
looked (Ok (Refused refusal)) = Ok (Some refusal)
looked (Err e) = Err e

-- the folder that was opened
abbrev pub folder_of : {D E : Type 0} → Result (FolderOn D) E → Result Folder E
folder_of (Ok f) = Ok f.folder
folder_of (Err e) = Err e
