-- A disk that loses power, and what a start then finds under a name (this project's own).
use Rattle.std.specs.Prelude.{◌≡◌, ◌⊎◌, ◌-◌, ℕ, Bool, true, false, cond, List, [], length, Option, Some, None, slice_index_or}
use Rattle.system_fakes.specs.declared.disk_file.Crash.{Crash}
use Rattle.system_fakes.specs.declared.disk_file.Crash.TheVariants.{StaysUp, PowerLost}
use Rattle.system_fakes.specs.declared.disk_file.Content.{Content}
use Rattle.system_fakes.specs.declared.disk_file.DiskFile.{DiskFile}
use Rattle.system_fakes.specs.declared.disk_file.Outcome.{Outcome}
use Rattle.system_fakes.specs.declared.disk_file.Outcome.TheVariants.{Good}
use Rattle.system_io.specs.declared.reading.ReadFault.{ReadFault}
use Rattle.system_io.specs.declared.reading.ReadFault.TheVariants.{Unreadable, OutOfMemory}
use Rattle.system_io.specs.KeptFiles.{HasAny, IsLong, KeptFacts, Stage, Written, Synced, Renamed}

-- ---- what the system shows, and what the platter holds

-- the bytes of a file as the system shows them
abbrev pub shown_content : Option Content → Option (List ℕ)
shown_content None = None
shown_content (Some c) = Some c.bytes.items

-- what a loss of power leaves of a file: its bytes where they are synced, and else any bytes, here these
abbrev pub left_of : Option Content → List ℕ → Option (List ℕ)
left_of None bytes = None
left_of (Some c) bytes = cond c.is_synced (Some c.bytes.items) (Some bytes)

-- what stands under the name after a loss of power: what is left of the present holder, or of one since the folder was
-- synced, chosen by the number
abbrev pub after_stop : DiskFile → ℕ → List ℕ → Option (List ℕ)
after_stop d which bytes = left_of (slice_index_or d.earlier.items which d.stands) bytes

-- what is read under the name now
abbrev pub seen : DiskFile → Option (List ℕ)
seen d = shown_content d.stands

-- ---- the facts of the kept file on it

-- each loss of power that may come now leaves the one or the other under the name
abbrev pub LeavesOneOf : DiskFile → Option (List ℕ) → Option (List ℕ) → Type 0
LeavesOneOf d a b = (which : ℕ) (bytes : List ℕ) → (after_stop d which bytes ≡ a) ⊎ (after_stop d which bytes ≡ b)

-- a file with these bytes, of which no sync has failed
pub record HoldsBytes (held : Option Content) (bytes : List ℕ) : Type 0 where
  pub content : Content
  pub is : held ≡ Some content
  pub bytes_are : content.bytes.items ≡ bytes
  pub whole : content.is_spoiled ≡ false

-- a file with these bytes, which are on the platter
pub record HoldsSynced (held : Option Content) (bytes : List ℕ) : Type 0 where
  pub content : Content
  pub is : held ≡ Some content
  pub bytes_are : content.bytes.items ≡ bytes
  pub synced : content.is_synced ≡ true

-- how far bytes have come; a file whose name a sync of the folder has lost counts as one that has not got it
abbrev pub HasReached : DiskFile → Stage → List ℕ → Type 0
HasReached d Written bytes = HoldsBytes d.beside bytes
HasReached d Synced bytes = HoldsSynced d.beside bytes
HasReached d Renamed bytes = HoldsSynced d.stands bytes × (d.is_name_lost ≡ false)

-- what is read under the name is what every loss of power leaves there
abbrev pub IsLasting : DiskFile → Type 0
IsLasting d = LeavesOneOf d (seen d) (seen d)

-- all of a file is on the platter, or there is none
abbrev pub IsOnPlatter : Option Content → Type 0
IsOnPlatter None = Unit {0}
IsOnPlatter (Some c) = c.is_synced ≡ true

-- the folder and what stands under the name are on the platter
pub record IsAtRest (d : DiskFile) : Type 0 where
  pub names : d.earlier.items ≡ []
  pub bytes : IsOnPlatter d.stands

-- a sync of the file has failed, and not all of it is on the platter
abbrev pub IsSpoilt : Option Content → Type 0
IsSpoilt None = ⊥
IsSpoilt (Some c) = (c.is_spoiled ≡ true) × (c.is_synced ≡ false)

-- what comes of the next call
abbrev pub next_of : List Outcome → Outcome
next_of outcomes = slice_index_or outcomes (length outcomes - 1) Good

-- what stands under the name, or the name, can't be brought to the platter any more
abbrev pub IsLost : DiskFile → Type 0
IsLost d = IsSpoilt d.stands ⊎ (d.is_name_lost ≡ true)

-- it can't be brought to the platter any more, or the next call fails; no memory is taken
abbrev pub IsStuck : DiskFile → ReadFault → Type 0
IsStuck d Unreadable = IsLost d ⊎ (next_of d.outcomes.items ≡ Good → ⊥)
IsStuck d OutOfMemory = ⊥

-- what comes of its calls, the last of the list first, and whether it gives what stands there
abbrev pub calls_to_come : DiskFile → List Outcome
calls_to_come d = d.outcomes.items

abbrev pub gives_nothing : DiskFile → Bool
gives_nothing d = d.reads_fail

-- the disk gives nothing, or what stands under the name is too long; memory is taken where bytes stand there
abbrev pub CannotBeRead : DiskFile → ReadFault → Type 0
CannotBeRead d Unreadable = (d.reads_fail ≡ true) ⊎ IsLong (seen d)
CannotBeRead d OutOfMemory = HasAny (seen d)

-- the facts of the kept file on a disk
abbrev pub disk_facts : DiskFile → KeptFacts
disk_facts d = record { reached = HasReached d; finds = LeavesOneOf d; settled = IsLasting d; cannot_settle = IsStuck d; cannot_read = CannotBeRead d; faults = d.failures }

-- ---- how a run ends

-- this stands under the name after a stop
abbrev pub IsLeftBy : DiskFile → Crash → Option (List ℕ) → Type 0
IsLeftBy d StaysUp left = left ≡ seen d
IsLeftBy d (PowerLost which bytes beside) left = left ≡ after_stop d which bytes.items

-- after a loss of power the folder and what stands under the name are on the platter
abbrev pub RestsAfter : Crash → DiskFile → Type 0
RestsAfter StaysUp d = Unit {0}
RestsAfter (PowerLost which bytes beside) d = IsAtRest d

-- after a loss of power what it left is read
abbrev pub IsReadAfter : DiskFile → Crash → Option (List ℕ) → Type 0
IsReadAfter d StaysUp got = Unit {0}
IsReadAfter d (PowerLost which bytes beside) got = got ≡ after_stop d which bytes.items
