-- What a command reads, as events (this project's own).
use Rattle.std.specs.Prelude.{◌≡◌, ◌≤◌, ℕ, List, [], Option, Some, None, Result, Ok, length}
use Rattle.move_msg.specs.Files.{File}
use Rattle.move_msg.specs.declared.told.Manifest.TheVariants.{Unnamed}
use Rattle.system_io.specs.Disks.{DiskFacts, most_bytes}
use Rattle.system_io.specs.Inputs.{InputFacts}
use Rattle.system_io.specs.declared.reading.ReadFault.{ReadFault}
use Rattle.system_io.specs.declared.reading.ReadFault.TheVariants as read
use Rattle.task_files.specs.TableReads.{ReadsFolder}
use Rattle.timeline.specs.Events.{Event}

-- these are all bytes of the input
abbrev pub IsInput : InputFacts → List ℕ → Type 0
IsInput input bytes = input.gives bytes × (length bytes ≤ most_bytes)

-- the input isn't read, for this reason: it can't be, or reading it takes memory, which was refused
abbrev pub IsUnread : InputFacts → ReadFault → Type 0
IsUnread input read.Unreadable = input.fails
IsUnread input read.OutOfMemory = input.takes_memory

-- the files of a folder, where one is named; no file and no event where none is
abbrev pub ReadsNamed : DiskFacts → Option (List ℕ) → Result (List File) ReadFault → List Event → Type 0
ReadsNamed disk None result events = (result ≡ Ok []) × (events ≡ [])
ReadsNamed disk (Some folder) result events = ReadsFolder disk folder Unnamed result events
