-- Games that are judged by a folder whose files are somewhere; cited by private functions alone.
use Rattle.std.specs.Prelude.{List, Option, Result}
use Rattle.std.specs.declared.alloc.AllocError.{AllocError}
use Rattle.board_core.specs.declared.parts.Parts.{Parts}
use Rattle.game_teller.specs.Judges.{JudgeFacts, JudgesOn}
use Rattle.judge_core.specs.Standings.{Reached}
use Rattle.judge_core.specs.Tables.{Tables}
use Rattle.system_io.specs.Disks.{DiskFacts}
use Rattle.table_folder.specs.Folders.{FolderOn}
use Rattle.table_folder.specs.Reads.{PassesSome}
use Rattle.table_folder.specs.declared.fault.FileRefusal.{FileRefusal}
use Rattle.timeline.specs.Events.{Event}
use Rattle.table_commands.specs.Follow.{by_folder}
use Rattle.table_commands.specs.FolderReads.{OpensMissed}

-- how a game is judged by these tables of it
abbrev pub judged_on : {D : Type 0} → (D → DiskFacts) → FolderOn D → Tables → JudgeFacts
judged_on facts on tables = by_folder (facts on.disk) on.folder tables

-- a game stands one move later, by what was open before it and what is then
abbrev pub GoesOn : {D : Type 0} → (D → DiskFacts) → FolderOn D → Tables → Tables → Reached → Parts → Reached → Type 0
GoesOn facts on old new standing p next = JudgesOn (judged_on facts on old) (judged_on facts on new) standing p next

-- from one moment of a log to a later one those are opened that the needed positions miss
abbrev pub OpensFrom : {D L : Type 0} → (D → DiskFacts) → (D → L → Option (List Event)) → FolderOn D → L → L → (Tables → Parts → Type 0) → Tables → Tables → Result (Option FileRefusal) AllocError → Type 0
OpensFrom facts events on begin end IsNeeded old new refused = PassesSome (events on.disk begin) (events on.disk end) (OpensMissed (facts on.disk) on.folder IsNeeded old new refused)
