-- Commands that answer the lines of the input by tables (this project's own).
use Rattle.std.specs.Prelude.{ℕ, List, Option}
use Rattle.std.specs.Borrow.{Bor}
use Rattle.judge_core.specs.Tables.{Tables}
use Rattle.line_events.specs.Writing.{DoesBy}
use Rattle.system_io.specs.Disks.{DiskFacts}
use Rattle.system_io.specs.Inputs.{InputFacts}
use Rattle.table_folder.specs.Folders.{Folder}
use Rattle.task_files.specs.Given.{Given}
use Rattle.task_files.specs.InputReads.{ReadsGiven}
use Rattle.task_files.specs.Sources.{Named}
use Rattle.timeline.specs.Outsides.{Outside}
use Rattle.table_commands.specs.FolderReads.{Doing, DoesByPlace, DoesInFolder, DoesOfGiven}
use Rattle.answer_parts.specs.Looks.{gathered}
use Rattle.move_msg.specs.ToldManifests.{ToldManifest}

-- such a task
pub record LineAsking : Type 1 where
  -- what it names
  pub named : Named
  -- the folder whose tables are read when a line asks for them, if they are
  pub path : Option (Bor (List ℕ))
  -- what is done by that folder, of which no table is open; and by tables that were given
  pub InFolder : DiskFacts → InputFacts → Folder → Doing
  pub ByTables : InputFacts → Tables → Doing

abbrev pub DoesGiven : DiskFacts → InputFacts → LineAsking → Given → Doing
DoesGiven disk input t given = DoesByPlace disk given t.path (t.InFolder disk input) (t.ByTables input)

-- by the folder at a path, and by tables that were given
abbrev pub AnswersInFolder : LineAsking → List ℕ → Option ToldManifest → DiskFacts → InputFacts → Doing
AnswersInFolder t path told disk input = DoesInFolder disk path told (t.InFolder disk input)

abbrev pub AnswersOfGiven : LineAsking → Given → InputFacts → Doing
AnswersOfGiven t given input = DoesOfGiven (gathered given) (t.ByTables input)

-- what it names is read, and then that is done
abbrev pub AnswersLinesOf : {T P F K S L : Type 0} → Outside T P F K S L → LineAsking → Doing
AnswersLinesOf o t = DoesBy (ReadsGiven o t.named) (DoesGiven o.disk o.input t)
