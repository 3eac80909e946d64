-- What is asked of folders at a place; cited by private functions alone.
use Rattle.std.specs.Prelude.{Bool, List, Option, Result, ℕ}
use Rattle.std.specs.declared.alloc.AllocError.{AllocError}
use Rattle.board_core.specs.declared.parts.Parts.{Parts}
use Rattle.json_lines.specs.Told.{IsLineOf}
use Rattle.json_lines.specs.declared.told.JsonLine.{JsonLine}
use Rattle.judge_core.specs.Tables.{Tables}
use Rattle.judge_core.specs.declared.ask.Ask.TheVariants.{Strict}
use Rattle.move_msg.specs.ToldBy.{told_by}
use Rattle.system_io.specs.Disks.{DiskFacts}
use Rattle.table_folder.specs.Reads.{PassesSome}
use Rattle.table_folder.specs.Settled.{IsWithMoves}
use Rattle.table_folder.specs.declared.fault.FileRefusal.{FileRefusal}
use Rattle.timeline.specs.Events.{Event}
use Rattle.timeline.specs.Outsides.{Outside}
use Rattle.answer_parts.specs.Reply.{Reply}
use Rattle.answer_parts.specs.declared.answers.Answer.{Answer}
use Rattle.answer_parts.specs.declared.answers.refusals.Refusal.{Refusal}
use Rattle.table_commands.specs.FolderAnswers.{TablesOn}
use Rattle.table_commands.specs.FolderReads.{DoesInFolder, Doing, FindsIn, FindsOpen, MakesInFolder, made_reply}
use Rattle.table_commands.specs.JsonAnswers.{needed_by}
use Rattle.table_commands.specs.Root.{IsToldIn, refused_words}
use Rattle.table_commands.specs.declared.folders.FolderPlace.{FolderPlace}
use Rattle.command_line.specs.declared.commands.pgn.JudgePgn.{JudgePgn}
use Rattle.system_io.specs.Inputs.{InputFacts}
use Rattle.table_commands.specs.Pgn.{JudgesIn}

-- from one moment of a log to a later one it is found by the folder at a place
abbrev pub FindsAt : {D L X : Type 0} → (D → DiskFacts) → (D → L → Option (List Event)) → FolderPlace D → L → L → (Tables → Parts → Type 0) → (Tables → X → Type 0) → Result (Result X Refusal) AllocError → Type 0
FindsAt facts events place begin end IsNeeded Is found = PassesSome (events place.disk.now begin) (events place.disk.now end) (FindsIn (facts place.disk.now) place.path.now place.manifest.now IsNeeded Is found)

-- a reply is made by it
abbrev pub MakesAt : {D L : Type 0} → (D → DiskFacts) → (D → L → Option (List Event)) → FolderPlace D → L → L → (Refusal → List ℕ) → (Tables → Parts → Type 0) → (Tables → Reply → Type 0) → Result Answer AllocError → Type 0
MakesAt facts events place begin end words IsNeeded Is made = PassesSome (events place.disk.now begin) (events place.disk.now end) (MakesInFolder (facts place.disk.now) place.path.now (told_by place.manifest.now) words IsNeeded Is (made_reply made))

-- the reply of `root` to a position, as JSON or in lines
abbrev pub RanksIn : {D L : Type 0} → (D → DiskFacts) → (D → L → Option (List Event)) → FolderPlace D → L → L → Bool → Parts → Result Answer AllocError → Type 0
RanksIn facts events place begin end json p made = MakesAt facts events place begin end (refused_words json) (IsWithMoves p) (λ tables. IsToldIn json Strict tables p) made

-- the line of a position, with its moves or without, is found by an open folder
abbrev pub FindsLine : {T P F K S L D : Type 0} → Outside T P F K S L → TablesOn D → TablesOn D → T → T → Bool → Parts → Result (Result JsonLine FileRefusal) AllocError → Type 0
FindsLine o old new begin end with_moves p found = FindsOpen o old new begin end (needed_by with_moves p) (λ tables l. IsLineOf Strict with_moves tables p l) found

-- what `pgn` does by the folder at a place
abbrev pub JudgesAtPlace : {D : Type 0} → FolderPlace D → JudgePgn → DiskFacts → InputFacts → Doing
JudgesAtPlace place t disk input = DoesInFolder disk place.path.now (told_by place.manifest.now) (JudgesIn disk input t)
