-- What is looked up in a folder whose tables are read when a position asks for them; cited by private functions alone.
use Rattle.std.specs.Prelude.{◌≡◌, ℕ, List, Option, Some, Result, Ok, Err}
use Rattle.board_core.specs.declared.parts.Parts.{Parts}
use Rattle.judge_core.specs.declared.display.Columns.{Columns}
use Rattle.judge_core.specs.ProbeResult.{IsProbed}
use Rattle.judge_core.specs.Ruling.{ruling}
use Rattle.judge_core.specs.Tables.{Tables}
use Rattle.move_msg.specs.ToldManifests.{ToldManifest}
use Rattle.system_io.specs.Disks.{DiskFacts}
use Rattle.table_folder.specs.declared.fault.FileRefusal.{FileRefusal}
use Rattle.table_folder.specs.Folders.{Folder, FolderOn}
use Rattle.table_folder.specs.Settled.{AnswersBy, IsAlone, IsRefusedFor}
use Rattle.task_files.specs.Outside.{FolderFails}
use Rattle.table_commands.specs.FolderAnswers.{IsOpenAt, IsSound, TablesOn}
use Rattle.answer_parts.specs.declared.answers.refusals.Refusal.{Refusal}
use Rattle.answer_parts.specs.declared.answers.refusals.Refusal.TheVariants as refusal
use Rattle.timeline.specs.Outsides.{AddsSome, Outside}
use Rattle.move_msg.specs.declared.told.Manifest.{Manifest}
use Rattle.table_commands.specs.FolderReads.{OpensToAsk}
use Rattle.std.specs.declared.alloc.AllocError.{AllocError}

-- what tables say of a position
abbrev pub AreColumns : Parts → Tables → Columns → Type 0
AreColumns p tables columns = IsProbed tables p columns.probed × (columns.verdict ≡ ruling tables p)

-- the manifest is at fault, or else the folder can't be listed or lists a file twice
pub data LacksFolder (disk : DiskFacts) (path : List ℕ) (manifest : Option ToldManifest) (refused : Refusal) : Type 0 where
  HasBadLine : (line : ℕ) → manifest ≡ Some (Err line) → refused ≡ refusal.Manifest line → LacksFolder disk path manifest refused
  CannotList : IsSound manifest → FolderFails disk path manifest → refused ≡ refusal.Files → LacksFolder disk path manifest refused

-- the folder that was opened
abbrev pub folder_opened : {D E : Type 0} → Result (Result (FolderOn D) Refusal) E → Result (Result Folder Refusal) E
folder_opened (Ok (Ok f)) = Ok (Ok f.folder)
folder_opened (Ok (Err refused)) = Ok (Err refused)
folder_opened (Err e) = Err e

-- the folder that was opened to be asked
abbrev pub opened_to_ask : {D S E : Type 0} → Result (Result (FolderOn D × S) Refusal) E → Result (Result Folder Refusal) E
opened_to_ask (Ok (Ok o)) = Ok (Ok o.0.folder)
opened_to_ask (Ok (Err refused)) = Ok (Err refused)
opened_to_ask (Err e) = Err e

abbrev pub kept_to_ask : {D E : Type 0} → Result (Result (TablesOn D) Refusal) E → Result (Result Folder Refusal) E
kept_to_ask (Ok (Ok o)) = Ok (Ok o.on.folder)
kept_to_ask (Ok (Err refused)) = Ok (Err refused)
kept_to_ask (Err e) = Err e

-- from one moment to a later one a folder is opened to be asked, over an outside
abbrev pub OpensKept : {T P F K S L D : Type 0} → Outside T P F K S L → T → T → List ℕ → Manifest → Result (Result (TablesOn D) Refusal) AllocError → Type 0
OpensKept o begin end path manifest found = AddsSome o begin end (OpensToAsk o.disk path manifest (kept_to_ask found))
