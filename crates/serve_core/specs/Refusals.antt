-- Why the requests of a task of `serve` aren't answered (this project's own).
use Rattle.std.specs.Prelude.{◌≡◌, Option, Some, None, Result, Ok, Err, option_map, ℕ, List}
use Rattle.answer_parts.specs.declared.answers.refusals.Refusal.{Refusal}
use Rattle.answer_parts.specs.declared.answers.refusals.Refusal.TheVariants as refusal
use Rattle.command_line.specs.declared.commands.serve.Serve.{Serve}
use Rattle.move_msg.specs.ToldManifests.{ToldManifest}
use Rattle.system_io.specs.Disks.{DiskFacts}
use Rattle.system_io.specs.declared.reading.ReadFault.{ReadFault}
use Rattle.system_io.specs.declared.reading.ReadFault.TheVariants as read
use Rattle.table_commands.specs.FolderAnswers.{IsSound}
use Rattle.table_folder.specs.Folders.{Folder, IsFolderAt}
use Rattle.task_files.specs.Outside.{IsToldAt}
use Rattle.serve_core.specs.declared.refusals.Unbound.{Unbound}
use Rattle.serve_core.specs.declared.refusals.Unbound.TheVariants as unbound

-- why an address isn't bound, or requests can't be awaited any more, by the kind of the system's error
abbrev pub unbound_of : ReadFault → Unbound
unbound_of read.Unreadable = unbound.Address
unbound_of read.OutOfMemory = unbound.Memory

-- which refusal that is
abbrev pub refusal_for : Unbound → Refusal
refusal_for unbound.Address = refusal.Port
refusal_for unbound.Memory = refusal.Memory

-- what isn't bound, if something isn't
abbrev pub unbound_in : {B : Type 0} → Result B Unbound → Option Unbound
unbound_in (Ok bound) = None
unbound_in (Err why) = Some why

-- the folder of tables that the words name, held to the manifest that they name, of which no line is malformed, as a disk has both
pub record IsTaskFolder (disk : DiskFacts) (t : Serve) (folder : Folder) : Type 0 where
  pub told : Option ToldManifest
  pub is_told : IsToldAt disk (option_map (λ s. s.now) t.manifest) told
  pub sound : IsSound told
  pub is_at : IsFolderAt disk t.tables.now told folder
