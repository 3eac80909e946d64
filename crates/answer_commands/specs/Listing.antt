-- `list [--progress] DIR`: the manifest of the tables in a folder (this project's own).
use Rattle.std.specs.Prelude.{◌≡◌, List}
use Rattle.answer_commands.specs.Replies.{Replying}
use Rattle.answer_parts.specs.Reply.{Reply}
use Rattle.command_line.specs.declared.commands.list.List.{List as ListTask}
use Rattle.move_msg.specs.Files.{File, entries_of}
use Rattle.move_msg.specs.Manifests.{SpellsManifest}
use Rattle.move_msg.specs.declared.told.Manifest.TheVariants.{Unnamed}
use Rattle.system_io.specs.Disks.{DiskFacts}
use Rattle.task_files.specs.TableLooks.{LooksInFolder}

-- the manifest of the files
abbrev pub IsListedManifest : List File → Reply → Type 0
IsListedManifest files r = SpellsManifest r.text (entries_of files) × (r.status ≡ 0)

-- the files of the folder are read one by one, and then their manifest is the reply
abbrev pub list_reply : DiskFacts → ListTask → Replying (List File)
list_reply disk t = record { Reads = LooksInFolder disk t.folder.now Unnamed t.progress; IsReply = IsListedManifest; TakesMemory = λ files. Unit {0} }
