-- `check --manifest FILE [--progress] DIR`: whether the tables in a folder are those of a manifest (this project's own).
use Rattle.std.specs.Prelude.{◌≡◌, ℕ, List, [], map, Option, Some, None, Ok, Err}
use Rattle.move_msg.specs.Files.{File}
use Rattle.move_msg.specs.TextLines.{text_of}
use Rattle.move_msg.specs.ToldManifests.{ToldManifest}
use Rattle.answer_parts.specs.Lines.{refused_manifest}
use Rattle.answer_parts.specs.Looks.{Look, are_tables, look_for, look_line}
use Rattle.answer_commands.specs.Replies.{RepliesTo, Replying}
use Rattle.move_msg.specs.ToldBy.{told_by}
use Rattle.move_msg.specs.declared.told.Manifest.{Manifest}
use Rattle.system_io.specs.Disks.{DiskFacts}
use Rattle.task_files.specs.InputReads.{Gives, ReadsManifest, Then}
use Rattle.task_files.specs.TableLooks.{LooksInFolder}
use Rattle.answer_parts.specs.Reply.{Reply, refusal_reply, status_if}
use Rattle.command_line.specs.declared.commands.check.Check.{Check}
use Rattle.timeline.specs.Events.{Event}
use Rattle.timeline.specs.Outsides.{Outside}

-- a line for each line of the manifest, in its order, and whether all files are there and as they should be
abbrev pub checked : List Look → Reply
checked looks = record { text = text_of (map look_line looks); status = status_if (are_tables looks) }

abbrev pub checked_by : List File → Option ToldManifest → Reply
checked_by files None = checked []
checked_by files (Some (Ok es)) = checked (map (look_for files) es)
checked_by files (Some (Err number)) = refusal_reply (refused_manifest number)

-- what the manifest says, and the files of the folder that it names
pub record Checked : Type 0 where
  pub told : Option ToldManifest
  pub files : List File

-- by this manifest its files are read one by one, and the reply is by both
abbrev pub folder_reply : DiskFacts → Check → Manifest → Replying Checked
folder_reply disk t manifest = record {
  Reads = Then (LooksInFolder disk t.folder.now manifest t.progress) (λ files. Gives (record { told = told_by manifest; files = files }));
  IsReply = λ c r. r ≡ checked_by c.files c.told;
  TakesMemory = λ c. Unit {0};
}

abbrev pub ChecksFolder : {T P F K S L : Type 0} → Outside T P F K S L → Check → Manifest → List Event → Option ℕ → Type 0
ChecksFolder o t manifest = RepliesTo (folder_reply o.disk t manifest)

-- the manifest is read, and then its files
abbrev pub check_reply : DiskFacts → Check → Replying Checked
check_reply disk t = record {
  Reads = Then (ReadsManifest disk (Some t.manifest.now)) (λ manifest. (folder_reply disk t manifest).Reads);
  IsReply = λ c r. r ≡ checked_by c.files c.told;
  TakesMemory = λ c. Unit {0};
}
