-- What private functions return.
use Rattle.std.specs.Prelude.{◌≡◌, ◌∷◌, [], ℕ, List, Option, Some, Result, Ok, Err}
use Rattle.answer_parts.specs.declared.answers.refusals.Refusal.{Refusal}
use Rattle.command_line.specs.declared.commands.serve.Serve.{Serve}
use Rattle.move_msg.specs.ToldBy.{told_by}
use Rattle.move_msg.specs.declared.told.Manifest.{Manifest}
use Rattle.system_io.specs.Disks.{DiskFacts}
use Rattle.table_commands.specs.FolderAnswers.{IsSound}
use Rattle.task_files.specs.InputReads.{ReadsManifest}
use Rattle.timeline.specs.Events.{Event, Flushed, Wrote}
use Rattle.timeline.specs.declared.stream.Stream.TheVariants.{Output}
use Rattle.serve_core.specs.Serve.{OpensTables, manifest_path}

-- the manifest was read, and no line of it is malformed; or why not
abbrev pub ReadsSound : DiskFacts → Serve → Result Manifest Refusal → List Event → Type 0
ReadsSound disk t (Ok manifest) events = ReadsManifest disk (manifest_path t) (Ok manifest) events × IsSound (told_by manifest)
ReadsSound disk t (Err refused) events = OpensTables disk t (Err refused) events

-- a text is written, and goes out
abbrev pub GoesOut : List ℕ → List Event → Option ℕ → Type 0
GoesOut text events status = (events ≡ Wrote Output text ∷ Flushed Output ∷ []) × (status ≡ Some 0)
