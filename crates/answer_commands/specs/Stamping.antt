-- The manifest by which games are stamped that are entered or sent, as events (this project's own).
use Rattle.std.specs.Prelude.{◌≡◌, ℕ, false, List, Option, Some, None, Result, Ok, Err}
use Rattle.answer_parts.specs.Lines.{refused_manifest}
use Rattle.line_teller.specs.ToldLines.{cut_words, refused_memory}
use Rattle.move_msg.specs.Files.{File, entries_of}
use Rattle.move_msg.specs.Manifests.{Entry, IsFirstBadLine, SpellsManifest}
use Rattle.move_msg.specs.declared.told.Manifest.TheVariants.{Unnamed}
use Rattle.system_io.specs.Disks.{DiskFacts}
use Rattle.system_io.specs.declared.reading.ReadFault.{ReadFault}
use Rattle.task_files.specs.InputReads.{ReadsText}
use Rattle.task_files.specs.TableLooks.{LooksInFolder}
use Rattle.timeline.specs.Events.{Event}

-- Where a file is named, it is read, and is the manifest; or a line of it is at fault, or it can't be read. Where none is, the files of tables
-- in the folder are read one by one, and theirs is the manifest; or the folder or one of them can't be read. Else memory was refused. Why
-- there is none is told by these words.
pub data ReadsStamping (disk : DiskFacts) (named : Option (List ℕ)) (tables : List ℕ) (result : Result (List ℕ) (List ℕ)) (events : List Event) : Type 0 where
  OfFile : (path text : List ℕ) (entries : List Entry) → named ≡ Some path → ReadsText disk path (Ok text) events → SpellsManifest text entries → result ≡ Ok text → ReadsStamping disk named tables result events
  BadLine : (path text : List ℕ) (number : ℕ) → named ≡ Some path → ReadsText disk path (Ok text) events → IsFirstBadLine text number → result ≡ Err (refused_manifest number) → ReadsStamping disk named tables result events
  NoRoomForLines : (path text : List ℕ) → named ≡ Some path → ReadsText disk path (Ok text) events → result ≡ Err refused_memory → ReadsStamping disk named tables result events
  NoFile : (path : List ℕ) (fault : ReadFault) → named ≡ Some path → ReadsText disk path (Err fault) events → result ≡ Err (cut_words fault) → ReadsStamping disk named tables result events
  OfFolder : (files : List File) (text : List ℕ) → named ≡ None → LooksInFolder disk tables Unnamed false (Ok files) events → SpellsManifest text (entries_of files) → result ≡ Ok text → ReadsStamping disk named tables result events
  NoRoomForText : (files : List File) → named ≡ None → LooksInFolder disk tables Unnamed false (Ok files) events → result ≡ Err refused_memory → ReadsStamping disk named tables result events
  NoFolder : (fault : ReadFault) → named ≡ None → LooksInFolder disk tables Unnamed false (Err fault) events → result ≡ Err (cut_words fault) → ReadsStamping disk named tables result events
