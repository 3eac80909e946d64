-- What happens outside while what a task names is read, one event after another (this project's own).
use Rattle.std.specs.Prelude.{◌≡◌, ◌≤◌, ◌++◌, ℕ, Bool, true, false, List, [], ◌∷◌, length, Option, Some, None, Result, Ok, Err}
use Rattle.move_msg.specs.Files.{File}
use Rattle.move_msg.specs.ToldBy.{told_by}
use Rattle.move_msg.specs.ToldManifests.{TellsManifest, ToldManifest}
use Rattle.move_msg.specs.declared.told.Manifest.{Manifest}
use Rattle.move_msg.specs.declared.told.Manifest.TheVariants.{Unnamed}
use Rattle.system_io.specs.Disks.{AtFile, DiskFacts, most_bytes}
use Rattle.system_io.specs.Inputs.{InputFacts}
use Rattle.system_io.specs.declared.reading.ReadFault.{ReadFault}
use Rattle.system_io.specs.declared.reading.ReadFault.TheVariants as read
use Rattle.task_files.specs.Given.{Given}
use Rattle.task_files.specs.Sources.{LacksKept, Named, most_kept}
use Rattle.task_files.specs.TableReads.{ReadsFolder}
use Rattle.timeline.specs.Events.{Event, FileRead, InputRead}
use Rattle.timeline.specs.Outsides.{AddsSome, Outside}

-- a reading: what it gave, or its fault, by the events that came
abbrev pub Reading : Type 0 → Type 1
Reading A = Result A ReadFault → List Event → Type 0

-- from one moment to a later one the events of such a reading came, by what folders list and files hold
abbrev pub AddsRead : {T P F K S L A : Type 0} → Outside T P F K S L → T → T → (DiskFacts → Reading A) → Result A ReadFault → Type 0
AddsRead o before after By result = AddsSome o before after (By o.disk result)

-- nothing more is read for this
abbrev pub Gives : {A : Type 0} → A → Reading A
Gives a result events = (result ≡ Ok a) × (events ≡ [])

-- first one reading, and then the next, by what the first gave; or the first alone, where that gave a fault
pub data Then {A B : Type 0} (First : Reading A) (Next : A → Reading B) (result : Result B ReadFault) (events : List Event) : Type 0 where
  Both : (a : A) (before after : List Event) → First (Ok a) before → Next a result after → events ≡ before ++ after → Then First Next result events
  FirstAlone : (fault : ReadFault) → First (Err fault) events → result ≡ Err fault → Then First Next result events

-- a file is read: its bytes, of which something is so; or the fault, with its cause
pub data ReadsFile (path : List ℕ) (Holds : List ℕ → Type 0) (Fails : Type 0) (result : Result (List ℕ) ReadFault) (events : List Event) : Type 0 where
  FileIs : (bytes : List ℕ) → Holds bytes → result ≡ Ok bytes → events ≡ FileRead path (Ok bytes) ∷ [] → ReadsFile path Holds Fails result events
  FileIsNot : (fault : ReadFault) → (fault ≡ read.Unreadable → Fails) → result ≡ Err fault → events ≡ FileRead path (Err fault) ∷ [] → ReadsFile path Holds Fails result events

-- a text of at most 2^30 bytes
abbrev pub ReadsText : DiskFacts → List ℕ → Reading (List ℕ)
ReadsText disk path = ReadsFile path (λ bytes. disk.holds path bytes × (length bytes ≤ most_bytes)) (disk.fails (AtFile path))

-- what a text says as a manifest; or memory for that was refused
pub data ReadsLines (text : List ℕ) (result : Result Manifest ReadFault) (events : List Event) : Type 0 where
  LinesAre : (manifest : Manifest) (told : ToldManifest) → TellsManifest text told → told_by manifest ≡ Some told → Gives manifest result events → ReadsLines text result events
  NoRoomForLines : result ≡ Err read.OutOfMemory → events ≡ [] → ReadsLines text result events

-- the manifest, where one is named
abbrev pub ReadsManifest : DiskFacts → Option (List ℕ) → Reading Manifest
ReadsManifest disk None result events = Gives Unnamed result events
ReadsManifest disk (Some path) result events = Then (ReadsText disk path) ReadsLines result events

-- the files of the folder that the manifest wants, where one is named
abbrev pub ReadsWanted : DiskFacts → Option (List ℕ) → Manifest → Reading (List File)
ReadsWanted disk None manifest result events = Gives [] result events
ReadsWanted disk (Some folder) manifest result events = ReadsFolder disk folder manifest result events

-- the input, where it is wanted
pub data ReadsAllInput (input : InputFacts) (result : Result (List ℕ) ReadFault) (events : List Event) : Type 0 where
  InputIs : (bytes : List ℕ) → input.gives bytes → length bytes ≤ most_bytes → result ≡ Ok bytes → events ≡ InputRead (Ok bytes) ∷ [] → ReadsAllInput input result events
  InputIsNot : (fault : ReadFault) → (fault ≡ read.Unreadable → input.fails) → (fault ≡ read.OutOfMemory → input.takes_memory) → result ≡ Err fault → events ≡ InputRead (Err fault) ∷ [] → ReadsAllInput input result events

abbrev pub ReadsInput : InputFacts → Bool → Reading (List ℕ)
ReadsInput input false result events = Gives [] result events
ReadsInput input true result events = ReadsAllInput input result events

-- a kept file, where one is named; a record has at most 8217 bytes
abbrev pub ReadsKept : DiskFacts → Option (List ℕ) → Reading (List ℕ)
ReadsKept disk None result events = Gives [] result events
ReadsKept disk (Some path) result events = ReadsFile path (λ bytes. disk.holds path bytes × (length bytes ≤ most_kept)) (LacksKept disk path) result events

-- ---- all of it

-- the manifest, and then the tables' files
pub record Held : Type 0 where
  pub manifest : Manifest
  pub files : List File

abbrev pub ReadsHeld : DiskFacts → Named → Reading Held
ReadsHeld disk n = Then (ReadsManifest disk n.manifest) (λ manifest. Then (ReadsWanted disk n.folder manifest) (λ files. Gives (record { manifest = manifest; files = files })))

-- the input, and then the kept files
pub record TextsRead : Type 0 where
  pub input : List ℕ
  pub kept : List ℕ
  pub other_kept : List ℕ

abbrev pub ReadsTexts : DiskFacts → InputFacts → Named → Reading TextsRead
ReadsTexts disk input n = Then (ReadsInput input n.input) (λ text. Then (ReadsKept disk n.kept) (λ kept. Then (ReadsKept disk n.other_kept) (λ other. Gives (record { input = text; kept = kept; other_kept = other }))))

abbrev pub ReadsTextsOf : {T P F K S L : Type 0} → Outside T P F K S L → Named → Reading TextsRead
ReadsTextsOf o n = ReadsTexts o.disk o.input n

abbrev pub given_by : Held → TextsRead → Given
given_by held texts = record { files = held.files; told = told_by held.manifest; input = texts.input; kept = texts.kept; other_kept = texts.other_kept }

-- what a task names, each thing once, in this order: the manifest, the wanted files of the folder, the input, the kept files; nothing more is
-- read after a fault
abbrev pub ReadsGiven : {T P F K S L : Type 0} → Outside T P F K S L → Named → Reading Given
ReadsGiven o n = Then (ReadsHeld o.disk n) (λ held. Then (ReadsTexts o.disk o.input n) (λ texts. Gives (given_by held texts)))
