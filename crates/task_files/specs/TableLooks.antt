-- What happens outside while the table files of a folder are read one by one, of which one is held at a time (this project's own).
use Rattle.std.specs.Prelude.{◌≡◌, ◌≢◌, ◌⊎◌, ◌+◌, ◌/◌, ◌++◌, ℕ, min, Bool, true, false, List, [], ◌∷◌, length, take, Result, Ok, Err, IfOk, codes}
use Rattle.std.specs.Fmt.{decimal}
use Rattle.move_msg.specs.Files.{AreFiles, File}
use Rattle.move_msg.specs.TextLines.{ended}
use Rattle.move_msg.specs.declared.told.Manifest.{Manifest}
use Rattle.system_io.specs.Disks.{DiskFacts}
use Rattle.system_io.specs.declared.reading.ReadFault.{ReadFault}
use Rattle.system_io.specs.declared.reading.ReadFault.TheVariants.{OutOfMemory}
use Rattle.task_files.specs.FileNames.{names_of}
use Rattle.task_files.specs.InputReads.{Reading, Then}
use Rattle.task_files.specs.Made.{AreMadeOf}
use Rattle.task_files.specs.Outside.{IsAtItsPath}
use Rattle.task_files.specs.TableReads.{ListsTables, ReadsTable, table_read}
use Rattle.timeline.specs.Events.{Event, Flushed, Refused, Wrote}
use Rattle.timeline.specs.declared.stream.Stream.TheVariants.{Errors}

-- ---- progress

-- how many bytes were read, with so many more; at its greatest value the count stays
abbrev pub counted : ℕ → ℕ → ℕ
counted before size = min (before + size) 18446744073709551615

-- how many hundreds of millions that is, and the words for it
abbrev pub hundreds : ℕ → ℕ
hundreds count = count / 100000000

abbrev pub progress_words : ℕ → List ℕ
progress_words count = decimal (hundreds count) ++ codes "00 MB done"

-- a line goes out on standard error; or it can't, or a front of it is written, and that changes nothing
pub data SaysProgress (line : List ℕ) (events : List Event) : Type 0 where
  Said : (last : Event) → (last ≡ Flushed Errors) ⊎ (last ≡ Refused Errors) → events ≡ Wrote Errors line ∷ last ∷ [] → SaysProgress line events
  Cut : (count : ℕ) → events ≡ Wrote Errors (take count line) ∷ Refused Errors ∷ [] → SaysProgress line events

-- after a file, where progress is wanted and another hundred million bytes are read
pub data MaySayProgress (is_wanted : Bool) (before after : ℕ) (events : List Event) : Type 0 where
  NotDue : (is_wanted ≡ false) ⊎ (hundreds before ≡ hundreds after) → events ≡ [] → MaySayProgress is_wanted before after events
  Due : is_wanted ≡ true → hundreds before ≢ hundreds after → SaysProgress (ended (progress_words after)) events → MaySayProgress is_wanted before after events

-- ---- the files

-- these files of the folder are read in turn, each with the bytes at its path, where so many bytes were read before
abbrev pub AreReadInTurn : DiskFacts → List ℕ → Bool → ℕ → List File → List Event → Type 0
AreReadInTurn disk folder progress before [] events = events ≡ []
AreReadInTurn disk folder progress before (f ∷ files) events =
    (line rest : List Event) × IsAtItsPath disk folder f × MaySayProgress progress before (counted before (length f.bytes)) line
    × AreReadInTurn disk folder progress (counted before (length f.bytes)) files rest × (events ≡ table_read folder f ∷ line ++ rest)

-- the files of these names are read in turn; or those before one that isn't; or some, since memory was refused for what is kept of them
pub data ReadsInTurn (disk : DiskFacts) (folder : List ℕ) (progress : Bool) (names : List (List ℕ)) (result : Result (List File) ReadFault) (events : List Event) : Type 0 where
  AllInTurn : (files : List File) → names_of files ≡ names → AreReadInTurn disk folder progress 0 files events → result ≡ Ok files → ReadsInTurn disk folder progress names result events
  OneUnread : (before : List File) (name : List ℕ) (after : List (List ℕ)) (first last : List Event) (fault : ReadFault) → names ≡ names_of before ++ name ∷ after → AreReadInTurn disk folder progress 0 before first → ReadsTable disk folder name (Err fault) last → events ≡ first ++ last → result ≡ Err fault → ReadsInTurn disk folder progress names result events
  NoRoomForOne : (before : List File) (after : List (List ℕ)) → names ≡ names_of before ++ after → AreReadInTurn disk folder progress 0 before events → result ≡ Err OutOfMemory → ReadsInTurn disk folder progress names result events

-- the folder is listed, and then its wanted files are read in turn
abbrev pub LooksInFolder : DiskFacts → List ℕ → Manifest → Bool → Reading (List File)
LooksInFolder disk folder manifest progress = Then (ListsTables disk folder manifest) (ReadsInTurn disk folder progress)

-- what is kept of each is made of it; or there is the same fault
abbrev pub AreKeptOf : {L : Type 0} → (L → File → Type 0) → Result (List L) ReadFault → Result (List File) ReadFault → Type 0
AreKeptOf IsMadeOf (Ok looks) (Ok files) = AreMadeOf IsMadeOf looks files
AreKeptOf IsMadeOf (Ok looks) (Err fault) = ⊥
AreKeptOf IsMadeOf (Err fault) (Ok files) = ⊥
AreKeptOf IsMadeOf (Err fault) (Err same) = fault ≡ same

-- the wanted files of a folder are read, each once, and of each this is kept; their names rise, and are those of tables' files
pub record LooksAt {L : Type 0} (IsMadeOf : L → File → Type 0) (Reads : Reading (List File)) (kept : Result (List L) ReadFault) (events : List Event) : Type 0 where
  pub files : Result (List File) ReadFault
  pub made : AreKeptOf IsMadeOf kept files
  pub order : IfOk files AreFiles
  pub reads : Reads files events

-- so it is of the files of a folder that a manifest wants
abbrev pub LooksThere : {L : Type 0} → (L → File → Type 0) → List ℕ → Manifest → Bool → DiskFacts → Reading (List L)
LooksThere IsMadeOf folder manifest progress disk = LooksAt IsMadeOf (LooksInFolder disk folder manifest progress)
