-- What happens outside while an answer is made by tables that are read when positions ask for them (this project's own).
use Rattle.std.specs.Prelude.{◌≡◌, ◌⊎◌, ◌++◌, ℕ, false, List, [], ◌∷◌, Option, Some, None, Result, Ok, Err, replicate}
use Rattle.std.specs.Borrow.{Bor}
use Rattle.std.specs.declared.alloc.AllocError.{AllocError}
use Rattle.board_core.specs.Position.{IsPosition}
use Rattle.board_core.specs.declared.parts.Parts.{Parts}
use Rattle.fen_text.specs.Fen.{IsFirstFenFault, SpellsPosition}
use Rattle.fen_text.specs.declared.fault.FenFault.{FenFault}
use Rattle.judge_core.specs.Tables.{Tables}
use Rattle.line_events.specs.LineEvents.{Answering}
use Rattle.line_events.specs.Writing.{while_reading}
use Rattle.line_teller.specs.ToldLines.{LineTold, refused_memory}
use Rattle.move_msg.specs.ToldBy.{told_by}
use Rattle.move_msg.specs.ToldManifests.{ToldManifest}
use Rattle.move_msg.specs.declared.told.Manifest.{Manifest}
use Rattle.system_io.specs.Disks.{DiskFacts}
use Rattle.system_io.specs.declared.reading.ReadFault.{ReadFault}
use Rattle.system_io.specs.declared.reading.ReadFault.TheVariants as read
use Rattle.table_folder.specs.Folders.{AreOf, Folder, FolderOn}
use Rattle.table_folder.specs.Reads.{OpensFolder, OpensTables, PassesSome}
use Rattle.table_folder.specs.Settled.{AddsOnlyMissed, AreSettled, IsRefusedFor}
use Rattle.table_folder.specs.declared.fault.FileRefusal.{FileRefusal}
use Rattle.task_files.specs.Given.{Given}
use Rattle.task_files.specs.InputReads.{Reading}
use Rattle.timeline.specs.Events.{Event}
use Rattle.timeline.specs.Outsides.{AddsSome, Outside}
use Rattle.answer_parts.specs.Asked.{reply_of}
use Rattle.answer_parts.specs.Lines.{refusal_words, refused_fen}
use Rattle.answer_parts.specs.Looks.{gathered}
use Rattle.answer_parts.specs.Printing.{Performs, Prints, printed}
use Rattle.answer_parts.specs.Reply.{ByTables, Reply, refusal_reply}
use Rattle.answer_parts.specs.declared.answers.Answer.{Answer}
use Rattle.answer_parts.specs.declared.answers.refusals.Refusal.{Refusal}
use Rattle.answer_parts.specs.declared.answers.refusals.Refusal.TheVariants as refusal
use Rattle.table_commands.specs.FolderAnswers.{IsSound, TablesOn}
use Rattle.system_io.specs.Inputs.{InputFacts}
use Rattle.system_io.specs.declared.output.WriteFault.{WriteFault}

-- ---- a folder

-- a folder is opened. With a malformed line of its manifest it isn't listed; else it is, once.
pub data OpensAt (disk : DiskFacts) (path : List ℕ) (manifest : Manifest) (found : Result (Result Folder Refusal) AllocError) (events : List Event) : Type 0 where
  BadLineIs : (line : ℕ) → told_by manifest ≡ Some (Err line) → found ≡ Ok (Err (refusal.Manifest line)) → events ≡ [] → OpensAt disk path manifest found events
  FolderIs : IsSound (told_by manifest) → (folder : Folder) → OpensFolder disk path manifest (Ok folder) events → found ≡ Ok (Ok folder) → OpensAt disk path manifest found events
  NoFolderIs : IsSound (told_by manifest) → OpensFolder disk path manifest (Err read.Unreadable) events → found ≡ Ok (Err refusal.Files) → OpensAt disk path manifest found events
  NoRoomForFolder : IsSound (told_by manifest) → OpensFolder disk path manifest (Err read.OutOfMemory) events → (e : AllocError) → found ≡ Err e → OpensAt disk path manifest found events

-- no table is open
abbrev pub no_tables : Tables
no_tables = replicate 290 None

-- of a folder, where these tables are open, those are opened that the needed positions miss, by these events
pub record OpensMissed (disk : DiskFacts) (folder : Folder) (IsNeeded : Tables → Parts → Type 0) (old new : Tables) (refused : Result (Option FileRefusal) AllocError) (events : List Event) : Type 0 where
  pub only : AddsOnlyMissed disk folder IsNeeded old new
  pub reads : OpensTables disk folder old new refused events

-- What is found by the tables that are open and those that are opened for it. None is then missing at the needed positions; or the file of a
-- needed one is refused, or memory is.
pub data FindsBy {X : Type 0} (disk : DiskFacts) (folder : Folder) (IsNeeded : Tables → Parts → Type 0) (Is : Tables → X → Type 0) (old new : Tables) (found : Result (Result X FileRefusal) AllocError) (events : List Event) : Type 0 where
  ByThese : OpensMissed disk folder IsNeeded old new (Ok None) events → AreOf disk folder new → AreSettled folder new IsNeeded → (x : X) → Is new x → found ≡ Ok (Ok x) → FindsBy disk folder IsNeeded Is old new found events
  ForTheFile : (file : FileRefusal) → OpensMissed disk folder IsNeeded old new (Ok (Some file)) events → IsRefusedFor disk folder IsNeeded file → found ≡ Ok (Err file) → FindsBy disk folder IsNeeded Is old new found events
  ForNoRoom : (e : AllocError) → OpensMissed disk folder IsNeeded old new (Err e) events → found ≡ Err e → FindsBy disk folder IsNeeded Is old new found events

-- So it is found by tables that stay open; or, where memory for these is refused, by tables that are opened for it alone.
pub data FindsKept {X : Type 0} (disk : DiskFacts) (folder : Folder) (IsNeeded : Tables → Parts → Type 0) (Is : Tables → X → Type 0) (old new : Tables) (found : Result (Result X FileRefusal) AllocError) (events : List Event) : Type 0 where
  Kept : (r : Result X FileRefusal) → FindsBy disk folder IsNeeded Is old new (Ok r) events → found ≡ Ok r → FindsKept disk folder IsNeeded Is old new found events
  Apart : (e : AllocError) (alone : Tables) (first second : List Event) → FindsBy disk folder IsNeeded Is old new (Err e) first → FindsBy disk folder IsNeeded Is no_tables alone found second → events ≡ first ++ second → FindsKept disk folder IsNeeded Is old new found events

-- So it is found by a folder whose files are somewhere, from one moment of a log to a later one.
abbrev pub FindsFrom : {D L X : Type 0} → (D → DiskFacts) → (D → L → Option (List Event)) → FolderOn D → L → L → (Tables → Parts → Type 0) → (Tables → X → Type 0) → Tables → Tables → Result (Result X FileRefusal) AllocError → Type 0
FindsFrom facts events on begin end IsNeeded Is old new found = PassesSome (events on.disk begin) (events on.disk end) (FindsBy (facts on.disk) on.folder IsNeeded Is old new found)

-- So it is found by an open folder over an outside, from one moment to a later one.
abbrev pub FindsOpen : {T P F K S L D X : Type 0} → Outside T P F K S L → TablesOn D → TablesOn D → T → T → (Tables → Parts → Type 0) → (Tables → X → Type 0) → Result (Result X FileRefusal) AllocError → Type 0
FindsOpen o old new begin end IsNeeded Is found = AddsSome o begin end (FindsKept o.disk old.on.folder IsNeeded Is old.tables new.tables found)

-- what is found, with the refusal of a file as one of all
abbrev pub found_by : {X : Type 0} → Result (Result X FileRefusal) AllocError → Result (Result X Refusal) AllocError
found_by (Ok (Ok x)) = Ok (Ok x)
found_by (Ok (Err file)) = Ok (Err (refusal.File file.name file.fault))
found_by (Err e) = Err e

-- a folder is opened to be asked; memory may be refused also behind it
pub data OpensToAsk (disk : DiskFacts) (path : List ℕ) (manifest : Manifest) (found : Result (Result Folder Refusal) AllocError) (events : List Event) : Type 0 where
  IsAsOpened : OpensAt disk path manifest found events → OpensToAsk disk path manifest found events
  NoRoomBehind : (folder : Folder) → OpensAt disk path manifest (Ok (Ok folder)) events → (e : AllocError) → found ≡ Err e → OpensToAsk disk path manifest found events

-- What is found by the folder at a path, by what happens outside: the folder is opened, and then it is found by its tables, of which none was open.
pub data FindsIn {X : Type 0} (disk : DiskFacts) (path : List ℕ) (manifest : Manifest) (IsNeeded : Tables → Parts → Type 0) (Is : Tables → X → Type 0) (found : Result (Result X Refusal) AllocError) (events : List Event) : Type 0 where
  NotOpened : (refused : Refusal) → OpensToAsk disk path manifest (Ok (Err refused)) events → found ≡ Ok (Err refused) → FindsIn disk path manifest IsNeeded Is found events
  NoRoomToOpen : (e : AllocError) → OpensToAsk disk path manifest (Err e) events → found ≡ Err e → FindsIn disk path manifest IsNeeded Is found events
  InFolderOf : (folder : Folder) (tables : Tables) (r : Result (Result X FileRefusal) AllocError) (listing reading : List Event) → OpensToAsk disk path manifest (Ok (Ok folder)) listing → FindsBy disk folder IsNeeded Is no_tables tables r reading → found ≡ found_by r → events ≡ listing ++ reading → FindsIn disk path manifest IsNeeded Is found events

-- ---- replies

-- the reply that an answer is, or that memory was refused for it
abbrev pub made_reply : {E : Type 0} → Result Answer E → Result Reply ReadFault
made_reply (Ok answer) = Ok (reply_of answer)
made_reply (Err e) = Err read.OutOfMemory

-- the reply of what was found, with the words of each refusal; memory may be refused for it too
abbrev pub IsReplyOf : (Refusal → List ℕ) → Result (Result Reply Refusal) AllocError → Result Reply ReadFault → Type 0
IsReplyOf words (Ok (Ok reply)) result = (result ≡ Ok reply) ⊎ (result ≡ Err read.OutOfMemory)
IsReplyOf words (Ok (Err refused)) result = (result ≡ Ok (refusal_reply (words refused))) ⊎ (result ≡ Err read.OutOfMemory)
IsReplyOf words (Err e) result = result ≡ Err read.OutOfMemory

-- a reply by the folder at a path, with this manifest
abbrev pub MakesInFolder : DiskFacts → List ℕ → Option ToldManifest → (Refusal → List ℕ) → (Tables → Parts → Type 0) → (Tables → Reply → Type 0) → Reading Reply
MakesInFolder disk path told words IsNeeded Is result events =
    (manifest : Manifest) × (told_by manifest ≡ told) × ((found : Result (Result Reply Refusal) AllocError) × FindsIn disk path manifest IsNeeded Is found events × IsReplyOf words found result)

-- a reply is made where files are somewhere, from one moment of a log to a later one
abbrev pub MakesFrom : {D L E : Type 0} → (D → DiskFacts) → (D → L → Option (List Event)) → D → L → L → (DiskFacts → Reading Reply) → Result Answer E → Type 0
MakesFrom facts events d begin end Makes made = PassesSome (events d begin) (events d end) (Makes (facts d) (made_reply made))

-- a reply by tables that were given, for which nothing more is read
abbrev pub MakesOfGiven : Result Tables (List ℕ) → (Tables → Parts → Reply → Type 0) → Parts → Reading Reply
MakesOfGiven tables IsAnswer p result events = (events ≡ []) × ((result ≡ Err read.OutOfMemory) ⊎ ((reply : Reply) × (result ≡ Ok reply) × ByTables tables IsAnswer p reply))

-- a reply to the position that a text spells; or the refusal of the text, for which nothing more is read, and no memory is taken
pub data MakesForText (text : List ℕ) (refused : FenFault → Reply) (Makes : Parts → Reading Reply) (result : Result Reply ReadFault) (events : List Event) : Type 0 where
  TextIs : (p : Parts) → SpellsPosition text p → IsPosition p → Makes p result events → MakesForText text refused Makes result events
  TextIsNone : (fault : FenFault) → IsFirstFenFault text fault → result ≡ Ok (refused fault) → events ≡ [] → MakesForText text refused Makes result events

-- the refusal of a text that is no position, in a line
abbrev pub fen_refusal : FenFault → Reply
fen_refusal fault = refusal_reply (refused_fen fault)

-- ---- the lines of an input

-- what a command does: all its events with its status, or the first of them with none
abbrev pub Doing : Type 1
Doing = List Event → Option ℕ → Type 0

-- it is done over an outside, from one moment to a later one; where the output failed, a front of it
abbrev pub DoesOver : {T P F K S L : Type 0} → Outside T P F K S L → T → T → (DiskFacts → InputFacts → Doing) → Result ℕ WriteFault → Type 0
DoesOver o begin end Does result = AddsSome o begin end (Performs (Does o.disk o.input) result)

-- the folder at a path is opened, and then this is done by it; or its refusal is written, or that memory was refused
pub data DoesWith (disk : DiskFacts) (path : List ℕ) (manifest : Manifest) (Does : Folder → Doing) (events : List Event) (status : Option ℕ) : Type 0 where
  WithFolder : (folder : Folder) (listing then : List Event) → OpensToAsk disk path manifest (Ok (Ok folder)) listing → Does folder then status → events ≡ listing ++ then → DoesWith disk path manifest Does events status
  FolderRefused : (refused : Refusal) (listing : List Event) → OpensToAsk disk path manifest (Ok (Err refused)) listing → events ≡ listing ++ printed (refusal_words refused ∷ []) → status ≡ Some 1 → DoesWith disk path manifest Does events status
  NoRoomForIt : (e : AllocError) (listing : List Event) → OpensToAsk disk path manifest (Err e) listing → events ≡ listing ++ printed (refused_memory ∷ []) → status ≡ Some 1 → DoesWith disk path manifest Does events status

abbrev pub DoesInFolder : DiskFacts → List ℕ → Option ToldManifest → (Folder → Doing) → Doing
DoesInFolder disk path told Does events status = (manifest : Manifest) × (told_by manifest ≡ told) × DoesWith disk path manifest Does events status

-- this is done by tables that were given; or their refusal is written, or that memory was refused
pub data DoesOfGiven (given : Result Tables (List ℕ)) (Does : Tables → Doing) (events : List Event) (status : Option ℕ) : Type 0 where
  WithTables : (tables : Tables) → given ≡ Ok tables → Does tables events status → DoesOfGiven given Does events status
  TablesRefused : (words : List ℕ) → given ≡ Err words → Prints (words ∷ []) 1 events status → DoesOfGiven given Does events status
  NoRoomForTables : Prints (refused_memory ∷ []) 1 events status → DoesOfGiven given Does events status

-- by the folder at a path whose tables are read when they are asked for, or by those that were given
abbrev pub DoesByPlace : DiskFacts → Given → Option (Bor (List ℕ)) → (Folder → Doing) → (Tables → Doing) → Doing
DoesByPlace disk given (Some path) InFolder OfTables = DoesInFolder disk path.now given.told InFolder
DoesByPlace disk given None InFolder OfTables = DoesOfGiven (gathered given) OfTables

-- What is told of a line by tables of a folder that are open, with what is read for it: the same by whatever tables; or by what is found of what
-- the line spells; or the file of a needed table is refused.
pub data AnswersByFolder {X : Type 0} (disk : DiskFacts) (folder : Folder) (Spells : List ℕ → X → Type 0) (IsNeeded : X → Tables → Parts → Type 0) (Tells : Tables → List ℕ → LineTold → Type 0) (refused : FileRefusal → List ℕ) (old new : Tables) (text : List ℕ) (line : LineTold) (reading : List Event) : Type 0 where
  ByNoTable : ((tables : Tables) → Tells tables text line) → new ≡ old → reading ≡ [] → AnswersByFolder disk folder Spells IsNeeded Tells refused old new text line reading
  ByItsTables : (x : X) → Spells text x → FindsKept disk folder (IsNeeded x) (λ tables l. Tells tables text l) old new (Ok (Ok line)) reading → AnswersByFolder disk folder Spells IsNeeded Tells refused old new text line reading
  ForBadFile : (x : X) → Spells text x → (file : FileRefusal) → FindsKept disk folder (IsNeeded x) (λ tables l. Tells tables text l) old new (Ok (Err file)) reading → line ≡ record { words = refused file; done = false } → AnswersByFolder disk folder Spells IsNeeded Tells refused old new text line reading

-- memory is refused to the answer, before anything is read for it or behind that
abbrev pub LacksRoomFor : {X : Type 0} → DiskFacts → Folder → (List ℕ → X → Type 0) → (X → Tables → Parts → Type 0) → (List ℕ → Type 0) → Tables → List ℕ → List Event → Type 0
LacksRoomFor {X} disk folder Spells IsNeeded Takes old text reading =
    Takes text × ((reading ≡ []) ⊎ ((x : X) × Spells text x × (new : Tables) × (found : Result (Result (Unit {0}) FileRefusal) AllocError) × FindsKept disk folder (IsNeeded x) (λ _ _. Unit {0}) old new found reading))

-- so lines are answered by tables of a folder, of which those are known that are open
abbrev pub by_folder_lines : {X : Type 0} → DiskFacts → Folder → (List ℕ → X → Type 0) → (X → Tables → Parts → Type 0) → (Tables → List ℕ → LineTold → Type 0) → (FileRefusal → List ℕ) → (List ℕ → Type 0) → Answering Tables
by_folder_lines disk folder Spells IsNeeded Tells refused Takes = while_reading (AnswersByFolder disk folder Spells IsNeeded Tells refused) (LacksRoomFor disk folder Spells IsNeeded Takes)
