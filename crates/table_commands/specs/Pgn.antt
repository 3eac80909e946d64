-- `pgn --tables DIR [--manifest FILE] [--all-tables] [--memory MB] [--delay N] [--json] [--differ] [FILE]`: what tables say of the games of a PGN file (this project's own).
use Rattle.std.specs.Prelude.{◌≡◌, ◌⊎◌, ◌++◌, not, ℕ, Bool, true, false, List, [], ◌∷◌, Option, Some, None, IfSome, IsSome, Result, Ok, Err, option_map}
use Rattle.std.specs.declared.alloc.AllocError.{AllocError}
use Rattle.answer_parts.specs.Printing.{printed}
use Rattle.answer_parts.specs.Reply.{status_if}
use Rattle.command_line.specs.Commands.Pgn.{named}
use Rattle.command_line.specs.LazyFolders.{read_when_asked}
use Rattle.command_line.specs.declared.commands.pgn.JudgePgn.{JudgePgn}
use Rattle.judge_core.specs.Tables.{Tables}
use Rattle.line_events.specs.Writing.{DoesBy}
use Rattle.line_teller.specs.ToldLines.{cut_words}
use Rattle.pgn_teller.specs.Ratings.{IsFirstRuled, Ruling, RulesBy}
use Rattle.pgn_teller.specs.Reports.{ReportsPgn, Terms, begun}
use Rattle.pgn_teller.specs.declared.game_line.Form.{Form}
use Rattle.pgn_teller.specs.declared.game_line.Form.TheVariants.{Words, Json}
use Rattle.system_io.specs.Disks.{AtFile, DiskFacts}
use Rattle.system_io.specs.Inputs.{InputFacts}
use Rattle.system_io.specs.LineReaders.{LineFacts}
use Rattle.system_io.specs.declared.reading.ReadFault.{ReadFault}
use Rattle.system_io.specs.declared.reading.ReadFault.TheVariants.{OutOfMemory, Unreadable}
use Rattle.table_folder.specs.Folders.{Folder}
use Rattle.table_folder.specs.declared.fault.FileRefusal.{FileRefusal}
use Rattle.table_folder.specs.Settled.{IsInPlayBy}
use Rattle.task_files.specs.Given.{Given}
use Rattle.task_files.specs.InputReads.{ReadsGiven}
use Rattle.timeline.specs.Events.{Event, FromFile, FromInput, LineSource, LinesOpened}
use Rattle.timeline.specs.Outsides.{Outside}
use Rattle.table_commands.specs.FolderReads.{DoesByPlace, Doing, FindsKept, no_tables}

abbrev pub form_by : Bool → Form
form_by true = Json
form_by false = Words

-- how its games are reported
abbrev pub terms_by : JudgePgn → Terms
terms_by t = record { form = form_by t.json; only_differing = t.differ }

-- the file that is named
abbrev pub file_of : JudgePgn → Option (List ℕ)
file_of t = option_map (λ s. s.now) t.file

-- ---- the lines of a file, or of the input

abbrev pub source_of : Option (List ℕ) → LineSource
source_of None = FromInput
source_of (Some path) = FromFile path

-- the lines have the bytes of the file, or of the input, where these are known; they are, where they are stated, unless the input fails
abbrev pub HoldBytes : DiskFacts → InputFacts → Option (List ℕ) → Option (List ℕ) → Type 0
HoldBytes disk input None bytes = IfSome bytes input.gives × (input.is_told ≡ true → input.fails ⊎ IsSome bytes)
HoldBytes disk input (Some path) bytes = IfSome bytes (disk.holds path) × (disk.is_told ≡ true → IsSome bytes)

-- they can't be read to their end
abbrev pub LinesFail : DiskFacts → InputFacts → Option (List ℕ) → Type 0
LinesFail disk input None = input.fails
LinesFail disk input (Some path) = disk.fails (AtFile path)

-- why they can't be opened: the file can't be read; or memory for it is refused, or no descriptor is left; or memory for the input is refused
abbrev pub StayUnopened : DiskFacts → InputFacts → Option (List ℕ) → ReadFault → Type 0
StayUnopened disk input None Unreadable = ⊥
StayUnopened disk input None OutOfMemory = input.takes_memory
StayUnopened disk input (Some path) Unreadable = disk.fails (AtFile path)
StayUnopened disk input (Some path) OutOfMemory = Unit {0}

-- these lines were opened
abbrev pub AreLinesOf : DiskFacts → InputFacts → Option (List ℕ) → LineFacts → Type 0
AreLinesOf disk input file lines = HoldBytes disk input file lines.left × (lines.fails → LinesFail disk input file)

abbrev pub OpensLines : {T P F K S L : Type 0} → Outside T P F K S L → Option (List ℕ) → Result L ReadFault → List Event → Type 0
OpensLines o file (Ok lines) events = AreLinesOf o.disk o.input file (o.lines lines) × (events ≡ LinesOpened (source_of file) true ∷ [])
OpensLines o file (Err fault) events = StayUnopened o.disk o.input file fault × (events ≡ LinesOpened (source_of file) false ∷ [])

-- ---- the games of a file, or of the input

-- 0 where all games are reported and none is at fault, else 1
abbrev pub status_of : Option Bool → Option ℕ
status_of = option_map status_if

-- the lines are opened, and their games are reported; or why the lines can't be opened is printed
pub data ReportsFile {K : Type 0} (disk : DiskFacts) (input : InputFacts) (t : JudgePgn) (Rules : Ruling K) (k : K) (events : List Event) (status : Option ℕ) : Type 0 where
  IsOpened : (bytes : Option (List ℕ)) (then : List Event) (well : Option Bool) → HoldBytes disk input (file_of t) bytes → ReportsPgn Rules (terms_by t) (LinesFail disk input (file_of t)) (begun bytes k) then well → events ≡ LinesOpened (source_of (file_of t)) true ∷ then → status ≡ status_of well → ReportsFile disk input t Rules k events status
  IsUnopened : (fault : ReadFault) → StayUnopened disk input (file_of t) fault → events ≡ LinesOpened (source_of (file_of t)) false ∷ printed (cut_words fault ∷ []) → status ≡ Some 1 → ReportsFile disk input t Rules k events status

-- ---- by tables that were all read before, or by a folder whose tables are read when the positions of a game ask for them

-- A game is ruled by tables of the folder, of which those are opened that are missed at its positions in play: then none is missing there, or the
-- file of one of them is refused, or memory is.
abbrev pub RulesIn : ℕ → DiskFacts → Folder → Ruling Tables
RulesIn delay disk folder old new game ruling events = FindsKept disk folder (IsInPlayBy game.start game.moves delay) (λ tables ruled. IsFirstRuled delay tables game ruled) old new ruling events

-- what is found of a game, as another thing of it
abbrev pub found_as : {X Y : Type 0} → (X → Y) → Result (Result X FileRefusal) AllocError → Result (Result Y FileRefusal) AllocError
found_as f (Ok (Ok x)) = Ok (Ok (f x))
found_as f (Ok (Err file)) = Ok (Err file)
found_as f (Err e) = Err e

abbrev pub JudgesIn : DiskFacts → InputFacts → JudgePgn → Folder → Doing
JudgesIn disk input t folder = ReportsFile disk input t (RulesIn t.delay disk folder) no_tables

abbrev pub JudgesOf : DiskFacts → InputFacts → JudgePgn → Tables → Doing
JudgesOf disk input t tables = ReportsFile disk input t (RulesBy t.delay tables) tt

-- ---- all of it

abbrev pub JudgesBy : DiskFacts → InputFacts → JudgePgn → Given → Doing
JudgesBy disk input t given = DoesByPlace disk given (read_when_asked (not t.all_tables) (Some t.tables)) (JudgesIn disk input t) (JudgesOf disk input t)

-- what the task names is read, and then its games are judged by that; or why something can't be read is printed
abbrev pub JudgesPgn : {T P F K S L : Type 0} → Outside T P F K S L → JudgePgn → Doing
JudgesPgn o t = DoesBy (ReadsGiven o (named t)) (JudgesBy o.disk o.input t)
