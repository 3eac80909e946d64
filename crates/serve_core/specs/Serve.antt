-- `serve --tables DIR [--manifest FILE] --bind ADDR [--memory MB] [--requests N] [--games DIR [--other DIR]] [--log]`: requests of HTTP that
-- are answered by the tables of a folder and by folders of games, and what happens outside meanwhile (this project's own). What is answered
-- to a request is the contract of http_answer. Folders of games are read where a request asks for it. Sockets of HTTP are no part of what
-- happens here.
use Rattle.std.specs.Prelude.{◌≡◌, ◌++◌, ℕ, Bool, List, [], ◌∷◌, Option, Some, None, Result, Ok, Err, codes, option_map}
use Rattle.answer_parts.specs.Lines.{refusal_words}
use Rattle.answer_parts.specs.Printing.{Performs, Prints, printed}
use Rattle.answer_parts.specs.Refusals.{unread_refusal}
use Rattle.answer_parts.specs.declared.answers.refusals.Refusal.{Refusal}
use Rattle.answer_parts.specs.declared.answers.refusals.Refusal.TheVariants as refusal
use Rattle.command_line.specs.declared.commands.serve.Serve.{Serve}
use Rattle.http.specs.declared.request.Request.{Request}
use Rattle.http_answer.specs.Reads.{GamePaths, ReadsForRequest}
use Rattle.http_server.specs.Exchange.{Call}
use Rattle.http_server.specs.declared.response.Response.{Response}
use Rattle.line_teller.specs.ToldLines.{refused_memory}
use Rattle.move_msg.specs.TextLines.{ended}
use Rattle.move_msg.specs.ToldBy.{told_by}
use Rattle.move_msg.specs.declared.told.Manifest.{Manifest}
use Rattle.system_io.specs.Disks.{DiskFacts}
use Rattle.system_io.specs.declared.output.WriteFault.{WriteFault}
use Rattle.system_io.specs.declared.reading.ReadFault.{ReadFault}
use Rattle.table_commands.specs.FolderAnswers.{IsSound}
use Rattle.table_folder.specs.Folders.{Folder}
use Rattle.table_folder.specs.Reads.{OpensFolder}
use Rattle.task_files.specs.InputReads.{ReadsManifest}
use Rattle.timeline.specs.Events.{Event, Flushed, Noted, Wrote}
use Rattle.timeline.specs.Outsides.{Adds, AddsSome, Outside}
use Rattle.timeline.specs.declared.stream.Stream.TheVariants.{Output}
use Rattle.serve_core.specs.declared.refusals.Unbound.{Unbound}
use Rattle.serve_core.specs.Logging.{NotesRequest, request_line}
use Rattle.serve_core.specs.Refusals.{refusal_for}

-- ---- lines

-- the line that has an address
abbrev pub ready_line : List ℕ → List ℕ
ready_line address = ended (codes "ready " ++ address)

-- how a note begins that says why an address can't be bound, or why requests can't be awaited any more
abbrev pub unbound_front : List ℕ → List ℕ
unbound_front address = address ++ codes " can't be bound: "

abbrev pub lost_front : List ℕ
lost_front = codes "requests can't be awaited: "

-- such a line is noted, with the system's own words behind that; or memory for it was refused
pub data MayNote (front : List ℕ) (events : List Event) : Type 0 where
  IsNoted : (why : List ℕ) → events ≡ Noted (front ++ why) ∷ [] → MayNote front events
  NotNoted : events ≡ [] → MayNote front events

-- ---- before requests are answered

-- the manifest that is named, if one is
abbrev pub manifest_path : Serve → Option (List ℕ)
manifest_path t = option_map (λ s. s.now) t.manifest

-- The manifest is read, and then the folder of tables is listed; no table is read. Or the first of these that is refused: a manifest that
-- can't be read or is malformed, a folder that can't be read.
pub data OpensTables (disk : DiskFacts) (t : Serve) (result : Result Folder Refusal) (events : List Event) : Type 0 where
  AreOpen : (manifest : Manifest) (folder : Folder) (reading listing : List Event) → ReadsManifest disk (manifest_path t) (Ok manifest) reading → IsSound (told_by manifest)
      → OpensFolder disk t.tables.now manifest (Ok folder) listing → result ≡ Ok folder → events ≡ reading ++ listing → OpensTables disk t result events
  NoManifest : (fault : ReadFault) → ReadsManifest disk (manifest_path t) (Err fault) events → result ≡ Err (unread_refusal fault) → OpensTables disk t result events
  BadManifest : (manifest : Manifest) (line : ℕ) → ReadsManifest disk (manifest_path t) (Ok manifest) events → told_by manifest ≡ Some (Err line)
      → result ≡ Err (refusal.Manifest line) → OpensTables disk t result events
  NoFolder : (manifest : Manifest) (fault : ReadFault) (reading listing : List Event) → ReadsManifest disk (manifest_path t) (Ok manifest) reading → IsSound (told_by manifest)
      → OpensFolder disk t.tables.now manifest (Err fault) listing → result ≡ Err (unread_refusal fault) → events ≡ reading ++ listing → OpensTables disk t result events

-- the first of these that is refused is written, alone
pub data RefusesTables (disk : DiskFacts) (t : Serve) (events : List Event) (status : Option ℕ) : Type 0 where
  NoTables : (refused : Refusal) (opening : List Event) → OpensTables disk t (Err refused) opening → events ≡ opening ++ printed (refusal_words refused ∷ [])
      → status ≡ Some 1 → RefusesTables disk t events status

-- with an open folder, where an address is bound or isn't for this reason: that is written, or that memory was refused; or the address is
-- written and goes out, and then requests are answered
pub data Begins (why : Option Unbound) (events : List Event) (status : Option ℕ) : Type 0 where
  NotBound : (u : Unbound) → why ≡ Some u → Prints (refusal_words (refusal_for u) ∷ []) 1 events status → Begins why events status
  NoRoom : why ≡ None → Prints (refused_memory ∷ []) 1 events status → Begins why events status
  IsReady : (address : List ℕ) → why ≡ None → events ≡ Wrote Output (ready_line address) ∷ Flushed Output ∷ [] → status ≡ None → Begins why events status

-- ---- while they are

-- what is read for a request, and then its note
abbrev pub AnswersCall : {T P F K S L : Type 0} → Outside T P F K S L → Bool → Folder → Option GamePaths → Request (List ℕ) → Response → List Event → Type 0
AnswersCall o is_logged tables games request r events =
    (reading noting : List Event) × ReadsForRequest o tables games request reading × NotesRequest is_logged (request_line request r) noting × (events ≡ reading ++ noting)

-- so it is of each of these calls, one after another, and nothing else comes
abbrev pub AnswersCalls : {T P F K S L : Type 0} → Outside T P F K S L → Bool → Folder → Option GamePaths → List Call → List Event → Type 0
AnswersCalls o is_logged tables games [] events = events ≡ []
AnswersCalls o is_logged tables games (c ∷ calls) events =
    (one rest : List Event) × AnswersCall o is_logged tables games c.0 c.1 one × AnswersCalls o is_logged tables games calls rest × (events ≡ one ++ rest)

-- of some calls
abbrev pub AnswersRequests : {T P F K S L : Type 0} → Outside T P F K S L → Bool → Folder → Option GamePaths → List Event → Type 0
AnswersRequests o is_logged tables games events = (calls : List Call) × AnswersCalls o is_logged tables games calls events

-- the folders of games that the words name
abbrev pub paths_named : Serve → Option GamePaths
paths_named t = option_map (λ games. record { games = games.now; other = option_map (λ s. s.now) t.other }) t.games

-- ---- after that

-- why requests can't be awaited any more is noted, and written
abbrev pub TellsLost : Unbound → List Event → Option ℕ → Type 0
TellsLost u events status = (noting : List Event) × MayNote lost_front noting × (events ≡ noting ++ printed (refusal_words (refusal_for u) ∷ [])) × (status ≡ Some 1)

-- ---- all of it

-- With an open folder, from one moment to a later one: no request is awaited; or the address goes out, and then requests are answered, in the
-- end as many as were to be (which is no part of this), or they can't be awaited any more.
pub data ServesFolder {T P F K S L : Type 0} (o : Outside T P F K S L) (t : Serve) (folder : Folder) (why : Option Unbound) (before after : T) (r : Result ℕ WriteFault) : Type 0 where
  NotAwaited : AddsSome o before after (Performs (Begins why) r) → ServesFolder o t folder why before after r
  AllAnswered : (address : List ℕ) (ready : T) → why ≡ None → Adds o before ready (Wrote Output (ready_line address) ∷ Flushed Output ∷ [])
      → AddsSome o ready after (AnswersRequests o t.log folder (paths_named t)) → r ≡ Ok 0 → ServesFolder o t folder why before after r
  IsLost : (address : List ℕ) (ready lost : T) (u : Unbound) → why ≡ None → Adds o before ready (Wrote Output (ready_line address) ∷ Flushed Output ∷ [])
      → AddsSome o ready lost (AnswersRequests o t.log folder (paths_named t)) → AddsSome o lost after (Performs (TellsLost u) r) → ServesFolder o t folder why before after r

-- the tables are refused; or the folder is opened, and then it is served
pub data ServesIf {T P F K S L : Type 0} (o : Outside T P F K S L) (t : Serve) (why : Option Unbound) (before after : T) (r : Result ℕ WriteFault) : Type 0 where
  IsRefused : AddsSome o before after (Performs (RefusesTables o.disk t) r) → ServesIf o t why before after r
  OfFolder : (folder : Folder) (opened : T) → AddsSome o before opened (OpensTables o.disk t (Ok folder)) → ServesFolder o t folder why opened after r → ServesIf o t why before after r

-- that an address isn't bound is noted
abbrev pub NotesUnbound : List ℕ → Option Unbound → List Event → Type 0
NotesUnbound address None events = events ≡ []
NotesUnbound address (Some u) events = MayNote (unbound_front address) events

-- THE CONTRACT OF `serve`, up to the output's end: for this reason no address is bound, or one is; where none is, that may be noted, before all
-- else
pub record Serves {T P F K S L : Type 0} (o : Outside T P F K S L) (t : Serve) (before after : T) (r : Result ℕ WriteFault) : Type 0 where
  pub why : Option Unbound
  pub noted : T
  pub notes : AddsSome o before noted (NotesUnbound t.bind.now why)
  pub serves : ServesIf o t why noted after r
