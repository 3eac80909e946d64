-- What is done before a datagram is awaited.
use Rattle.std.proofs.Common.{◌≡◌, ◌++◌, ◌∷◌, [], ℕ, Bool, true, false, List, Option, Some, None, map, refl, subst, sym}
use Rattle.std.specs.Prelude.{Result, Ok, Err, take}
use Rattle.answer_parts.specs.Printing.{AtFlush, AtWrite, IsCutIn, printed}
use Rattle.move_msg.specs.Files.{File}
use Rattle.move_msg.specs.declared.told.Manifest.{Manifest}
use Rattle.move_msg.specs.declared.told.Manifest.TheVariants.{Unnamed}
use Rattle.command_line.specs.declared.commands.host.HostGames.{HostGames}
use Rattle.command_line.specs.declared.words.numbers.StoreForm.{StoreForm}
use Rattle.command_line.specs.declared.words.numbers.StoreForm.TheVariants as form
use Rattle.host_commands.specs.Binds.{BindsPort, IsBound, NoRoomForAddresses, NoRoomToBind, Unbound}
use Rattle.game_status.specs.StoreReadings.{store_path}
use Rattle.host_commands.specs.Hosts.{KeepsInStore, NotesAndKeeps, OpensGames, OpensStoreIf, StartsHost}
use Rattle.host_commands.specs.Imports.{AllImported, AllPut, AllSeen, FailsToLook, FileUnread, FolderIsNot, ImportsRecords, InFile, InNeither, InStore, Kept, LeftNotNoted, LeftNoted, ListsAndLooks, Look, LooksAndPuts, LooksAtAll, NoRoomFor, NoRoomForFile, NoRoomForStamps, NoRoomForStore, NoRoomToRead, NoneComes, NonePut, NotPut, NotesAllLeft, NotesLeft, OneFails, OneUnseen, OpensStore, PutsComing, StoreIs, StoreIsNot, all_look_events, file_events, look_events}
use Rattle.host_commands.specs.Listings.{IsBarred, IsListed, IsNotListed, ListsGames}
use Rattle.host_commands.specs.Locks.{InUse, IsLocked, LocksFile, NoLock, NoRoomForPath, NoRoomToLock, games_lock}
use Rattle.host_commands.specs.Notes.{IsNoted, MayNote, NotNoted, ThenMayNote}
use Rattle.host_commands.specs.Outliving.{ReceivesNothing, is_receive}
use Rattle.host_commands.specs.Ready.{IsReadyLine, LineIs, NoAddress, NoRoomForLine}
use Rattle.host_commands.specs.Steps.{AndThen, BothDone, FirstIsRefused, AllOpen, Step}
use Rattle.host_commands.specs.Tables.{GathersTables, MakesManifest, ManifestIs, NoRoomForManifest, NoRoomForTables, ReadsNamed, TablesAre, TablesAreNot}
use Rattle.arbiter_server.specs.GameFolders.{kept_path}
use Rattle.system_io.specs.Disks.{DiskFacts}
use Rattle.system_io.specs.Inputs.{InputFacts}
use Rattle.system_io.specs.declared.reading.ReadFault.{ReadFault}
use Rattle.system_io.specs.declared.record_store.Entry.{Entry}
use Rattle.std.specs.declared.net.socket_addr.SocketAddr.{SocketAddr}
use Rattle.task_files.specs.Given.{Given}
use Rattle.task_files.specs.InputReads.{Both, FileIs, FileIsNot, FirstAlone, Gives, InputIs, InputIsNot, LinesAre, NoRoomForLines, Reading, ReadsAllInput, ReadsFile, ReadsHeld, ReadsInput, ReadsKept, ReadsLines, ReadsManifest, ReadsText, ReadsTexts, ReadsWanted, Then, given_by}
use Rattle.task_files.specs.Sources.{Named}
use Rattle.task_files.specs.TableReads as tables
use Rattle.timeline.specs.Events.{Event, Refused, Wrote}
use Rattle.timeline.specs.Outsides.{Outside}
use Rattle.timeline.specs.declared.stream.Stream.TheVariants.{Output}

-- ---- events in a row

pub both_quiet : (x y : List Event) → ReceivesNothing x → ReceivesNothing y → ReceivesNothing (x ++ y)
both_quiet [] y p q = q
both_quiet (e ∷ x) y p q = (p.0, both_quiet x y p.1 q)

front_quiet : (x y : List Event) → ReceivesNothing (x ++ y) → ReceivesNothing x
front_quiet [] y p = tt
front_quiet (e ∷ x) y p = (p.0, front_quiet x y p.1)

none_quiet : (events : List Event) → events ≡ [] → ReceivesNothing events
none_quiet events is = subst ReceivesNothing (sym is) tt

one_quiet : (e : Event) (events : List Event) → events ≡ e ∷ [] → is_receive e ≡ false → ReceivesNothing events
one_quiet e events is quiet = subst ReceivesNothing (sym is) (quiet, tt)

then_quiet : (x y events : List Event) → ReceivesNothing x → ReceivesNothing y → events ≡ x ++ y → ReceivesNothing events
then_quiet x y events p q is = subst ReceivesNothing (sym is) (both_quiet x y p q)

-- ---- what is written

pub printed_quiet : (lines : List (List ℕ)) → ReceivesNothing (printed lines)
printed_quiet [] = tt
printed_quiet (line ∷ lines) = (refl, printed_quiet lines)

-- a front of events
pub cut_quiet : (all events : List Event) → ReceivesNothing all → IsCutIn all events → ReceivesNothing events
cut_quiet all events quiet (AtWrite before bytes after wanted count written) =
    then_quiet before (Wrote Output (take count bytes) ∷ Refused Output ∷ []) events (front_quiet before _ (subst ReceivesNothing wanted quiet)) (refl, (refl, tt)) written
cut_quiet all events quiet (AtFlush before after wanted left) = then_quiet before (Refused Output ∷ []) events (front_quiet before _ (subst ReceivesNothing wanted quiet)) (refl, tt) left

pub note_quiet : (line : List ℕ) (events : List Event) → MayNote line events → ReceivesNothing events
note_quiet line events (IsNoted is) = one_quiet _ events is refl
note_quiet line events (NotNoted none) = none_quiet events none

noting_quiet : (first : Event) (line : List ℕ) (events : List Event) → ThenMayNote first line events → is_receive first ≡ false → ReceivesNothing events
noting_quiet first line events n quiet = subst ReceivesNothing (sym n.all) (quiet, note_quiet line n.noting n.notes)

-- ---- steps

-- a step that receives nothing, whatever it gives
abbrev pub IsQuietStep : {A : Type 0} → Step A → Type 0
IsQuietStep {A} First = (r : Result A (List ℕ)) (events : List Event) → First r events → ReceivesNothing events

given_quiet : {A : Type 0} (x : A) → IsQuietStep (AllOpen x)
given_quiet x r events p = none_quiet events p.1

steps_quiet : {A B : Type 0} (First : Step A) (Next : A → Step B) → IsQuietStep First → ((a : A) → IsQuietStep (Next a)) → IsQuietStep (AndThen First Next)
steps_quiet First Next p q r events (BothDone a first rest does next is) = then_quiet first rest events (p (Ok a) first does) (q a r rest next) is
steps_quiet First Next p q r events (FirstIsRefused words does told) = p (Err words) events does

gathering_quiet : (given : Given) (cache : ℕ) → IsQuietStep (GathersTables given cache)
gathering_quiet given cache r events (TablesAre set are kept told none) = none_quiet events none
gathering_quiet given cache r events (TablesAreNot words are told none) = none_quiet events none
gathering_quiet given cache r events (NoRoomForTables told none) = none_quiet events none

making_quiet : (given : Given) → IsQuietStep (MakesManifest given)
making_quiet given r events (ManifestIs manifest spells told none) = none_quiet events none
making_quiet given r events (NoRoomForManifest told none) = none_quiet events none

line_quiet : (own : Option SocketAddr) → IsQuietStep (IsReadyLine own)
line_quiet own r events (LineIs at is told none) = none_quiet events none
line_quiet own r events (NoAddress is told none) = none_quiet events none
line_quiet own r events (NoRoomForLine told none) = none_quiet events none

module _ {T P F K S L : Type 0} (o : Outside T P F K S L) where
  bind_quiet : (address to : List ℕ) → IsQuietStep (BindsPort o address to)
  bind_quiet address to r events (IsBound port at told is) = one_quiet _ events is refl
  bind_quiet address to r events (Unbound why told notes) = noting_quiet _ _ events notes refl
  bind_quiet address to r events (NoRoomToBind why told is) = one_quiet _ events is refl
  bind_quiet address to r events (NoRoomForAddresses many told none) = none_quiet events none

  lock_quiet : (path : List ℕ) → IsQuietStep (LocksFile o path)
  lock_quiet path r events (IsLocked held gives at told is) = one_quiet _ events is refl
  lock_quiet path r events (InUse bars told notes) = noting_quiet _ _ events notes refl
  lock_quiet path r events (NoLock bars told is) = one_quiet _ events is refl
  lock_quiet path r events (NoRoomToLock bars told is) = one_quiet _ events is refl
  lock_quiet path r events (NoRoomForPath told none) = none_quiet events none

  listing_quiet : (folder : List ℕ) (form : StoreForm) → IsQuietStep (ListsGames o.disk folder form)
  listing_quiet folder form r events (IsListed names has clear told) = one_quiet _ events has.is refl
  listing_quiet folder form r events (IsBarred what bars told) = noting_quiet _ _ events bars.notes refl
  listing_quiet folder form r events (IsNotListed fault lacks told) = one_quiet _ events lacks.is refl

  -- ---- the store

  store_quiet : (path : List ℕ) → IsQuietStep (OpensStore o path)
  store_quiet path r events (StoreIs store at told is) = one_quiet _ events is refl
  store_quiet path r events (StoreIsNot why refuses told is) = one_quiet _ events is refl
  store_quiet path r events (NoRoomForStore told none) = none_quiet events none

  file_look_quiet : (path : List ℕ) (kept : Kept) → ReceivesNothing (file_events path kept)
  file_look_quiet path (InStore bytes) = tt
  file_look_quiet path (InFile e) = (refl, tt)
  file_look_quiet path (InNeither bytes) = (refl, tt)

  looks_quiet : (store folder : List ℕ) (looks : List Look) → ReceivesNothing (all_look_events store folder looks)
  looks_quiet store folder [] = tt
  looks_quiet store folder (look ∷ looks) = both_quiet (look_events store folder look) (all_look_events store folder looks) (refl, file_look_quiet _ look.kept) (looks_quiet store folder looks)

  failing_quiet : (folder : List ℕ) (store : S) (stamp words : List ℕ) (events : List Event) → FailsToLook o folder store stamp words events → ReceivesNothing events
  failing_quiet folder store stamp words events (FileUnread why cause told is) = subst ReceivesNothing (sym is) (refl, (refl, tt))
  failing_quiet folder store stamp words events (NoRoomToRead bytes told is) = subst ReceivesNothing (sym is) (refl, (refl, tt))
  failing_quiet folder store stamp words events (NoRoomForFile told is) = one_quiet _ events is refl

  looking_quiet : (folder : List ℕ) (store : S) (stamps : List (List ℕ)) → IsQuietStep (LooksAtAll o folder store stamps)
  looking_quiet folder store stamps r events (AllSeen looks are of told is) = subst ReceivesNothing (sym is) (looks_quiet _ folder looks)
  looking_quiet folder store stamps r events (OneFails looks words are one told) = then_quiet _ one.last events (looks_quiet _ folder looks) (failing_quiet folder store one.stamp words one.last one.fails) one.all
  looking_quiet folder store stamps r events (NoRoomFor looks are of told is) = subst ReceivesNothing (sym is) (looks_quiet _ folder looks)

  putting_quiet : (old : S) (entries : List Entry) → IsQuietStep (PutsComing o old entries)
  putting_quiet old entries r events (NoneComes empty told none) = none_quiet events none
  putting_quiet old entries r events (AllPut new has told is) = one_quiet _ events is refl
  putting_quiet old entries r events (NonePut words why told is) = one_quiet _ events is refl

  looks_first_quiet : (folder : List ℕ) (old : S) (seen : Result (List Look) (List ℕ)) (events : List Event) → ListsAndLooks o folder old seen events → ReceivesNothing events
  looks_first_quiet folder old seen events l = subst ReceivesNothing (sym l.all) (refl, looking_quiet folder old l.stamps seen l.looking l.looks)

  looks_and_puts_quiet : (folder : List ℕ) (old : S) (seen : List Look) (put : Result S (List ℕ)) (events : List Event) → LooksAndPuts o folder old seen put events → ReceivesNothing events
  looks_and_puts_quiet folder old seen put events l = then_quiet l.before l.putting events (looks_first_quiet folder old (Ok seen) l.before l.looks) (putting_quiet old _ put l.putting l.puts) l.all

  importing_quiet : (folder : List ℕ) (old : S) → IsQuietStep (ImportsRecords o folder old)
  importing_quiet folder old r events (FolderIsNot fault lacks told) = one_quiet _ events lacks.is refl
  importing_quiet folder old r events (NoRoomForStamps names has told) = one_quiet _ events has.is refl
  importing_quiet folder old r events (OneUnseen words l told) = looks_first_quiet folder old (Err words) events l
  importing_quiet folder old r events (NotPut seen words l told) = looks_and_puts_quiet folder old seen (Err words) events l
  importing_quiet folder old r events (AllImported seen new l told) = looks_and_puts_quiet folder old seen (Ok new) events l

  left_quiet : (path : List ℕ) (events : List Event) → NotesLeft path events → ReceivesNothing events
  left_quiet path events (LeftNoted line of is) = one_quiet _ events is refl
  left_quiet path events (LeftNotNoted none) = none_quiet events none

  all_left_quiet : (folder : List ℕ) (stamps : List (List ℕ)) (events : List Event) → NotesAllLeft folder stamps events → ReceivesNothing events
  unfolding NotesAllLeft
  all_left_quiet folder [] events none = none_quiet events none
  all_left_quiet folder (stamp ∷ stamps) events p = then_quiet p.0 p.1 events (left_quiet (kept_path folder stamp) p.0 p.2) (all_left_quiet folder stamps p.1 p.3) p.4

  keeping_quiet : (folder : List ℕ) (store : S) → IsQuietStep (KeepsInStore o folder store)
  keeping_quiet folder store = steps_quiet (ImportsRecords o folder store) (NotesAndKeeps o folder) (importing_quiet folder store) (λ now r events p. all_left_quiet folder now.left events p.1)

  opening_quiet : (folder : List ℕ) → IsQuietStep (OpensGames o folder)
  opening_quiet folder = steps_quiet (OpensStore o (store_path folder)) (KeepsInStore o folder) (store_quiet (store_path folder)) (keeping_quiet folder)

  kept_open_quiet : (folder : List ℕ) (where_kept : StoreForm) → IsQuietStep (OpensStoreIf o folder where_kept)
  kept_open_quiet folder form.Files = given_quiet None
  kept_open_quiet folder form.Sqlite = steps_quiet (OpensGames o folder) (λ games. AllOpen (Some games)) (opening_quiet folder) (λ games. given_quiet (Some games))

  pub start_quiet : (h : HostGames) (given : Given) → IsQuietStep (StartsHost o h given)
  start_quiet h given =
      steps_quiet (GathersTables given h.cache) _ (gathering_quiet given h.cache)
      (λ set. steps_quiet (ListsGames o.disk h.games.now h.store) _ (listing_quiet h.games.now h.store)
      (λ listed. steps_quiet (MakesManifest given) _ (making_quiet given)
      (λ manifest. steps_quiet (BindsPort o h.bind.now h.to.now) _ (bind_quiet h.bind.now h.to.now)
      (λ port. steps_quiet (IsReadyLine (o.port port).own) _ (line_quiet (o.port port).own)
      (λ line. steps_quiet (LocksFile o (games_lock h.games.now)) _ (lock_quiet (games_lock h.games.now))
      (λ held. steps_quiet (OpensStoreIf o h.games.now h.store) _ (kept_open_quiet h.games.now h.store) (λ store. given_quiet _)))))))

-- ---- what the words name

abbrev IsQuietReading : {A : Type 0} → Reading A → Type 0
IsQuietReading {A} First = (r : Result A ReadFault) (events : List Event) → First r events → ReceivesNothing events

readings_quiet : {A B : Type 0} (First : Reading A) (Next : A → Reading B) → IsQuietReading First → ((a : A) → IsQuietReading (Next a)) → IsQuietReading (Then First Next)
readings_quiet First Next p q r events (Both a before after first next is) = then_quiet before after events (p (Ok a) before first) (q a r after next) is
readings_quiet First Next p q r events (FirstAlone fault first told) = p (Err fault) events first

gives_quiet : {A : Type 0} (a : A) → IsQuietReading (Gives a)
gives_quiet a r events p = none_quiet events p.1

file_quiet : (path : List ℕ) (Holds : List ℕ → Type 0) (Fails : Type 0) → IsQuietReading (ReadsFile path Holds Fails)
file_quiet path Holds Fails r events (FileIs bytes holds told is) = one_quiet _ events is refl
file_quiet path Holds Fails r events (FileIsNot fault why told is) = one_quiet _ events is refl

lines_quiet : (text : List ℕ) → IsQuietReading (ReadsLines text)
lines_quiet text r events (LinesAre manifest told tells is gives) = gives_quiet manifest r events gives
lines_quiet text r events (NoRoomForLines told none) = none_quiet events none

manifest_quiet : (disk : DiskFacts) (path : Option (List ℕ)) → IsQuietReading (ReadsManifest disk path)
manifest_quiet disk None r events p = gives_quiet Unnamed r events p
manifest_quiet disk (Some path) r events p = readings_quiet (ReadsText disk path) ReadsLines (file_quiet path _ _) lines_quiet r events p

table_note_quiet : (folder : List ℕ) (names : List (List ℕ)) (events : List Event) → tables.MayNote folder names events → ReceivesNothing events
table_note_quiet folder names events (tables.NotNoted none) = none_quiet events none
table_note_quiet folder names events (tables.IsNoted no_table is) = one_quiet _ events is refl

tables_listed_quiet : (disk : DiskFacts) (folder : List ℕ) (manifest : Manifest) → IsQuietReading (tables.ListsTables disk folder manifest)
tables_listed_quiet disk folder manifest r events (tables.Listed names wanted note lists notes are is told) = subst ReceivesNothing (sym is) (refl, table_note_quiet folder names note notes)
tables_listed_quiet disk folder manifest r events (tables.NotListed fault why is told) = one_quiet _ events is refl
tables_listed_quiet disk folder manifest r events (tables.ListedTwice names note lists notes fault why is told) = subst ReceivesNothing (sym is) (refl, table_note_quiet folder names note notes)

files_read_quiet : (folder : List ℕ) (files : List File) → ReceivesNothing (map (tables.table_read folder) files)
files_read_quiet folder [] = tt
files_read_quiet folder (f ∷ files) = (refl, files_read_quiet folder files)

table_quiet : (disk : DiskFacts) (folder name : List ℕ) → IsQuietReading (tables.ReadsTable disk folder name)
table_quiet disk folder name r events (tables.IsRead f named at is told) = one_quiet _ events is refl
table_quiet disk folder name r events (tables.NotRead fault why is told) = one_quiet _ events is refl
table_quiet disk folder name r events (tables.NoPath none told) = none_quiet events none

tables_quiet : (disk : DiskFacts) (folder : List ℕ) (names : List (List ℕ)) → IsQuietReading (tables.ReadsTables disk folder names)
tables_quiet disk folder names r events (tables.AllRead files are is told) = subst ReceivesNothing (sym is) (files_read_quiet folder files)
tables_quiet disk folder names r events (tables.OneUnread before name after last fault of are fails is told) = then_quiet _ last events (files_read_quiet folder before) (table_quiet disk folder name _ last fails) is
tables_quiet disk folder names r events (tables.NoRoomFor files after of are is told) = subst ReceivesNothing (sym is) (files_read_quiet folder files)

folder_quiet : (disk : DiskFacts) (folder : List ℕ) (manifest : Manifest) → IsQuietReading (tables.ReadsFolder disk folder manifest)
folder_quiet disk folder manifest r events (tables.FilesRead wanted listing reading lists reads is) =
    then_quiet listing reading events (tables_listed_quiet disk folder manifest _ listing lists) (tables_quiet disk folder wanted r reading reads) is
folder_quiet disk folder manifest r events (tables.FolderUnlisted fault lists told) = tables_listed_quiet disk folder manifest _ events lists

wanted_quiet : (disk : DiskFacts) (folder : Option (List ℕ)) (manifest : Manifest) → IsQuietReading (ReadsWanted disk folder manifest)
wanted_quiet disk None manifest r events p = gives_quiet [] r events p
wanted_quiet disk (Some folder) manifest r events p = folder_quiet disk folder manifest r events p

all_input_quiet : (input : InputFacts) → IsQuietReading (ReadsAllInput input)
all_input_quiet input r events (InputIs bytes gives short told is) = one_quiet _ events is refl
all_input_quiet input r events (InputIsNot fault why memory told is) = one_quiet _ events is refl

input_quiet : (input : InputFacts) (is_wanted : Bool) → IsQuietReading (ReadsInput input is_wanted)
input_quiet input false r events p = gives_quiet [] r events p
input_quiet input true r events p = all_input_quiet input r events p

kept_quiet : (disk : DiskFacts) (path : Option (List ℕ)) → IsQuietReading (ReadsKept disk path)
kept_quiet disk None r events p = gives_quiet [] r events p
kept_quiet disk (Some path) r events p = file_quiet path _ _ r events p

held_quiet : (disk : DiskFacts) (n : Named) → IsQuietReading (ReadsHeld disk n)
held_quiet disk n = readings_quiet (ReadsManifest disk n.manifest) _ (manifest_quiet disk n.manifest) (λ manifest. readings_quiet (ReadsWanted disk n.folder manifest) _ (wanted_quiet disk n.folder manifest) (λ files. gives_quiet _))

texts_quiet : (disk : DiskFacts) (input : InputFacts) (n : Named) → IsQuietReading (ReadsTexts disk input n)
texts_quiet disk input n =
    readings_quiet (ReadsInput input n.input) _ (input_quiet input n.input)
    (λ text. readings_quiet (ReadsKept disk n.kept) _ (kept_quiet disk n.kept) (λ kept. readings_quiet (ReadsKept disk n.other_kept) _ (kept_quiet disk n.other_kept) (λ other. gives_quiet _)))

pub reading_quiet : {T P F K S L : Type 0} (o : Outside T P F K S L) (n : Named) → IsQuietStep (ReadsNamed o n)
reading_quiet o n r events p = readings_quiet (ReadsHeld o.disk n) _ (held_quiet o.disk n) (λ held. readings_quiet (ReadsTexts o.disk o.input n) _ (texts_quiet o.disk o.input n) (λ texts. gives_quiet (given_by held texts))) p.0 events p.1
