-- What happens outside while the store of a folder is read, also while a host writes it, one event after another (this project's own).
use Rattle.std.specs.Prelude.{◌≡◌, ◌<◌, ◌++◌, ◌&&◌, ◌+◌, ℕ, List, [], ◌∷◌, Option, Some, None, Result, Ok, Err, codes, if◌then◌else◌, zero, suc}
use Rattle.std.specs.List.{Contains}
use Rattle.std.specs.Str.{bytes_eq}
use Rattle.arbiter_server.specs.ServedLines.{refused_store}
use Rattle.game_status.specs.StoreReadings.{HasHalfStore, log_head, log_name, path_in, store_name, store_path}
use Rattle.line_teller.specs.ToldLines.{cut_words, refused_memory}
use Rattle.system_io.specs.Disks.{AtFolder, DiskFacts}
use Rattle.system_io.specs.Records.{Records, StorePlaces}
use Rattle.system_io.specs.declared.reading.ReadFault.{ReadFault}
use Rattle.system_io.specs.declared.reading.ReadFault.TheVariants.{OutOfMemory, Unreadable}
use Rattle.system_io.specs.declared.record_store.StoreFault.{StoreFault}
use Rattle.system_io.specs.declared.record_store.StoreFault.TheVariants as store
use Rattle.task_files.specs.InputReads.{Gives, Reading, ReadsText, Then}
use Rattle.timeline.specs.Events.{Event, FolderListed, Noted}
use Rattle.timeline.specs.Outsides.{Outside}

-- where the store of a folder is: the folder, the database in it, and the log beside that
pub record StoreFolder : Type 0 where
  pub folder : List ℕ
  pub db : List ℕ
  pub log : List ℕ

abbrev pub store_of : List ℕ → StoreFolder
store_of folder = record { folder = folder; db = store_path folder; log = path_in folder log_name }

-- ---- two files at one moment

-- a folder is listed: its names, or why it can't be
pub data ListsFolder (disk : DiskFacts) (folder : List ℕ) (result : Result (List (List ℕ)) ReadFault) (events : List Event) : Type 0 where
  FolderIs : (names : List (List ℕ)) → disk.lists folder names → result ≡ Ok names → events ≡ FolderListed folder (Ok names) ∷ [] → ListsFolder disk folder result events
  FolderIsNot : (fault : ReadFault) → (fault ≡ Unreadable → disk.fails (AtFolder folder)) → result ≡ Err fault → events ≡ FolderListed folder (Err fault) ∷ [] → ListsFolder disk folder result events

-- the log is read where the folder lists it, and else it is empty
pub data ReadsListed (disk : DiskFacts) (log : List ℕ) (names : List (List ℕ)) (result : Result (List ℕ) ReadFault) (events : List Event) : Type 0 where
  LogListed : Contains names log_name → ReadsText disk log result events → ReadsListed disk log names result events
  NoLog : (Contains names log_name → ⊥) → Gives [] result events → ReadsListed disk log names result events

abbrev pub ReadsLog : DiskFacts → StoreFolder → Reading (List ℕ)
ReadsLog disk s = Then (ListsFolder disk s.folder) (ReadsListed disk s.log)

-- the database, and then the log
pub record StoreBytes : Type 0 where
  pub db : List ℕ
  pub log : List ℕ

abbrev pub ReadsBoth : DiskFacts → StoreFolder → Reading StoreBytes
ReadsBoth disk s = Then (ReadsText disk s.db) (λ db. Then (ReadsLog disk s) (λ log. Gives (record { db = db; log = log })))

-- they are of one moment where the log, read before and after them too, had one head: it didn't begin anew
abbrev pub at_one_moment : List ℕ → StoreBytes → List ℕ → Option StoreBytes
at_one_moment before files after = if bytes_eq (log_head before) (log_head files.log) && bytes_eq (log_head files.log) (log_head after) then Some files else None

abbrev pub ReadsOnce : DiskFacts → StoreFolder → Reading (Option StoreBytes)
ReadsOnce disk s = Then (ReadsLog disk s) (λ before. Then (ReadsBoth disk s) (λ files. Then (ReadsLog disk s) (λ after. Gives (at_one_moment before files after))))

-- so often they were read, and weren't of one moment
abbrev pub MissesMoment : DiskFacts → StoreFolder → ℕ → List Event → Type 0
MissesMoment disk s zero events = events ≡ []
MissesMoment disk s (suc n) events = (before last : List Event) × MissesMoment disk s n before × ReadsOnce disk s (Ok None) last × (events ≡ before ++ last)

abbrev pub most_tries : ℕ
most_tries = 8

-- they are read until they are of one moment, eight times at most
pub data ReadsStoreBytes (disk : DiskFacts) (s : StoreFolder) (result : Result StoreBytes ReadFault) (events : List Event) : Type 0 where
  AtOneMoment : (n : ℕ) (files : StoreBytes) (before last : List Event) → n < most_tries → MissesMoment disk s n before → ReadsOnce disk s (Ok (Some files)) last → result ≡ Ok files → events ≡ before ++ last → ReadsStoreBytes disk s result events
  AtNoMoment : MissesMoment disk s most_tries events → result ≡ Err Unreadable → ReadsStoreBytes disk s result events
  NotBoth : (n : ℕ) (fault : ReadFault) (before last : List Event) → n < most_tries → MissesMoment disk s n before → ReadsOnce disk s (Err fault) last → result ≡ Err fault → events ≡ before ++ last → ReadsStoreBytes disk s result events

-- ---- records

abbrev pub read_fault : StoreFault → ReadFault
read_fault store.Unreadable = Unreadable
read_fault store.OutOfMemory = OutOfMemory

-- what the two files hold, for which nothing more is read
pub data HoldsRecords {S : Type 0} (stores : StorePlaces S) (files : StoreBytes) (result : Result Records ReadFault) (events : List Event) : Type 0 where
  Held : (records : Records) → stores.holds files.db files.log records → Gives records result events → HoldsRecords stores files result events
  Withheld : (fault : StoreFault) → stores.withholds files.db files.log fault → result ≡ Err (read_fault fault) → events ≡ [] → HoldsRecords stores files result events

abbrev pub ReadsRecords : {T P F K S L : Type 0} → Outside T P F K S L → StoreFolder → Reading Records
ReadsRecords o s = Then (ReadsStoreBytes o.disk s) (HoldsRecords o.stores)

-- the records of the store of a folder with these names; where there is half of a store, it can't be read, and where there is none, it has
-- no record
pub data ReadsStore {T P F K S L : Type 0} (o : Outside T P F K S L) (s : StoreFolder) (names : List (List ℕ)) (result : Result Records ReadFault) (events : List Event) : Type 0 where
  OfWhole : (HasHalfStore names → ⊥) → Contains names store_name → ReadsRecords o s result events → ReadsStore o s names result events
  OfHalf : HasHalfStore names → result ≡ Err Unreadable → events ≡ [] → ReadsStore o s names result events
  OfNone : (HasHalfStore names → ⊥) → (Contains names store_name → ⊥) → Gives (λ stamp. None) result events → ReadsStore o s names result events

-- ---- a folder and its store

-- a folder as it was opened: its path, the names in it, and the records of its store
pub record OpenedFolder : Type 0 where
  pub path : List ℕ
  pub names : List (List ℕ)
  pub records : Records

abbrev pub opened_as : List ℕ → List (List ℕ) → Records → OpenedFolder
opened_as path names records = record { path = path; names = names; records = records }

abbrev pub unread_words : List ℕ → List ℕ
unread_words folder = folder ++ codes "/games.db can't be read: no store of games, half of one, at fault, or written too often meanwhile"

-- The folder is listed, and then its store is read; or the words that refuse it: it can't be listed, or its store can't be read, which is
-- noted, or memory was refused.
pub data Opens {T P F K S L : Type 0} (o : Outside T P F K S L) (path : List ℕ) (result : Result OpenedFolder (List ℕ)) (events : List Event) : Type 0 where
  WithStore : (names : List (List ℕ)) (records : Records) (listing reading : List Event) → ListsFolder o.disk path (Ok names) listing → ReadsStore o (store_of path) names (Ok records) reading → result ≡ Ok (opened_as path names records) → events ≡ listing ++ reading → Opens o path result events
  NoFolder : (fault : ReadFault) → ListsFolder o.disk path (Err fault) events → result ≡ Err (cut_words fault) → Opens o path result events
  NoStore : (names : List (List ℕ)) (listing reading : List Event) → ListsFolder o.disk path (Ok names) listing → ReadsStore o (store_of path) names (Err Unreadable) reading → result ≡ Err refused_store → events ≡ listing ++ (reading ++ Noted (unread_words path) ∷ []) → Opens o path result events
  NoRoomToRead : (names : List (List ℕ)) (listing reading : List Event) → ListsFolder o.disk path (Ok names) listing → ReadsStore o (store_of path) names (Err OutOfMemory) reading → result ≡ Err refused_memory → events ≡ listing ++ reading → Opens o path result events
  NoRoomForPaths : result ≡ Err refused_memory → events ≡ [] → Opens o path result events
