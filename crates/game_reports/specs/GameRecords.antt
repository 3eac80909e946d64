-- `record --games DIR STAMP`: the record of a game in a folder, as it is kept (this project's own).
use Rattle.std.specs.Prelude.{◌≡◌, ◌≤◌, ◌<◌, ◌++◌, ℕ, List, [], ◌∷◌, length, Option, Some, None, Ok, Err}
use Rattle.answer_parts.specs.Printing.{Prints, printed}
use Rattle.arbiter_server.specs.GameFolders.{kept_path}
use Rattle.command_line.specs.declared.commands.game_record.GameRecord.{GameRecord}
use Rattle.line_teller.specs.ToldLines.{cut_words, refused_files, refused_memory}
use Rattle.system_io.specs.Disks.{DiskFacts, most_bytes}
use Rattle.system_io.specs.Records.{Records, StoredRecord}
use Rattle.system_io.specs.declared.reading.ReadFault.{ReadFault}
use Rattle.task_files.specs.InputReads.{ReadsText}
use Rattle.timeline.specs.Events.{Event, Wrote}
use Rattle.timeline.specs.Outsides.{Outside}
use Rattle.timeline.specs.declared.stream.Stream.TheVariants.{Output}
use Rattle.game_reports.specs.StoreReads.{OpenedFolder, Opens}
use Rattle.game_reports.specs.Writing.{Doing, WritesText}

-- a record of the store is written; or it has more bytes than a file may have
pub data PrintsStored (bytes : List ℕ) (events : List Event) (status : Option ℕ) : Type 0 where
  StoredPut : length bytes ≤ most_bytes → WritesText bytes events status → PrintsStored bytes events status
  TooLong : most_bytes < length bytes → Prints (refused_files ∷ []) 1 events status → PrintsStored bytes events status

-- the file that has the game's record, where records are files
abbrev pub record_path : GameRecord → List ℕ
record_path t = kept_path t.games.now t.stamp

-- that file is read, and then its bytes are written; or why it can't be read
pub data PrintsFiled (disk : DiskFacts) (t : GameRecord) (events : List Event) (status : Option ℕ) : Type 0 where
  FilePut : (bytes : List ℕ) (reading : List Event) → ReadsText disk (record_path t) (Ok bytes) reading → events ≡ reading ++ Wrote Output bytes ∷ [] → status ≡ Some 0 → PrintsFiled disk t events status
  FileUnread : (fault : ReadFault) (reading : List Event) → ReadsText disk (record_path t) (Err fault) reading → events ≡ reading ++ printed (cut_words fault ∷ []) → status ≡ Some 1 → PrintsFiled disk t events status
  NoRoomForPath : Prints (refused_memory ∷ []) 1 events status → PrintsFiled disk t events status

-- by the record that the store has of the game, for which no file is read; or by its file
abbrev pub PrintsKept : DiskFacts → GameRecord → Option StoredRecord → Doing
PrintsKept disk t (Some r) events status = PrintsStored r.bytes events status
PrintsKept disk t None events status = PrintsFiled disk t events status

-- so it is by the records of a store
abbrev pub PrintsFound : DiskFacts → GameRecord → Records → Doing
PrintsFound disk t records = PrintsKept disk t (records t.stamp)

-- the folder is opened, and then the record is written; or why the folder isn't
pub data PrintsGameRecord {T P F K S L : Type 0} (o : Outside T P F K S L) (t : GameRecord) (events : List Event) (status : Option ℕ) : Type 0 where
  OfFolder : (f : OpenedFolder) (opening rest : List Event) → Opens o t.games.now (Ok f) opening → PrintsKept o.disk t (f.records t.stamp) rest status → events ≡ opening ++ rest → PrintsGameRecord o t events status
  FolderRefused : (words : List ℕ) (opening : List Event) → Opens o t.games.now (Err words) opening → events ≡ opening ++ printed (words ∷ []) → status ≡ Some 1 → PrintsGameRecord o t events status
