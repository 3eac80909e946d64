-- The note on a game that was in a folder before it is entered there (this project's own).
use Rattle.std.specs.Prelude.{◌≡◌, ◌≤◌, ◌⊎◌, ◌++◌, ℕ, List, [], ◌∷◌, length, Option, Some, None, Ok, Err, codes}
use Rattle.std.specs.Fmt.{decimal}
use Rattle.hex.specs.Hex.{encode_lower}
use Rattle.move_msg.specs.Records.{SpellsRecord}
use Rattle.move_msg.specs.declared.record_bytes.Record.{Record}
use Rattle.system_io.specs.Disks.{AtFile, DiskFacts, HasMore}
use Rattle.system_io.specs.Records.{StoredRecord}
use Rattle.system_io.specs.declared.reading.ReadFault.{ReadFault}
use Rattle.system_io.specs.declared.reading.ReadFault.TheVariants.{Unreadable}
use Rattle.task_files.specs.Sources.{LacksKept, most_kept}
use Rattle.timeline.specs.Events.{Event, FileSought, Noted}
use Rattle.timeline.specs.Outsides.{Outside}
use Rattle.answer_commands.specs.StoreReads.{AsksOnce, Known, Read, Unasked, Unread}

-- how many moves the record of this game has that the bytes spell; none where they spell none of it
abbrev pub CountsMoves : List ℕ → List ℕ → Option ℕ → Type 0
CountsMoves stamp bytes (Some count) = (r : Record) × SpellsRecord bytes r × (r.stamp ≡ stamp) × (count ≡ length r.moves)
CountsMoves stamp bytes None = (r : Record) → SpellsRecord bytes r → r.stamp ≡ stamp → ⊥

-- the file of the record is looked for: its count, or that it isn't there
pub data SeeksCount (disk : DiskFacts) (path stamp : List ℕ) (count : Option ℕ) (events : List Event) : Type 0 where
  KeptThere : (bytes : List ℕ) → disk.holds path bytes → length bytes ≤ most_kept → CountsMoves stamp bytes count → events ≡ FileSought path (Ok bytes) ∷ [] → SeeksCount disk path stamp count events
  NotKept : (fault : ReadFault) → (fault ≡ Unreadable → LacksKept disk path) → count ≡ None → events ≡ FileSought path (Err fault) ∷ [] → SeeksCount disk path stamp count events

-- the record that the store has of the game is the one; where it has none, that of the file
abbrev pub FindsCount : DiskFacts → List ℕ → List ℕ → Option StoredRecord → Option ℕ → List Event → Type 0
FindsCount disk path stamp (Some r) count events = CountsMoves stamp r.bytes count × (events ≡ [])
FindsCount disk path stamp None count events = SeeksCount disk path stamp count events

-- nothing is looked for where the store can't be read
abbrev pub Recounts : DiskFacts → List ℕ → List ℕ → Known → Option ℕ → List Event → Type 0
Recounts disk path stamp Unasked count events = (count ≡ None) × (events ≡ [])
Recounts disk path stamp Unread count events = (count ≡ None) × (events ≡ [])
Recounts disk path stamp (Read records) count events = FindsCount disk path stamp (records stamp) count events

abbrev pub earlier_words : List ℕ → Option ℕ → List ℕ
earlier_words stamp (Some count) = encode_lower stamp ++ codes " was there before, with " ++ decimal count ++ codes " moves"
earlier_words stamp None = encode_lower stamp ++ codes " was there before"

-- the record of the game is looked for, at this path where it isn't in the store; then it is noted that the game was there, with the number of
-- its moves where its record can be read
pub record NotesKnown (disk : DiskFacts) (path stamp : List ℕ) (known : Known) (events : List Event) : Type 0 where
  pub count : Option ℕ
  pub seeking : List Event
  pub counts : Recounts disk path stamp known count seeking
  pub all : events ≡ seeking ++ Noted (earlier_words stamp count) ∷ []

-- the records of the folder's store are asked for, unless they were; and then that is done
pub record NotesEarlier {T P F K S L : Type 0} (o : Outside T P F K S L) (folder path stamp : List ℕ) (before after : Known) (events : List Event) : Type 0 where
  pub asking : List Event
  pub noting : List Event
  pub asks : AsksOnce o folder before after asking
  pub notes : NotesKnown o.disk path stamp after noting
  pub all : events ≡ asking ++ noting
