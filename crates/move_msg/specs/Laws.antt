-- What holds of words, messages, records and streams.
use Rattle.std.specs.Prelude.{◌≡◌, ℕ, List, slice_index}
use Rattle.board_core.specs.declared.moves.Move.{Move}
use Rattle.move_msg.specs.declared.message.Message.{Message}
use Rattle.move_msg.specs.declared.record_bytes.Record.{Record}
use Rattle.move_msg.specs.Words.{SpellsWord}
use Rattle.move_msg.specs.Messages.{SpellsMessage}
use Rattle.move_msg.specs.Records.{SpellsRecord}
use Rattle.move_msg.specs.Manifests.{Entry, IsFirstBadLine, SpellsManifest}
use Rattle.move_msg.specs.Streams.{End, Feed, IsRunOfCalls, SpellsStream, StreamCall, end_at, messages_in, nothing_fed, taken_in}

-- a word stands for one move at most
abbrev pub WordHasOneMove : Type 0
WordHasOneMove = (w : ℕ) (m n : Move) → SpellsWord w m → SpellsWord w n → m ≡ n

-- bytes spell one message at most, and a message has one spelling at most
abbrev pub HasOneMessage : Type 0
HasOneMessage = (t : List ℕ) (m n : Message) → SpellsMessage t m → SpellsMessage t n → m ≡ n

abbrev pub HasOneSpelling : Type 0
HasOneSpelling = (s t : List ℕ) (m : Message) → SpellsMessage s m → SpellsMessage t m → s ≡ t

-- bytes spell one record at most
abbrev pub HasOneRecord : Type 0
HasOneRecord = (t : List ℕ) (q r : Record) → SpellsRecord t q → SpellsRecord t r → q ≡ r

-- and a record has one spelling of a version at most
abbrev pub HasOneRecordSpelling : Type 0
HasOneRecordSpelling =
    (s t : List ℕ) (r : Record) → SpellsRecord s r → SpellsRecord t r → slice_index s 2 ≡ slice_index t 2 → s ≡ t

-- a stream has one list of messages and one end
abbrev pub HasOneReading : Type 0
HasOneReading = (t : List ℕ) (ms ns : List Message) (e f : End) → SpellsStream t ms e → SpellsStream t ns f → (ms ≡ ns) × (e ≡ f)

-- the messages that are answered, and what is held or met at last, are those of the bytes taken
abbrev pub ReadsItsStream : Type 0
ReadsItsStream = (calls : List StreamCall) (new : Feed) → IsRunOfCalls nothing_fed calls new
    → SpellsStream (taken_in calls) (messages_in calls) (end_at new.held new.fault)

-- in whatever pieces the same bytes come, the same messages are answered, and the same is left
abbrev pub PiecesDoNotMatter : Type 0
PiecesDoNotMatter = (calls others : List StreamCall) (new end : Feed) → IsRunOfCalls nothing_fed calls new → IsRunOfCalls nothing_fed others end
    → taken_in calls ≡ taken_in others → (messages_in calls ≡ messages_in others) × (new ≡ end)

-- bytes are one manifest at most
abbrev pub HasOneManifest : Type 0
HasOneManifest = (t : List ℕ) (a b : List Entry) → SpellsManifest t a → SpellsManifest t b → a ≡ b

-- bytes that are none have one first line at fault
abbrev pub HasOneBadLine : Type 0
HasOneBadLine =
    ((t : List ℕ) (j k : ℕ) → IsFirstBadLine t j → IsFirstBadLine t k → j ≡ k)
    × ((t : List ℕ) (a : List Entry) (k : ℕ) → SpellsManifest t a → IsFirstBadLine t k → ⊥)
