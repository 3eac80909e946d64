-- Messages as bytes (message format, versions 1 and 2).
use Rattle.std.specs.Prelude.{◌≡◌, ◌≢◌, ◌≤◌, ◌<◌, ◌^◌, ◌++◌, ◌⊎◌, ℕ, List, ◌∷◌, length, slice_index, replicate, codes}
use Rattle.std.specs.Int.{w16, w32, to_be_bytes}
use Rattle.move_msg.specs.declared.stamp.Stamp.{Stamp}
use Rattle.move_msg.specs.declared.arbiter_id.ArbiterId.TheVariants.{A}
use Rattle.move_msg.specs.declared.arbiter_id.Sender.{Sender}
use Rattle.move_msg.specs.declared.arbiter_id.Sender.TheVariants.{Source, Arbiter}
use Rattle.move_msg.specs.declared.message.Message.{Message}
use Rattle.move_msg.specs.declared.message.Message.TheVariants.{Move, Ack, Verdict, Fetch}
use Rattle.move_msg.specs.declared.message.MessageFault.{MessageFault}
use Rattle.move_msg.specs.declared.message.MessageFault.TheVariants.{NoTag, BadLength, BadHead, BadKind, BadField}
use Rattle.move_msg.specs.Words.{SpellsWord, word_of}
use Rattle.move_msg.specs.Numbers.{most_moves, most_wanted}
use Rattle.move_msg.specs.Senders.{sender_number}
use Rattle.board_core.specs.Verdicts.{verdict_code}

-- whose message it is
abbrev pub sender_of : Message → Sender
sender_of (Move stamp sender number m) = sender
sender_of (Ack stamp who count) = Arbiter who
sender_of (Verdict stamp who ply verdict) = Arbiter who
sender_of (Fetch stamp who number wanted) = Arbiter who

-- the game that it is about
abbrev pub stamp_in : Message → Stamp
stamp_in (Move stamp sender number m) = stamp
stamp_in (Ack stamp who count) = stamp
stamp_in (Verdict stamp who ply verdict) = stamp
stamp_in (Fetch stamp who number wanted) = stamp

-- what stands where there is no message
abbrev pub no_message : Message
no_message = Ack (replicate 16 0) A 0

-- moves and requests of an arbiter belong to version 2
abbrev pub version_by : Sender → ℕ
version_by Source = 1
version_by (Arbiter who) = 2

abbrev pub version_of : Message → ℕ
version_of (Move stamp sender number m) = version_by sender
version_of (Ack stamp who count) = 1
version_of (Verdict stamp who ply verdict) = 1
version_of (Fetch stamp who number wanted) = 2

-- a kind, the number and the word
abbrev pub message_kind : Message → ℕ
message_kind (Move stamp sender number m) = 1
message_kind (Ack stamp who count) = 2
message_kind (Verdict stamp who ply verdict) = 3
message_kind (Fetch stamp who number wanted) = 4

abbrev pub message_number : Message → ℕ
message_number (Move stamp sender number m) = number
message_number (Ack stamp who count) = count
message_number (Verdict stamp who ply verdict) = ply
message_number (Fetch stamp who number wanted) = number

abbrev pub word_in : Message → ℕ
word_in (Move stamp sender number m) = word_of m
word_in (Ack stamp who count) = 0
word_in (Verdict stamp who ply verdict) = verdict_code verdict
word_in (Fetch stamp who number wanted) = wanted

-- what a message may have as its number and its word
abbrev pub IsInRange : Message → Type 0
IsInRange (Move stamp sender number m) = (number < 2 ^ 32) × SpellsWord (word_of m) m
IsInRange (Ack stamp who count) = count ≤ most_moves
IsInRange (Verdict stamp who ply verdict) = ply ≤ most_moves
IsInRange (Fetch stamp who number wanted) = (number ≤ most_moves) × (1 ≤ wanted) × (wanted ≤ most_wanted)

-- two letters and the version, the kind, the stamp, the sender, the number and the word, each number with its highest
-- byte first
unfoldable pub frame : ℕ → ℕ → List ℕ → ℕ → ℕ → ℕ → List ℕ
frame version kind stamp sender number word =
    83 ∷ 65 ∷ version ∷ kind ∷ stamp ++ (sender ∷ to_be_bytes w32 number ++ to_be_bytes w16 word)

abbrev pub message_text : Message → List ℕ
message_text m = frame (version_of m) (message_kind m) (stamp_in m) (sender_number (sender_of m)) (message_number m) (word_in m)

-- the bytes are those of the message
pub record SpellsMessage (t : List ℕ) (m : Message) : Type 0 where
  pub in_range : IsInRange m
  pub stamp : length (stamp_in m) ≡ 16
  pub text : t ≡ message_text m

-- S, A and a version
abbrev pub HasHead : List ℕ → Type 0
HasHead t = (slice_index t 0 ≡ 83) × (slice_index t 1 ≡ 65) × ((slice_index t 2 ≡ 1) ⊎ (slice_index t 2 ≡ 2))

-- the kind is one of the version
abbrev pub HasKind : List ℕ → Type 0
HasKind t =
    ((slice_index t 2 ≡ 1) × (1 ≤ slice_index t 3) × (slice_index t 3 ≤ 3))
    ⊎ ((slice_index t 2 ≡ 2) × ((slice_index t 3 ≡ 1) ⊎ (slice_index t 3 ≡ 4)))

-- what a port with keys passes on for a datagram without a right tag
abbrev pub no_tag : List ℕ
no_tag = replicate 64 0

-- the first thing that bytes lack: a tag, the length, the head, the kind, and last the fields of a message of the kind
abbrev pub IsFirstMessageFault : List ℕ → MessageFault → Type 0
IsFirstMessageFault t NoTag = t ≡ no_tag
IsFirstMessageFault t BadLength = (t ≢ no_tag) × (length t ≢ 27)
IsFirstMessageFault t BadHead = (length t ≡ 27) × (HasHead t → ⊥)
IsFirstMessageFault t BadKind = (length t ≡ 27) × HasHead t × (HasKind t → ⊥)
IsFirstMessageFault t BadField = (length t ≡ 27) × HasHead t × HasKind t × ((m : Message) → SpellsMessage t m → ⊥)

-- the names of the faults
abbrev pub message_fault_name : MessageFault → List ℕ
message_fault_name NoTag = codes "NoTag"
message_fault_name BadLength = codes "BadLength"
message_fault_name BadHead = codes "BadHead"
message_fault_name BadKind = codes "BadKind"
message_fault_name BadField = codes "BadField"
