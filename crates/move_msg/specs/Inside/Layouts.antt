-- The parts of a message and of a record by their places, as the code reads them; cited by private functions alone.
use Rattle.std.specs.Prelude.{◌≡◌, ℕ, List, take, drop, slice_index}
use Rattle.std.specs.Int.{w16, w32, from_be_bytes}
use Rattle.move_msg.specs.declared.coding.MessageKind.{MessageKind}
use Rattle.move_msg.specs.declared.coding.MessageKind.TheVariants as kind
use Rattle.move_msg.specs.declared.coding.Fields.{Fields}
use Rattle.move_msg.specs.declared.record_bytes.Header.{Header}
use Rattle.move_msg.specs.declared.message.Message.{Message}
use Rattle.move_msg.specs.Messages.{IsInRange, version_of, message_kind, stamp_in, sender_of, message_number, word_in}
use Rattle.move_msg.specs.Senders.{sender_number}
use Rattle.move_msg.specs.Records.{body_count, body_in, body_verdict, delay_in}

abbrev pub kind_number : MessageKind → ℕ
kind_number kind.Move = 1
kind_number kind.Ack = 2
kind_number kind.Verdict = 3
kind_number kind.Relayed = 1
kind_number kind.Fetch = 4

abbrev pub version_number : MessageKind → ℕ
version_number kind.Move = 1
version_number kind.Ack = 1
version_number kind.Verdict = 1
version_number kind.Relayed = 2
version_number kind.Fetch = 2

-- stamp, sender, number and word of 27 bytes
unfoldable pub fields_at : List ℕ → Fields
fields_at t = record {
  stamp = take 16 (drop 4 t);
  sender = slice_index t 20;
  number = from_be_bytes w32 (take 4 (drop 21 t));
  word = from_be_bytes w16 (drop 25 t);
}

-- these are the fields of the message, whose kind this is
pub record HasFields (k : MessageKind) (f : Fields) (m : Message) : Type 0 where
  pub in_range : IsInRange m
  pub version : version_of m ≡ version_number k
  pub kind : message_kind m ≡ kind_number k
  pub stamp : stamp_in m ≡ f.stamp
  pub sender : sender_number (sender_of m) ≡ f.sender
  pub number : message_number m ≡ f.number
  pub word : word_in m ≡ f.word

-- stamp, delay, code of the verdict and number of moves of a record
unfoldable pub header_at : List ℕ → Header
header_at t = record {
  stamp = take 16 (drop 3 t);
  delay = delay_in t;
  code = body_verdict (body_in t);
  count = body_count (body_in t);
}
