-- `show`: the messages of the input (this project's own).
use Rattle.std.specs.Prelude.{◌≡◌, ◌+◌, ◌++◌, ℕ, List, [], ◌∷◌, length, map, Option, Some, None, Ok, Err, codes}
use Rattle.answer_parts.specs.Lines.{refused_message}
use Rattle.line_teller.specs.ToldLines.{cut_words}
use Rattle.move_msg.specs.MessageWords.{message_words}
use Rattle.move_msg.specs.Messages.{message_fault_name}
use Rattle.move_msg.specs.Streams.{AfterMessage, AtFault, BeginsBy, Cut, End, SpellsStream}
use Rattle.move_msg.specs.declared.message.Message.{Message}
use Rattle.system_io.specs.Inputs.{InputFacts}
use Rattle.system_io.specs.declared.reading.ReadFault.{ReadFault}
use Rattle.timeline.specs.Events.{Event, InputRead}
use Rattle.answer_commands.specs.Inputs.{IsInput, IsUnread}
use Rattle.answer_parts.specs.Printing.{printed}

-- a line a message, and a refusal where the stream doesn't end after one
abbrev pub shown_lines : List Message → End → List (List ℕ)
shown_lines ms AfterMessage = map message_words ms
shown_lines ms Cut = map message_words ms ++ refused_message (length ms + 1) (codes "Cut") ∷ []
shown_lines ms (AtFault fault) = map message_words ms ++ refused_message (length ms + 1) (message_fault_name fault) ∷ []

abbrev pub shown_status : End → ℕ
shown_status AfterMessage = 0
shown_status Cut = 1
shown_status (AtFault fault) = 1

-- the input is read, once, and then its lines are written; or why it couldn't be read
pub data ShowsMessages (input : InputFacts) (events : List Event) (status : Option ℕ) : Type 0 where
  ShownAll : (bytes : List ℕ) (ms : List Message) (end : End) → IsInput input bytes → SpellsStream bytes ms end → events ≡ InputRead (Ok bytes) ∷ printed (shown_lines ms end) → status ≡ Some (shown_status end) → ShowsMessages input events status
  ShownFirst : (bytes : List ℕ) (ms : List Message) (rest : List ℕ) → IsInput input bytes → BeginsBy bytes ms rest → events ≡ InputRead (Ok bytes) ∷ printed (map message_words ms) → status ≡ None → ShowsMessages input events status
  NotShown : (fault : ReadFault) → IsUnread input fault → events ≡ InputRead (Err fault) ∷ printed (cut_words fault ∷ []) → status ≡ Some 1 → ShowsMessages input events status
