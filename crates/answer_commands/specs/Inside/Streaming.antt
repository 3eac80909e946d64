-- A stream that is shown; cited by private functions alone.
use Rattle.std.specs.Prelude.{◌≡◌, ℕ, List, map, Option, Some, None}
use Rattle.answer_parts.specs.Printing.{printed}
use Rattle.answer_commands.specs.Show.{shown_lines, shown_status}
use Rattle.move_msg.specs.MessageWords.{message_words}
use Rattle.move_msg.specs.Streams.{BeginsBy, End, SpellsStream}
use Rattle.move_msg.specs.declared.message.Message.{Message}
use Rattle.timeline.specs.Events.{Event}

-- its lines are written: all, or those of its first messages
pub data ShowsStream (stream : List ℕ) (events : List Event) (status : Option ℕ) : Type 0 where
  ShowsAll : (ms : List Message) (end : End) → SpellsStream stream ms end → events ≡ printed (shown_lines ms end) → status ≡ Some (shown_status end) → ShowsStream stream events status
  ShowsFirst : (ms : List Message) (rest : List ℕ) → BeginsBy stream ms rest → events ≡ printed (map message_words ms) → status ≡ None → ShowsStream stream events status
