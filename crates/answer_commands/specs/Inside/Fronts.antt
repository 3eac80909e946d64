-- What stands at the front of a stream; cited by private functions alone.
use Rattle.std.specs.Prelude.{◌≡◌, ◌++◌, ℕ, List, length}
use Rattle.move_msg.specs.Messages.{SpellsMessage}
use Rattle.move_msg.specs.Streams.{Feed, EndsSo, AfterMessage, Cut, AtFault, nothing_fed}
use Rattle.answer_commands.specs.declared.show.Front.{Front}
use Rattle.answer_commands.specs.declared.show.Front.TheVariants as front

-- a message, after which the feeder holds nothing again; or the stream ends
abbrev pub IsFront : List ℕ → Front → Feed → Type 0
IsFront t (front.Message m tail) new = (text : List ℕ) × (length text ≡ 27) × (t ≡ text ++ tail.now) × SpellsMessage text m × (new ≡ nothing_fed)
IsFront t (front.Fault fault) new = EndsSo t (AtFault fault)
IsFront t front.Cut new = EndsSo t Cut
IsFront t front.End new = EndsSo t AfterMessage
