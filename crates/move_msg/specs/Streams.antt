-- Streams of messages, and what is read of them piece by piece.
use Rattle.std.specs.Prelude.{◌≡◌, ◌≤◌, ◌<◌, ◌++◌, ℕ, List, [], ◌∷◌, length, take, Option, Some, None, Result, Ok, Err}
use Rattle.move_msg.specs.declared.message.Message.{Message}
use Rattle.move_msg.specs.declared.message.MessageFault.{MessageFault}
use Rattle.move_msg.specs.Messages.{SpellsMessage, IsFirstMessageFault}

-- the bytes are those of these messages one after the other, and then the rest
abbrev pub BeginsBy : List ℕ → List Message → List ℕ → Type 0
BeginsBy t [] rest = t ≡ rest
BeginsBy t (m ∷ ms) rest = (text : List ℕ) × (tail : List ℕ) × (t ≡ text ++ tail) × SpellsMessage text m × BeginsBy tail ms rest

-- how a stream may end: after a message, inside one, or at 27 bytes that are none
pub data End : Type 0 where
  AfterMessage : End
  Cut : End
  AtFault : MessageFault → End

abbrev pub EndsSo : List ℕ → End → Type 0
EndsSo rest AfterMessage = rest ≡ []
EndsSo rest Cut = (0 < length rest) × (length rest < 27)
EndsSo rest (AtFault fault) = (27 ≤ length rest) × IsFirstMessageFault (take 27 rest) fault

-- the messages of a stream, and how it ends
pub record SpellsStream (t : List ℕ) (ms : List Message) (end : End) : Type 0 where
  pub rest : List ℕ
  pub messages : BeginsBy t ms rest
  pub ending : EndsSo rest end

-- how a stream ends where this is held of it, or that fault was met
abbrev pub end_at : List ℕ → Option MessageFault → End
end_at held (Some fault) = AtFault fault
end_at [] None = AfterMessage
end_at (byte ∷ bytes) None = Cut

-- what is held of a message that has not come to its end, and the fault that the stream came to
pub record Feed : Type 0 where
  pub held : List ℕ
  pub fault : Option MessageFault

abbrev pub nothing_fed : Feed
nothing_fed = record { held = []; fault = None }

abbrev pub StreamAnswer : Type 0
StreamAnswer = Option (Result Message MessageFault)

-- what is answered where the bytes of a message so far are these, and what is held then
abbrev pub AnswersFor : List ℕ → StreamAnswer → Feed → Type 0
AnswersFor t None new = (length t < 27) × (new ≡ record { held = t; fault = None })
AnswersFor t (Some (Ok m)) new = (length t ≡ 27) × SpellsMessage t m × (new ≡ nothing_fed)
AnswersFor t (Some (Err e)) new = (length t ≡ 27) × IsFirstMessageFault t e × (new ≡ record { held = []; fault = Some e })

-- before any fault, of a piece: how many bytes are taken, all unless they end a message, and what is answered for the
-- bytes held followed by those taken
pub record Feeds (old : Feed) (piece : List ℕ) (answered : ℕ × StreamAnswer) (new : Feed) : Type 0 where
  pub some : answered.0 ≤ length piece
  pub all : answered.1 ≡ None → answered.0 ≡ length piece
  pub answer : AnswersFor (old.held ++ take answered.0 piece) answered.1 new

-- a call: the bytes that it took, and what it answered
pub record StreamCall : Type 0 where
  pub taken : List ℕ
  pub answer : StreamAnswer

abbrev pub message_in : StreamAnswer → List Message
message_in None = []
message_in (Some (Ok m)) = m ∷ []
message_in (Some (Err e)) = []

-- all bytes that were taken, and all messages that were answered
abbrev pub taken_in : List StreamCall → List ℕ
taken_in [] = []
taken_in (call ∷ calls) = call.taken ++ taken_in calls

abbrev pub messages_in : List StreamCall → List Message
messages_in [] = []
messages_in (call ∷ calls) = message_in call.answer ++ messages_in calls

-- calls one after the other, up to the one that meets a fault
abbrev pub IsRunOfCalls : Feed → List StreamCall → Feed → Type 0
IsRunOfCalls old [] new = new ≡ old
IsRunOfCalls old (call ∷ calls) new =
    (next : Feed) × (old.fault ≡ None) × AnswersFor (old.held ++ call.taken) call.answer next × IsRunOfCalls next calls new
