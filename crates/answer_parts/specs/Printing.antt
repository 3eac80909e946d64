-- What a command writes, as events (this project's own).
use Rattle.std.specs.Prelude.{◌≡◌, ◌++◌, ℕ, List, [], ◌∷◌, Option, Some, Result, Ok, Err, map, take}
use Rattle.std.specs.List.{flat_map}
use Rattle.answer_parts.specs.Asked.{reply_of}
use Rattle.answer_parts.specs.Reply.{Reply}
use Rattle.answer_parts.specs.declared.answers.Answer.{Answer}
use Rattle.line_teller.specs.ToldLines.{HasFailed, refused_memory}
use Rattle.move_msg.specs.TextLines.{ended}
use Rattle.system_io.specs.declared.output.WriteFault.{WriteFault}
use Rattle.timeline.specs.Events.{Event, Flushed, Refused, Wrote}
use Rattle.timeline.specs.Outsides.{Outside}
use Rattle.timeline.specs.declared.stream.Stream.TheVariants.{Output}

-- lines that are written to the output, each at once
abbrev pub printed : List (List ℕ) → List Event
printed lines = map (λ line. Wrote Output (ended line)) lines

-- these lines are written, and this is what it comes to, as a command's status
abbrev pub Prints : {X : Type 0} → List (List ℕ) → X → List Event → Option X → Type 0
Prints lines status events is = (events ≡ printed lines) × (is ≡ Some status)

-- A front of some events: a write among them was refused, of whose bytes a front was written; or what was written before couldn't go out at a
-- flush among them. What came before that came, and nothing after it.
pub data IsCutIn (all events : List Event) : Type 0 where
  AtWrite : (before : List Event) (bytes : List ℕ) (after : List Event) → all ≡ before ++ Wrote Output bytes ∷ after → (count : ℕ) → events ≡ before ++ Wrote Output (take count bytes) ∷ Refused Output ∷ [] → IsCutIn all events
  AtFlush : (before after : List Event) → all ≡ before ++ Flushed Output ∷ after → events ≡ before ++ Refused Output ∷ [] → IsCutIn all events

-- What is done: all its events, with what it comes to, as a command's status; or, where the output failed, a front of them.
-- `Does events (Some x)` says that these are all, and `Does events None` that it does these first, and goes on.
abbrev pub Performs : {X : Type 0} → (List Event → Option X → Type 0) → Result X WriteFault → List Event → Type 0
Performs Does (Ok x) events = Does events (Some x)
Performs {X} Does (Err fault) events = (all : List Event) × (is : Option X) × Does all is × IsCutIn all events

-- these lines are written, or a front of them
abbrev pub ArePrinted : {A E : Type 0} → List (List ℕ) → Result A E → List Event → Type 0
ArePrinted lines (Ok x) events = events ≡ printed lines
ArePrinted lines (Err e) events = IsCutIn (printed lines) events

-- at some moment a write might be refused, or what was written couldn't go out
abbrev pub OutputFails : {T P F K S L : Type 0} → Outside T P F K S L → Type 0
OutputFails o = HasFailed (λ t. o.output t Output)

-- ---- replies

-- a text is written, in some pieces
pub record WritesText (text : List ℕ) (events : List Event) : Type 0 where
  pub pieces : List (List ℕ)
  pub whole : flat_map (λ piece. piece) pieces ≡ text
  pub written : events ≡ map (Wrote Output) pieces

-- the text of a reply is written, and its status is the status
abbrev pub PrintsReply : Reply → List Event → Option ℕ → Type 0
PrintsReply reply events status = WritesText reply.text events × (status ≡ Some reply.status)

-- so it is of this text and this status
abbrev pub PrintsText : List ℕ → ℕ → List Event → Option ℕ → Type 0
PrintsText text status = PrintsReply (record { text = text; status = status })

-- so it is of an answer, or it is written that memory was refused for it
abbrev pub PrintsReplied : {E : Type 0} → Result Answer E → List Event → Option ℕ → Type 0
PrintsReplied (Ok answer) events status = PrintsReply (reply_of answer) events status
PrintsReplied (Err e) events status = Prints (refused_memory ∷ []) 1 events status
