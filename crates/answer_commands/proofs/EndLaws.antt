-- What the output's end leaves, and why something isn't read.
use Rattle.std.proofs.Common.{◌≡◌, ◌∷◌, ◌++◌, [], ℕ, List, Option, inl, inr, refl}
use Rattle.std.specs.Prelude.{Result, Ok, Err, IsErrOf, OnErr}
use Rattle.answer_parts.specs.Printing.{OutputFails, Performs}
use Rattle.system_io.specs.Inputs.{InputFacts}
use Rattle.system_io.specs.declared.output.WriteFault.{WriteFault}
use Rattle.system_io.specs.declared.reading.ReadFault.{ReadFault}
use Rattle.system_io.specs.declared.reading.ReadFault.TheVariants.{OutOfMemory, Unreadable}
use Rattle.timeline.proofs.EventLaws.{adds_more}
use Rattle.timeline.specs.Events.{Event, Flushed, Noted, Refused}
use Rattle.timeline.specs.Outsides.{Adds, AddsSome, Outside}
use Rattle.timeline.specs.declared.stream.Stream.TheVariants.{Output}
use Rattle.answer_commands.specs.Endings.{Closes, Ends, NotOut, NotesLost, WasRefused, output_lost}
use Rattle.answer_commands.specs.Inputs.{IsUnread}

-- ---- the end

-- what was written can't go out, whatever was answered
pub not_out : {T P F K S L : Type 0} (o : Outside T P F K S L) (a b c : T) (answered : Result ℕ WriteFault) (status : ℕ) → (o.output b Output).stuck → status ≡ 1
    → Adds o a b (Refused Output ∷ []) → NotesLost o b c → AddsSome o a c (Closes o c answered status)
not_out o a b c answered status stuck one p q = (
  Refused Output ∷ Noted output_lost ∷ [],
  adds_more o a b c (Refused Output ∷ []) (Noted output_lost ∷ []) p q,
  by_answer answered,
)
  where
    by_answer : (answered : Result ℕ WriteFault) → Closes o c answered status (Refused Output ∷ Noted output_lost ∷ [])
    by_answer (Ok done) = NotOut done b refl stuck q refl one
    by_answer (Err fault) = WasRefused fault (Refused Output) b refl (inr (refl, stuck)) q refl one

-- it went out, but a write was refused before
pub was_refused : {T P F K S L : Type 0} (o : Outside T P F K S L) (a b c : T) (answered : Result ℕ WriteFault) (fault : WriteFault) (status : ℕ) → answered ≡ Err fault → status ≡ 1 → (o.output b Output).gone
    → Adds o a b (Flushed Output ∷ []) → NotesLost o b c → AddsSome o a c (Closes o c answered status)
was_refused o a b c answered fault status is one gone p q = (
  Flushed Output ∷ Noted output_lost ∷ [],
  adds_more o a b c (Flushed Output ∷ []) (Noted output_lost ∷ []) p q,
  WasRefused fault (Flushed Output) b is (inl (refl, gone)) q refl one,
)

-- what was done, and then the end
pub ends_so : {T P F K S L : Type 0} (o : Outside T P F K S L) (a b c : T) (Does : List Event → Option ℕ → Type 0) (answered : Result ℕ WriteFault) (status : ℕ) → AddsSome o a b (Performs Does answered) → OnErr answered (OutputFails o) → AddsSome o b c (Closes o c answered status) → AddsSome o a c (Ends o c Does status)
ends_so o a b c Does answered status done cause closing =
    (done.0 ++ closing.0, adds_more o a b c done.0 closing.0 done.1 closing.1, record { answered = answered; done = done.0; closing = closing.0; all = refl; performs = done.2; cause = cause; closes = closing.2 })

-- ---- what isn't read

pub unread_by : {X : Type 0} (input : InputFacts) (r : Result X ReadFault) (fault : ReadFault) → r ≡ Err fault → (IsErrOf r Unreadable → input.fails) → (IsErrOf r OutOfMemory → input.takes_memory) → IsUnread input fault
unread_by input r Unreadable e p q = p e
unread_by input r OutOfMemory e p q = q e
