-- How a command ends, as events (this project's own).
use Rattle.std.specs.Prelude.{◌≡◌, ◌⊎◌, ◌++◌, ℕ, List, [], ◌∷◌, Option, Result, Ok, Err, OnErr, codes}
use Rattle.answer_parts.specs.Printing.{OutputFails, Performs}
use Rattle.system_io.specs.declared.output.WriteFault.{WriteFault}
use Rattle.timeline.specs.Events.{Event, Flushed, Noted, Refused}
use Rattle.timeline.specs.Outsides.{Adds, Outside}
use Rattle.timeline.specs.declared.stream.Stream.TheVariants.{Output}

abbrev pub output_lost : List ℕ
output_lost = codes "the output can't be written"

-- that the output can't be written is noted, from one moment to a later one
abbrev pub NotesLost : {T P F K S L : Type 0} → Outside T P F K S L → T → T → Type 0
NotesLost o before after = Adds o before after (Noted output_lost ∷ [])

-- whether all that was written has gone out at a moment, by the event of the last flush
abbrev pub HasFlushed : {T P F K S L : Type 0} → Outside T P F K S L → T → Event → Type 0
HasFlushed o t last = ((last ≡ Flushed Output) × (o.output t Output).gone) ⊎ ((last ≡ Refused Output) × (o.output t Output).stuck)

-- The output's end. All that was written has gone out, and the status is that of the command; or it can't, or a write was refused before,
-- which is noted, and the status is 1.
pub data Closes {T P F K S L : Type 0} (o : Outside T P F K S L) (after : T) (answered : Result ℕ WriteFault) (status : ℕ) (events : List Event) : Type 0 where
  GoneOut : answered ≡ Ok status → (o.output after Output).gone → events ≡ Flushed Output ∷ [] → Closes o after answered status events
  NotOut : (done : ℕ) (lost : T) → answered ≡ Ok done → (o.output lost Output).stuck → NotesLost o lost after → events ≡ Refused Output ∷ Noted output_lost ∷ [] → status ≡ 1 → Closes o after answered status events
  WasRefused : (fault : WriteFault) (last : Event) (lost : T) → answered ≡ Err fault → HasFlushed o lost last → NotesLost o lost after → events ≡ last ∷ Noted output_lost ∷ [] → status ≡ 1 → Closes o after answered status events

-- all that happens: what the command does, and then the output's end
pub record Ends {T P F K S L : Type 0} (o : Outside T P F K S L) (after : T) (Does : List Event → Option ℕ → Type 0) (status : ℕ) (events : List Event) : Type 0 where
  pub answered : Result ℕ WriteFault
  pub done : List Event
  pub closing : List Event
  pub all : events ≡ done ++ closing
  pub performs : Performs Does answered done
  pub cause : OnErr answered (OutputFails o)
  pub closes : Closes o after answered status closing
