-- Lines that are noted, and refusals as their words (this project's own).
use Rattle.std.specs.Prelude.{◌≡◌, ℕ, List, [], ◌∷◌, Result, Ok, Err, String, string_bytes}
use Rattle.std.specs.Global.{Global}
use Rattle.answer_parts.specs.Lines.{refusal_words}
use Rattle.answer_parts.specs.declared.answers.refusals.Refusal.{Refusal}
use Rattle.timeline.specs.Events.{Event, Noted}

-- a line is noted, unless memory for it was refused
abbrev pub noted_if : {E : Type 0} → Result (String Global) E → List Event
noted_if (Ok line) = Noted (string_bytes line) ∷ []
noted_if (Err e) = []

-- this line is noted; or memory for it was refused, of which no cause is known
pub data MayNote (line : List ℕ) (events : List Event) : Type 0 where
  IsNoted : events ≡ Noted line ∷ [] → MayNote line events
  NotNoted : events ≡ [] → MayNote line events

-- after an event this line is noted, or memory for it was refused
pub record ThenMayNote (first : Event) (line : List ℕ) (events : List Event) : Type 0 where
  pub noting : List Event
  pub notes : MayNote line noting
  pub all : events ≡ first ∷ noting

-- what a call gave, or the words of its refusal
abbrev pub in_words : {A : Type 0} → Result A Refusal → Result A (List ℕ)
in_words (Ok a) = Ok a
in_words (Err refusal) = Err (refusal_words refusal)
