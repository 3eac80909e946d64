-- What a command does, one step after another (this project's own).
use Rattle.std.specs.Prelude.{◌≡◌, ◌++◌, ℕ, List, [], ◌∷◌, Option, Some, None, Result, Ok, Err}
use Rattle.answer_parts.specs.Printing.{printed}
use Rattle.timeline.specs.Events.{Event, Flushed, Wrote}
use Rattle.timeline.specs.declared.stream.Stream.TheVariants.{Output}

-- all events of what is done with its status, or the first of them with none
abbrev pub Doing : Type 1
Doing = List Event → Option ℕ → Type 0

-- a step: what it gave, or the words that refuse all else, by the events that came
abbrev pub Step : Type 0 → Type 1
Step A = Result A (List ℕ) → List Event → Type 0

-- nothing more happens: this is what was opened
abbrev pub AllOpen : {A : Type 0} → A → Step A
AllOpen a result events = (result ≡ Ok a) × (events ≡ [])

-- A start, as a list of steps: the first one, and then those that follow from what it gave. Where one of them is refused, the start is by the
-- same words, and none behind it is done.
module _ {A B : Type 0} (First : Step A) (Next : A → Step B) where
  pub data AndThen (result : Result B (List ℕ)) (events : List Event) : Type 0 where
    BothDone : (a : A) (first rest : List Event) → First (Ok a) first → Next a result rest → events ≡ first ++ rest → AndThen result events
    FirstIsRefused : (words : List ℕ) → First (Err words) events → result ≡ Err words → AndThen result events

-- these words are written, and nothing else
abbrev pub refused_by : List ℕ → List Event
refused_by words = printed (words ∷ [])

-- First a step, and then what follows from what it gave. Or the words by which it is refused are written, with status 1, and nothing else.
module _ {A : Type 0} (First : Step A) (Rest : A → Doing) where
  pub data ThenOrRefused (events : List Event) (status : Option ℕ) : Type 0 where
    GoesOn : (a : A) (first rest : List Event) → First (Ok a) first → Rest a rest status → events ≡ first ++ rest → ThenOrRefused events status
    IsRefused : (words : List ℕ) (first : List Event) → First (Err words) first → events ≡ first ++ refused_by words → status ≡ Some 1 → ThenOrRefused events status

-- a text was written, and all has gone out
abbrev pub gone_out : List ℕ → List Event
gone_out text = Wrote Output text ∷ Flushed Output ∷ []

-- a text goes out before all else
pub data AfterText (text : List ℕ) (Rest : Doing) (events : List Event) (status : Option ℕ) : Type 0 where
  ThenRest : (rest : List Event) → Rest rest status → events ≡ gone_out text ++ rest → AfterText text Rest events status
  TextFirst : events ≡ gone_out text → status ≡ None → AfterText text Rest events status

-- where there is one
abbrev pub AfterLine : Option (List ℕ) → Doing → Doing
AfterLine None Rest = Rest
AfterLine (Some text) Rest = AfterText text Rest
