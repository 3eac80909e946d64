-- What a command does, and a text that it writes at once, as events (this project's own).
use Rattle.std.specs.Prelude.{◌≡◌, ◌++◌, ℕ, List, [], ◌∷◌, Option, Some}
use Rattle.timeline.specs.Events.{Event, Wrote}
use Rattle.timeline.specs.declared.stream.Stream.TheVariants.{Output}

-- all events of a command with its status, or the first of them with none
abbrev pub Doing : Type 1
Doing = List Event → Option ℕ → Type 0

-- the text is written, and the status is 0
abbrev pub WritesText : List ℕ → Doing
WritesText text events status = (events ≡ Wrote Output text ∷ []) × (status ≡ Some 0)

-- this is done for each of some, one after the other
abbrev pub DoesEach : {A B : Type 0} → (A → B → List Event → Type 0) → List A → List B → List Event → Type 0
DoesEach Does [] [] events = events ≡ []
DoesEach Does [] (b ∷ bs) events = ⊥
DoesEach Does (a ∷ others) [] events = ⊥
DoesEach Does (a ∷ others) (b ∷ bs) events = (first : List Event) × (rest : List Event) × Does a b first × DoesEach Does others bs rest × (events ≡ first ++ rest)
