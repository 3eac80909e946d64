-- The events at a place, in order, where they are recorded (this project's own).
use Rattle.std.specs.Prelude.{◌≡◌, ◌++◌, List, Option, Some, None, IfSome}

-- where events are recorded, these came after all earlier ones
abbrev pub Passes : {A : Type 0} → Option (List A) → Option (List A) → List A → Type 0
Passes None None more = Unit {0}
Passes (Some old) None more = Unit {0}
Passes None (Some new) more = ⊥
Passes (Some old) (Some new) more = new ≡ old ++ more

-- where events are recorded, this came last
abbrev pub EndsWith : {A : Type 0} → Option (List A) → List A → Type 0
EndsWith {A} told last = IfSome told (λ all. (before : List A) × (all ≡ before ++ last))
