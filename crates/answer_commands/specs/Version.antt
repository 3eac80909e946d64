-- `version`: the program's version (this project's own).
use Rattle.std.specs.Prelude.{◌≡◌, ℕ, List, [], ◌∷◌, Option, Some, codes}
use Rattle.timeline.specs.Events.{Event, Wrote}
use Rattle.timeline.specs.declared.stream.Stream.TheVariants.{Output}

-- one line
abbrev pub version_text : List ℕ
version_text = codes "adjudicate 1.0.0\n"

-- it is written, and nothing is read
abbrev pub PrintsVersion : List Event → Option ℕ → Type 0
PrintsVersion events status = (events ≡ Wrote Output version_text ∷ []) × (status ≡ Some 0)
