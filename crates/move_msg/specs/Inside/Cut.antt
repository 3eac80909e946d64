-- Bytes without a certain one.
use Rattle.std.specs.Prelude.{◌≢◌, ℕ, List, [], ◌∷◌}

abbrev pub LacksByte : ℕ → List ℕ → Type 0
LacksByte byte [] = Unit {0}
LacksByte byte (b ∷ others) = (b ≢ byte) × LacksByte byte others
