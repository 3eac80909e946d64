-- Lines. Only private clauses cite these words.
use Rattle.std.specs.Prelude.{◌≢◌, ℕ, List}
use Rattle.std.specs.List.{All}

-- there is no line feed in a line
abbrev pub OneLine : List ℕ → Type 0
OneLine line = All (λ b. b ≢ 10) line
