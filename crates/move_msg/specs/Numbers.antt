-- How long a game may be (this project's own).
use Rattle.std.specs.Prelude.{ℕ}

abbrev pub most_moves : ℕ
most_moves = 4096

-- how many moves an arbiter may ask for at once
abbrev pub most_wanted : ℕ
most_wanted = 8
