-- What a store has of games (this project's own).
use Rattle.std.specs.Prelude.{ℕ, List, Option, option_map}
use Rattle.system_io.specs.Records.{Records}

-- the record of the game with this stamp, if there is one
abbrev pub bytes_at : Records → List ℕ → Option (List ℕ)
bytes_at records stamp = option_map (λ r. r.bytes) (records stamp)
