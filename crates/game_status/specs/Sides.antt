-- How far a folder has come with one game, by its files alone (this project's own); no move is judged.
use Rattle.std.specs.Prelude.{◌≡◌, ℕ, List, Option, Some, None}
use Rattle.move_msg.specs.declared.record_bytes.Record.{Record as Records}
use Rattle.move_msg.specs.Records.{SpellsRecord}

-- the record is of this stamp and delay
abbrev pub IsOfStamp : Records → List ℕ → ℕ → Type 0
IsOfStamp r stamp delay = (r.stamp ≡ stamp) × (r.delay ≡ delay)

-- nothing is kept; or the bytes spell this record, which is of the stamp and the delay
abbrev pub IsRecorded : List ℕ → ℕ → Option (List ℕ) → Option Records → Type 0
IsRecorded stamp delay None None = Unit {0}
IsRecorded stamp delay None (Some r) = ⊥
IsRecorded stamp delay (Some bytes) None = ⊥
IsRecorded stamp delay (Some bytes) (Some r) = SpellsRecord bytes r × IsOfStamp r stamp delay
