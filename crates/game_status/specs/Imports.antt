-- Records of files that may go over into a store (this project's own).
use Rattle.std.specs.Prelude.{◌≡◌, ℕ, List, length}
use Rattle.system_io.specs.declared.record_store.Entry.{Entry}
use Rattle.move_msg.specs.Records.{SpellsRecord}
use Rattle.move_msg.specs.declared.record_bytes.Record.{Record}

-- a record has at most so many bytes
abbrev pub most_kept : ℕ
most_kept = 8217

-- the bytes are a record of the game with this stamp, of so many moves
abbrev pub IsRecordOf : List ℕ → ℕ → List ℕ → Type 0
IsRecordOf stamp count bytes = (r : Record) × SpellsRecord bytes r × (r.stamp ≡ stamp) × (count ≡ length r.moves)

abbrev pub IsNoRecordOf : List ℕ → List ℕ → Type 0
IsNoRecordOf stamp bytes = (r : Record) → SpellsRecord bytes r → r.stamp ≡ stamp → ⊥

abbrev pub IsEntryOf : List ℕ → List ℕ → Entry → Type 0
IsEntryOf stamp bytes e = (e.stamp ≡ stamp) × (e.record.items ≡ bytes) × IsRecordOf stamp e.count bytes
