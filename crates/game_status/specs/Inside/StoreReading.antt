-- Records that are kept in turn; cited by private functions alone.
use Rattle.std.specs.Prelude.{◌≡◌, ℕ, List, Some, if◌then◌else◌}
use Rattle.std.specs.Str.{bytes_eq}
use Rattle.system_io.specs.declared.record_store.Entry.{Entry}
use Rattle.game_status.specs.StoredDisks.{RecordBytes}

-- the record of this entry is kept in place of what was kept of its game
abbrev pub PutsRecord : Entry → RecordBytes → RecordBytes → Type 0
PutsRecord e old new = (stamp : List ℕ) → new stamp ≡ if bytes_eq e.stamp stamp then Some e.record.items else old stamp
