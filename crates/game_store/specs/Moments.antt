-- From one moment of a database to a later one (this project's own).
use Rattle.std.specs.Prelude.{IsTrue}
use Rattle.sqlite.specs.State.{State, HasCleanDisk}

-- so it is where the disk has returned what was written
abbrev pub WhereTrusted : (State → State → Type 0) → State → State → Type 0
WhereTrusted Q old new = HasCleanDisk new → Q old new

-- so it is there in a transaction
abbrev pub InTransaction : (State → State → Type 0) → State → State → Type 0
InTransaction Q old new = HasCleanDisk new → IsTrue old.in_transaction → Q old new
