-- The files of a folder's store (this project's own), as they are read while a host may be writing them.
use Rattle.std.specs.Prelude.{◌⊎◌, ◌++◌, ◌∷◌, ℕ, List, codes, take}
use Rattle.std.specs.List.{Contains}

-- the name of a store's database, and that of the log beside it
abbrev pub store_name : List ℕ
store_name = codes "games.db"

abbrev pub log_name : List ℕ
log_name = codes "games.db-wal"

-- that of the journal which SQLite leaves beside a database that it wrote without a log, where it was stopped
abbrev pub journal_name : List ℕ
journal_name = codes "games.db-journal"

-- among these names is half of a store: the log without the database; or a journal, without which the database isn't what it was
abbrev pub HasHalfStore : List (List ℕ) → Type 0
HasHalfStore names = (Contains names log_name × (Contains names store_name → ⊥)) ⊎ Contains names journal_name

-- the file of this name in the folder
abbrev pub path_in : List ℕ → List ℕ → List ℕ
path_in folder name = folder ++ 47 ∷ name

-- the path of the store of a folder: that of its database
abbrev pub store_path : List ℕ → List ℕ
store_path folder = path_in folder store_name

-- what SQLite's log begins with (its "Database File Format", 4.1). The salts, which are among these bytes, change when the log begins anew
abbrev pub log_head : List ℕ → List ℕ
log_head = take 32
