-- The folder of the games that `host` serves, as it is listed (this project's own).
use Rattle.std.specs.Prelude.{◌≡◌, ◌++◌, ℕ, List, [], ◌∷◌, Result, Ok, Err, codes}
use Rattle.std.specs.List.{Contains}
use Rattle.arbiter_server.specs.ServedLines.{refused_store}
use Rattle.command_line.specs.declared.words.numbers.StoreForm.{StoreForm}
use Rattle.command_line.specs.declared.words.numbers.StoreForm.TheVariants as form
use Rattle.game_status.specs.StoreReadings.{HasHalfStore, store_name}
use Rattle.line_teller.specs.ToldLines.{cut_words}
use Rattle.system_io.specs.Disks.{AtFolder, DiskFacts}
use Rattle.system_io.specs.declared.reading.ReadFault.{ReadFault}
use Rattle.system_io.specs.declared.reading.ReadFault.TheVariants as read
use Rattle.timeline.specs.Events.{Event, FolderListed}
use Rattle.host_commands.specs.Notes.{ThenMayNote}

abbrev pub half_store : List ℕ
half_store = codes "games.db-wal without games.db, or games.db-journal: half of a store"

abbrev pub unwanted_store : List ℕ
unwanted_store = codes "games.db, and --store is files"

-- what of these names bars a folder from being served: it has half of a store; or it has one, and records are to be in files
module _ (where_kept : StoreForm) (names : List (List ℕ)) where
  pub data Clashes (what : List ℕ) : Type 0 where
    HalfStore : HasHalfStore names → what ≡ half_store → Clashes what
    UnwantedStore : (HasHalfStore names → ⊥) → where_kept ≡ form.Files → Contains names store_name → what ≡ unwanted_store → Clashes what

abbrev pub clash_line : List ℕ → List ℕ → List ℕ
clash_line folder what = folder ++ (codes " has " ++ what)

-- the folder is listed, and has these names
pub record HasNames (disk : DiskFacts) (folder : List ℕ) (names : List (List ℕ)) (events : List Event) : Type 0 where
  pub lists : disk.lists folder names
  pub is : events ≡ FolderListed folder (Ok names) ∷ []

-- or it can't be listed
pub record LacksNames (disk : DiskFacts) (folder : List ℕ) (fault : ReadFault) (events : List Event) : Type 0 where
  pub cause : fault ≡ read.Unreadable → disk.fails (AtFolder folder)
  pub is : events ≡ FolderListed folder (Err fault) ∷ []

module _ (disk : DiskFacts) (folder : List ℕ) (where_kept : StoreForm) where
  -- nothing bars it
  abbrev pub NothingBars : List (List ℕ) → Type 0
  NothingBars names = (what : List ℕ) → Clashes where_kept names what → ⊥

  -- something does, and a line is noted that says so
  pub record IsBarredBy (what : List ℕ) (events : List Event) : Type 0 where
    pub names : List (List ℕ)
    pub lists : disk.lists folder names
    pub clash : Clashes where_kept names what
    pub notes : ThenMayNote (FolderListed folder (Ok names)) (clash_line folder what) events

  pub data ListsGames (result : Result (Unit {0}) (List ℕ)) (events : List Event) : Type 0 where
    IsListed : (names : List (List ℕ)) → HasNames disk folder names events → NothingBars names → result ≡ Ok tt → ListsGames result events
    IsBarred : (what : List ℕ) → IsBarredBy what events → result ≡ Err refused_store → ListsGames result events
    IsNotListed : (fault : ReadFault) → LacksNames disk folder fault events → result ≡ Err (cut_words fault) → ListsGames result events
