-- Records that are kept in files (this project's own).
use Rattle.std.specs.Prelude.{◌≡◌, ℕ, Bool, true, false, List, [], ◌∷◌, Option, Some, None, Result, Ok, Err, IfOk, IsOk, option_map}
use Rattle.arbiter_server.specs.declared.fault.OpenGameError.{OpenGameError}
use Rattle.arbiter_server.specs.declared.fault.OpenGameError.TheVariants as unopened
use Rattle.system_io.specs.KeptFiles.{CannotStart, IsOneOfFound}
use Rattle.system_io.specs.declared.reading.ReadFault.{ReadFault}
use Rattle.system_io.specs.declared.reading.ReadFault.TheVariants as read
use Rattle.timeline.specs.Events.{Event, FileOpened, Found, Put, is_done}
use Rattle.timeline.specs.Outsides.{Outside}
use Rattle.game_folder.specs.Drafts.{settled}
use Rattle.game_folder.specs.Holdings.{kept_of}
use Rattle.game_folder.specs.declared.games.KeptGame.{KeptGame}

-- what comes of a record in whose file a start found this
abbrev pub started : Result (Option (List ℕ)) ReadFault → Result (Option (List ℕ)) OpenGameError
started (Ok got) = Ok got
started (Err read.Unreadable) = Err unopened.Keeper
started (Err read.OutOfMemory) = Err unopened.OutOfMemory

-- By these events the record in the file at a path is taken, with what comes of it: memory was refused before anything was done, or to open
-- the file; or a start read it.
pub data TakesFromFile (path : List ℕ) (result : Result (Option (List ℕ)) OpenGameError) (events : List Event) : Type 0 where
  HadNoRoom : result ≡ Err unopened.OutOfMemory → events ≡ [] → TakesFromFile path result events
  NotOpened : result ≡ Err unopened.OutOfMemory → events ≡ FileOpened path false ∷ [] → TakesFromFile path result events
  Started : (got : Result (Option (List ℕ)) ReadFault) → result ≡ started got → events ≡ FileOpened path true ∷ Found path got ∷ [] → TakesFromFile path result events

-- bytes are put in the file at a path, or that fails
abbrev pub puts_in_file : List ℕ → List ℕ → Bool → List Event
puts_in_file path bytes done = Put path bytes done ∷ []

module _ {T P F K S L : Type 0} (o : Outside T P F K S L) where
  -- a start over a file at this path comes to this: what it reads is one of what every start is claimed to be among; or it fails for a cause
  abbrev pub StartGives : List ℕ → Result (Option (List ℕ)) ReadFault → Type 0
  StartGives path (Ok got) = (file : F) × (o.path file ≡ path) × IsOneOfFound (o.file file) got
  StartGives path (Err why) = (file : F) × (o.path file ≡ path) × CannotStart (o.file file) why

  -- what is known of these events: of a file that isn't opened, and of a start
  pub record IsKnownOfFile (path : List ℕ) (events : List Event) : Type 0 where
    pub opened : events ≡ FileOpened path false ∷ [] → o.takes_memory path
    pub started : (got : Result (Option (List ℕ)) ReadFault) → events ≡ FileOpened path true ∷ Found path got ∷ [] → StartGives path got

  -- the record of the game with this stamp is kept in the file at a path, and nothing is to be put
  pub record IsFiledAt (path stamp : List ℕ) (game : KeptGame F) : Type 0 where
    pub of : game.stamp ≡ stamp
    pub at : option_map o.path game.file ≡ Some path
    pub clean : game.draft.to_put ≡ None

  -- a start read it there, or could not
  pub record StartsFile (path stamp : List ℕ) (result : Result (KeptGame F) OpenGameError) (events : List Event) : Type 0 where
    pub got : Result (Option (List ℕ)) ReadFault
    pub found : events ≡ Found path got ∷ []
    pub taken : kept_of result ≡ started got
    pub gives : StartGives path got
    pub ok : IfOk result (IsFiledAt path stamp)

  -- it was taken, or can't be
  pub record TakesFile (path stamp : List ℕ) (result : Result (KeptGame F) OpenGameError) (events : List Event) : Type 0 where
    pub taken : TakesFromFile path (kept_of result) events
    pub known : IsKnownOfFile path events
    pub ok : IfOk result (IsFiledAt path stamp)

  -- what a game has to put is put in its file, or that fails
  pub record PutsFile {A E : Type 0} (before after : KeptGame F) (result : Result A E) (events : List Event) : Type 0 where
    pub of : after.stamp ≡ before.stamp
    pub at : option_map o.path after.file ≡ option_map o.path before.file
    pub draft : after.draft ≡ settled before.draft
    pub none : before.draft.to_put ≡ None → (events ≡ []) × IsOk result
    pub some : (path bytes : List ℕ) → option_map o.path before.file ≡ Some path → before.draft.to_put ≡ Some bytes → events ≡ puts_in_file path bytes (is_done result)
