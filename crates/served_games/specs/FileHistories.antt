-- What happens to the file of a record, call by call as `System` has them, and that its starts find what they may (this project's own).
use Rattle.std.specs.Prelude.{◌≡◌, ◌≢◌, ◌⊎◌, ℕ, true, false, List, [], ◌∷◌, Option, Some, Ok, Err}
use Rattle.system_io.specs.KeptFiles.{FindsOldOrNew, IsOneOfFound}
use Rattle.system_io.specs.declared.reading.ReadFault.{ReadFault}
use Rattle.timeline.specs.Events.{Event, Found, Put}
use Rattle.timeline.specs.Outsides.{Outside}
use Rattle.game_folder.specs.Places.{InFile}
use Rattle.served_games.specs.Durable.{IsDurable}

-- ---- a call

-- By what `start` and `put` promise, a call at the file of a path leaves this: each start finds what one found, and what was put; after a put
-- that failed, what was there or these bytes, where each start found one thing before.
pub data CallsFile {T P F K S L : Type 0} (o : Outside T P F K S L) (path : List ℕ) (old new : F) (e : Event) : Type 0 where
  Starts : (got : Option (List ℕ)) → IsOneOfFound (o.file old) got → (o.file new).finds got got → e ≡ Found path (Ok got) → CallsFile o path old new e
  StartFails : (fault : ReadFault) → ((a b : Option (List ℕ)) → (o.file old).finds a b → (o.file new).finds a b) → e ≡ Found path (Err fault) → CallsFile o path old new e
  Puts : (bytes : List ℕ) → (o.file new).finds (Some bytes) (Some bytes) → e ≡ Put path bytes true → CallsFile o path old new e
  PutFails : (bytes : List ℕ) → ((there : Option (List ℕ)) → (o.file old).finds there there → FindsOldOrNew (o.file new) there bytes) → e ≡ Put path bytes false → CallsFile o path old new e

-- ---- a history

-- where a file is: nothing is known of it; this handle left it so; or a process stopped in a put of these bytes through that
pub data FileState (F : Type 0) : Type 0 where
  Unknown : FileState F
  LeftBy : (file : F) → FileState F
  CutOff : (file : F) (bytes : List ℕ) → FileState F

-- it is no start and no put of this file
abbrev pub IsElsewhere : List ℕ → Event → Type 0
IsElsewhere path (Put at bytes is_done) = at ≢ path
IsElsewhere path (Found at got) = at ≢ path
IsElsewhere path e = Unit {0}

module _ {T P F K S L : Type 0} (o : Outside T P F K S L) where
  -- behind a put that failed a game is closed, and opened over a start: so where a put fails, each start found one thing
  abbrev pub IsBehindOne : Event → F → Type 0
  IsBehindOne (Put at bytes false) file = (there : Option (List ℕ)) × (o.file file).finds there there
  IsBehindOne e file = Unit {0}

  -- a start may find this there: what each start finds, or the bytes of a put in which a process stopped
  abbrev pub IsFoundThere : FileState F → Option (List ℕ) → Type 0
  IsFoundThere Unknown got = Unit {0}
  IsFoundThere (LeftBy file) got = IsOneOfFound (o.file file) got
  IsFoundThere (CutOff file bytes) got = IsOneOfFound (o.file file) got ⊎ (got ≡ Some bytes)

  -- What happens next. PREMISE (who else writes the file, the disk): where the file was opened anew, by this process or another one, a start
  -- finds what one may find there (`FoundAnew`).
  pub data GoesOnFile (path : List ℕ) (e : Event) : FileState F → FileState F → Type 0 where
    ByCall : (old new : F) → CallsFile o path old new e → IsBehindOne e old → GoesOnFile path e (LeftBy old) (LeftBy new)
    StopsInPut : (old : F) (bytes : List ℕ) → e ≡ Put path bytes false → GoesOnFile path e (LeftBy old) (CutOff old bytes)
    FoundAnew : (there : FileState F) (opened new : F) (got : Option (List ℕ)) → CallsFile o path opened new e → e ≡ Found path (Ok got) → IsFoundThere there got → GoesOnFile path e there (LeftBy new)
    FailsAnew : (there : FileState F) (fault : ReadFault) → e ≡ Found path (Err fault) → GoesOnFile path e there there
    Elsewhere : (there : FileState F) → IsElsewhere path e → GoesOnFile path e there there

  -- one thing after another
  abbrev pub IsFileHistory : List ℕ → FileState F → List Event → Type 0
  IsFileHistory path there [] = Unit {0}
  IsFileHistory path there (e ∷ es) = (next : FileState F) × GoesOnFile path e there next × IsFileHistory path next es

-- THE LAW: the file of a record is durable. Whatever happens to it, each start finds what may be found behind all that happened before: after a
-- put that, after a put that failed that or what was there.
abbrev pub FilesAreDurable : {T P F K S L : Type 0} → Outside T P F K S L → Type 0
FilesAreDurable o = (path stamp : List ℕ) (events : List Event) → IsFileHistory o path Unknown events → IsDurable (InFile path) stamp events
