-- The text of a game in its file, as events (this project's own).
use Rattle.std.specs.Prelude.{◌≡◌, ◌≢◌, ◌++◌, ℕ, Bool, true, false, List, [], ◌∷◌, Option, Some, None, Result, Ok, Err, IsSome}
use Rattle.system_io.specs.Failures.{Risen}
use Rattle.system_io.specs.KeptFiles.{CannotStart, FindsOldOrNew, IsOneOfFound, KeptFacts}
use Rattle.system_io.specs.declared.reading.ReadFault.{ReadFault}
use Rattle.system_io.specs.declared.reading.ReadFault.TheVariants as read
use Rattle.timeline.specs.Events.{Event, FileOpened, Found, Put}
use Rattle.timeline.specs.Outsides.{Outside}
use Rattle.answer_commands.specs.declared.keeping.GameText.{GameText}
use Rattle.answer_commands.specs.declared.keeping.GameText.TheVariants.{Stood, Written}
use Rattle.answer_commands.specs.declared.keeping.KeepFault.{KeepFault}
use Rattle.answer_commands.specs.declared.keeping.KeepFault.TheVariants.{Exists, Keeper, OutOfMemory}

-- what was found may be replaced: a game that has to be new has no file
abbrev pub IsReplaceable : Bool → Option (List ℕ) → List ℕ → Type 0
IsReplaceable is_new found text = (found ≢ Some text) × (is_new ≡ true → found ≡ None)

-- Over what a start found in an open file: it is the text, and is left; or the game has to be new, and the file is there, whatever its text,
-- and is left; or the text is put in its place, once, and each later start finds it; or that fails, since a call for the file does, and a
-- start finds what was there before, or the text.
pub data KeepsOver {T P F K S L : Type 0} (o : Outside T P F K S L) (is_new : Bool) (file after : F) (found : Option (List ℕ)) (text : List ℕ) (result : Result GameText KeepFault) (events : List Event) : Type 0 where
  Stands : is_new ≡ false → found ≡ Some text → after ≡ file → events ≡ [] → result ≡ Ok Stood → KeepsOver o is_new file after found text result events
  IsThere : is_new ≡ true → IsSome found → after ≡ file → events ≡ [] → result ≡ Err Exists → KeepsOver o is_new file after found text result events
  IsPut : IsReplaceable is_new found text → (o.file after).finds (Some text) (Some text) → events ≡ Put (o.path file) text true ∷ [] → result ≡ Ok Written → KeepsOver o is_new file after found text result events
  IsNotPut : IsReplaceable is_new found text → FindsOldOrNew (o.file after) found text → Risen (o.file file).faults (o.file after).faults → events ≡ Put (o.path file) text false ∷ [] → result ≡ Err Keeper → KeepsOver o is_new file after found text result events

-- a file before a start and after it: the file of the same path, in which every start still finds what it found before
pub record IsSameFile {T P F K S L : Type 0} (o : Outside T P F K S L) (path : List ℕ) (file after : F) : Type 0 where
  pub at : o.path file ≡ path
  pub stays : o.path after ≡ path
  pub same : (a b : Option (List ℕ)) → (o.file file).finds a b → (o.file after).finds a b

-- this is one of those that a start might find, and each later start finds it
pub record Finds {T P F K S L : Type 0} (o : Outside T P F K S L) (file after : F) (found : Option (List ℕ)) : Type 0 where
  pub one : IsOneOfFound (o.file file) found
  pub lasts : (o.file after).finds found found
  pub count : (o.file after).faults ≡ (o.file file).faults

abbrev pub start_fault : ReadFault → KeepFault
start_fault read.Unreadable = Keeper
start_fault read.OutOfMemory = OutOfMemory

-- The text of a game in the file at a path: the file is opened, what a start finds there is read, and what follows is as above; or it can't
-- be brought to the disk or read; or memory for it was refused.
pub data KeepsText {T P F K S L : Type 0} (o : Outside T P F K S L) (is_new : Bool) (path text : List ℕ) (result : Result GameText KeepFault) (events : List Event) : Type 0 where
  Over : (opened started after : F) (found : Option (List ℕ)) (last : List Event) → IsSameFile o path opened started → Finds o opened started found → KeepsOver o is_new started after found text result last → events ≡ FileOpened path true ∷ Found path (Ok found) ∷ last → KeepsText o is_new path text result events
  NotStarted : (opened : F) (fault : ReadFault) → o.path opened ≡ path → CannotStart (o.file opened) fault → result ≡ Err (start_fault fault) → events ≡ FileOpened path true ∷ Found path (Err fault) ∷ [] → KeepsText o is_new path text result events
  NotOpened : o.takes_memory path → result ≡ Err OutOfMemory → events ≡ FileOpened path false ∷ [] → KeepsText o is_new path text result events
