-- What is read of an input for its games, line by line (this project's own).
use Rattle.std.specs.Prelude.{◌≡◌, ◌++◌, Bool, List, [], ◌∷◌, ℕ, map, Option, Some, None, Result, Ok, Err}
use Rattle.std.specs.Io.KnownBytes.{Consumes, IsAtEnd}
use Rattle.system_io.specs.LineReaders.{ReadsLine}
use Rattle.system_io.specs.declared.reading.ReadFault.{ReadFault}
use Rattle.system_io.specs.declared.reading.ReadFault.TheVariants.{OutOfMemory}
use Rattle.timeline.specs.Events.{Event, LineRead}
use Rattle.timeline.specs.Outsides.{AddsSome, Outside}

-- what a line was asked for gave: the line, or that there is none; and whether all of it had come before
pub record LineAsked : Type 0 where
  pub line : Option (List ℕ)
  pub had_come : Bool

-- the next line of what is left; or there is none at its end
abbrev pub IsNextLine : Option (List ℕ) → Option (List ℕ) → Option (List ℕ) → Type 0
IsNextLine left now (Some line) = ReadsLine left now line
IsNextLine left now None = IsAtEnd left × Consumes left now []

-- these were given, one after the other, and this is left then
unfoldable pub AreNextLines : Option (List ℕ) → List LineAsked → Option (List ℕ) → Type 0
AreNextLines left [] now = now ≡ left
AreNextLines left (a ∷ others) now = (mid : Option (List ℕ)) × IsNextLine left mid a.line × AreNextLines mid others now

abbrev pub line_asked : LineAsked → Event
line_asked a = LineRead (Ok a.line) a.had_come

-- the next lines were read, up to the input's end at most, and nothing else happened
pub record ReadsLines (left now : Option (List ℕ)) (events : List Event) : Type 0 where
  pub asked : List LineAsked
  pub lines : AreNextLines left asked now
  pub is : events ≡ map line_asked asked

-- Lines were read, and no more are: the next one can't be read, or there is no memory for it; or memory is refused for what was read. Nothing
-- is read behind that.
pub data FailsToRead (left : Option (List ℕ)) (fault : ReadFault) (events : List Event) : Type 0 where
  LineFails : (mid : Option (List ℕ)) (before : List Event) (had_come : Bool) → ReadsLines left mid before → events ≡ before ++ LineRead (Err fault) had_come ∷ [] → FailsToRead left fault events
  NoRoomForLines : (mid : Option (List ℕ)) → ReadsLines left mid events → fault ≡ OutOfMemory → FailsToRead left fault events

-- what is read for something that comes of the next lines, or that can't be read
abbrev pub ReadsFor : {A : Type 0} → Option (List ℕ) → Option (List ℕ) → Result A ReadFault → List Event → Type 0
ReadsFor left now (Ok a) events = ReadsLines left now events
ReadsFor left now (Err fault) events = FailsToRead left fault events

-- from one moment to another nothing happened but that some lines were read for something, or couldn't be
abbrev pub ReadsLinesFor : {T P F K S L A : Type 0} → Outside T P F K S L → L → L → T → T → Result A ReadFault → Type 0
ReadsLinesFor o lines lines' t t' result = AddsSome o t t' (ReadsFor (o.lines lines).left (o.lines lines').left result)
