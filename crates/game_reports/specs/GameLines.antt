-- Games that are read one by one, a line each, and counted, one event after another (this project's own).
use Rattle.std.specs.Prelude.{◌≡◌, ◌++◌, ℕ, Bool, List, [], ◌∷◌, Option, Some, None, is_some}
use Rattle.answer_parts.specs.Printing.{Prints, printed}
use Rattle.answer_parts.specs.Reply.{status_if}
use Rattle.game_status.specs.Tellings.{are_well, sums_of, sums_words}
use Rattle.game_status.specs.declared.status_lines.Look.{Look}
use Rattle.game_status.specs.declared.telling.GameTold.{GameTold}
use Rattle.game_status.specs.declared.telling.Mark.{Mark}
use Rattle.game_status.specs.declared.telling.Sums.{Sums}
use Rattle.line_teller.specs.ToldLines.{refused_memory}
use Rattle.system_io.specs.Disks.{DiskFacts}
use Rattle.timeline.specs.Events.{Event}
use Rattle.game_reports.specs.Folders.{KnownFolders}
use Rattle.game_reports.specs.GameLooks.{ReadsLook}
use Rattle.game_reports.specs.Writing.{DoesEach}

-- what is read of a game, and what is to be written of it by what is found; nothing where memory was refused
pub data TellsOf (disk : DiskFacts) (f : KnownFolders) (Tells : List ℕ → Look → GameTold → Type 0) (stamp : List ℕ) (told : Option GameTold) (events : List Event) : Type 0 where
  IsTold : (l : Look) (t : GameTold) → ReadsLook disk f stamp (Some l) events → Tells stamp l t → told ≡ Some t → TellsOf disk f Tells stamp told events
  NoRoomToRead : ReadsLook disk f stamp None events → told ≡ None → TellsOf disk f Tells stamp told events
  NoRoomToTell : (l : Look) → ReadsLook disk f stamp (Some l) events → told ≡ None → TellsOf disk f Tells stamp told events

-- a game is read, and then its line is written
abbrev pub TellsOne : (List ℕ → Option GameTold → List Event → Type 0) → List ℕ → GameTold → List Event → Type 0
TellsOne Reads stamp t events = (reading : List Event) × Reads stamp (Some t) reading × (events ≡ reading ++ printed (t.words ∷ []))

-- so it is with the next game, and this is how it is counted; or memory was refused for it, which is written
pub data TellsNext (Reads : List ℕ → Option GameTold → List Event → Type 0) (stamp : List ℕ) (events : List Event) (is : Option (Option Mark)) : Type 0 where
  NextTold : (t : GameTold) → TellsOne Reads stamp t events → is ≡ Some (Some t.mark) → TellsNext Reads stamp events is
  NoRoomForNext : (reading : List Event) → Reads stamp None reading → events ≡ reading ++ printed (refused_memory ∷ []) → is ≡ Some None → TellsNext Reads stamp events is

-- sums are written, and the status is 0 where nothing is at fault and nothing differs
abbrev pub PrintsSums : Bool → Sums → List Event → Option ℕ → Type 0
PrintsSums compares sums = Prints (sums_words compares sums ∷ []) (status_if (are_well sums))

-- All games are told in turn, and then their sums, and the status is 0 where nothing is at fault and nothing differs. Or the first ones are,
-- and memory is refused for the next, which is written. Or these are the first events alone.
pub data TellsInTurn (Reads : List ℕ → Option GameTold → List Event → Type 0) (stamps : List (List ℕ)) (compares : Bool) (events : List Event) (status : Option ℕ) : Type 0 where
  AllTold : (told : List GameTold) (telling : List Event) → DoesEach (TellsOne Reads) stamps told telling → events ≡ telling ++ printed (sums_words compares (sums_of told) ∷ []) → status ≡ Some (status_if (are_well (sums_of told))) → TellsInTurn Reads stamps compares events status
  NoRoomForGame : (before after : List (List ℕ)) (stamp : List ℕ) (told : List GameTold) (telling reading : List Event) → stamps ≡ before ++ stamp ∷ after → DoesEach (TellsOne Reads) before told telling → Reads stamp None reading → events ≡ telling ++ (reading ++ printed (refused_memory ∷ [])) → status ≡ Some 1 → TellsInTurn Reads stamps compares events status
  FirstTold : (before after : List (List ℕ)) (told : List GameTold) → stamps ≡ before ++ after → DoesEach (TellsOne Reads) before told events → status ≡ None → TellsInTurn Reads stamps compares events status

-- so it is with the games of the folders, in rising order of their stamps
abbrev pub TellsGames : DiskFacts → (List ℕ → Look → GameTold → Type 0) → KnownFolders → List Event → Option ℕ → Type 0
TellsGames disk Tells f events status = TellsInTurn (TellsOf disk f Tells) f.stamps (is_some f.other) events status
