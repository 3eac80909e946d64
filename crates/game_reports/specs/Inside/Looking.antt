-- What calls that look at a game return; cited by private functions alone.
use Rattle.std.specs.Prelude.{ℕ, List, Option, Some, None, Result, Ok, Err, Vec, option_map}
use Rattle.std.specs.Global.{Global}
use Rattle.game_reports.specs.GameLines.{TellsGames, TellsNext, TellsOf}
use Rattle.game_reports.specs.GameLooks.{LooksBeside, ReadsLook, ReadsRecord, Seeks}
use Rattle.game_reports.specs.Inside.Opening.{known_folder, known_folders}
use Rattle.game_reports.specs.declared.folders.GameFolder.{GameFolder}
use Rattle.game_reports.specs.declared.folders.GameFolders.{GameFolders}
use Rattle.game_status.specs.declared.side.Side.{Side}
use Rattle.game_status.specs.declared.status_lines.Look.{Look}
use Rattle.game_status.specs.declared.status_lines.Look.TheVariants as look
use Rattle.game_reports.specs.declared.looking.Lack.{Lack}
use Rattle.game_reports.specs.declared.looking.Lack.TheVariants.{AtFault, NoRoom}
use Rattle.game_status.specs.declared.telling.GameTold.{GameTold}
use Rattle.game_status.specs.declared.telling.Mark.{Mark}
use Rattle.system_io.specs.declared.reading.ReadFault.{ReadFault}
use Rattle.timeline.specs.Events.{Event, bytes_read}
use Rattle.timeline.specs.Outsides.{Outside}

-- the bytes of a record that were read, if there are some
abbrev pub record_taken : Result (Option (Vec ℕ Global)) ReadFault → Result (Option (List ℕ)) ReadFault
record_taken (Ok kept) = Ok (option_map (λ v. v.items) kept)
record_taken (Err fault) = Err fault

-- what was found, unless memory was refused
abbrev pub found_or_none : {A E : Type 0} → Result A E → Option A
found_or_none (Ok found) = Some found
found_or_none (Err e) = None

-- what is found where the first folder lacks this
abbrev pub found_lacking : Lack → Option Look
found_lacking (AtFault fault) = Some (look.AtFault fault)
found_lacking NoRoom = None

-- ---- in these folders

abbrev pub SeeksFile : {T P F K S L : Type 0} → Outside T P F K S L → List ℕ → ℕ → Result (Vec ℕ Global) ReadFault → List Event → Type 0
SeeksFile o path most result = Seeks o.disk path most (bytes_read result)

abbrev pub RecordIn : {T P F K S L : Type 0} → Outside T P F K S L → GameFolder → List ℕ → Result (Option (Vec ℕ Global)) ReadFault → List Event → Type 0
RecordIn o folder stamp result = ReadsRecord o.disk (known_folder folder) stamp (record_taken result)

abbrev pub LookIn : {T P F K S L E : Type 0} → Outside T P F K S L → GameFolders → List ℕ → Result Look E → List Event → Type 0
LookIn o folders stamp result = ReadsLook o.disk (known_folders folders) stamp (found_or_none result)

abbrev pub LookBeside : {T P F K S L E : Type 0} → Outside T P F K S L → Side → GameFolder → List ℕ → Result Look E → List Event → Type 0
LookBeside o one folder stamp result = LooksBeside o.disk one (known_folder folder) stamp (found_or_none result)

-- what is to be written of a game by what is found
abbrev pub LineIn : {T P F K S L E : Type 0} → Outside T P F K S L → GameFolders → (List ℕ → Look → GameTold → Type 0) → List ℕ → Result GameTold E → List Event → Type 0
LineIn o folders Says stamp result = TellsOf o.disk (known_folders folders) Says stamp (found_or_none result)

abbrev pub NextIn : {T P F K S L : Type 0} → Outside T P F K S L → GameFolders → (List ℕ → Look → GameTold → Type 0) → List ℕ → List Event → Option (Option Mark) → Type 0
NextIn o folders Says stamp = TellsNext (TellsOf o.disk (known_folders folders) Says) stamp

abbrev pub GamesIn : {T P F K S L : Type 0} → Outside T P F K S L → GameFolders → (List ℕ → Look → GameTold → Type 0) → List Event → Option ℕ → Type 0
GamesIn o folders Says = TellsGames o.disk Says (known_folders folders)
