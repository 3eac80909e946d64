-- Games that are read, counted and added to a text in turn; cited by private functions alone.
use Rattle.std.specs.Prelude.{◌≡◌, ℕ, Bool, true, List, Option, Result, Ok, Err, Vec, codes, is_some}
use Rattle.std.specs.Global.{Global}
use Rattle.std.specs.declared.alloc.AllocError.{AllocError}
use Rattle.json.specs.Json.{array, member}
use Rattle.json.specs.Tree.{json_tokens}
use Rattle.json.specs.Written.{Written}
use Rattle.game_status.specs.Inside.Objects.{games_tokens}
use Rattle.game_status.specs.Reports.{Form, form_of}
use Rattle.game_status.specs.declared.report.ReportForm.{ReportForm}
use Rattle.game_status.specs.StatusObjects.{AddsMembers, AddsTokens, games_items, status_json}
use Rattle.game_status.specs.Totals.{FoundGame, totals_of}
use Rattle.game_status.specs.declared.totals.Totals.{Totals}
use Rattle.system_io.specs.Disks.{DiskFacts}
use Rattle.timeline.specs.Events.{Event}
use Rattle.timeline.specs.Outsides.{Outside}
use Rattle.game_reports.specs.Folders.{KnownFolders}
use Rattle.game_reports.specs.Inside.Opening.{known_folders}
use Rattle.game_reports.specs.declared.folders.GameFolders.{GameFolders}
use Rattle.game_reports.specs.Statuses.{FindsFirst, FindsOne, ReportsGames, WritesReport}
use Rattle.game_reports.specs.Writing.{DoesEach}

-- all games are read, and this is said by what is found of them; or memory is refused on the way
abbrev pub Finds : {A : Type 0} → DiskFacts → KnownFolders → (List FoundGame → A → Type 0) → Result A AllocError → List Event → Type 0
Finds disk f Says (Ok a) events = (found : List FoundGame) × DoesEach (FindsOne disk f) f.stamps found events × Says found a
Finds disk f Says (Err e) events = FindsFirst disk f events

-- so many of each kind
abbrev pub AreCounted : List FoundGame → Totals → Type 0
AreCounted found totals = totals ≡ totals_of found

-- the objects of the games were added, and they were counted
abbrev pub AddsGames : Bool → Written → Written → List FoundGame → Totals → Type 0
AddsGames compares old new found totals = AddsTokens old new (games_tokens compares found) × (totals ≡ totals_of found)

-- the list of them was added as a member
abbrev pub AddsList : Bool → Written → Written → List FoundGame → Totals → Type 0
AddsList compares old new found totals = AddsMembers old new (member (codes "games") (array (games_items compares found))) × (totals ≡ totals_of found)

-- the object of all of them was added
abbrev pub AddsStatus : Bool → Written → Written → List FoundGame → Type 0
AddsStatus compares old new found = AddsTokens old new (json_tokens (status_json compares found))

-- the text is that of a form
abbrev pub IsText : Form → Bool → List FoundGame → Vec ℕ Global → Type 0
IsText form compares found text = form.Whole compares found text.items true

-- so it is in these folders; what is said may be by whether there are two
abbrev pub FindsIn : {T P F K S L A : Type 0} → Outside T P F K S L → GameFolders → (Bool → List FoundGame → A → Type 0) → Result A AllocError → List Event → Type 0
FindsIn o folders Says = Finds o.disk (known_folders folders) (Says (is_some folders.other))

-- the object of all of them was added, and nothing comes of that
abbrev pub AddsObject : {A : Type 0} → Written → Written → Bool → List FoundGame → A → Type 0
AddsObject old new compares found a = AddsStatus compares old new found

abbrev pub ReportIn : {T P F K S L : Type 0} → Outside T P F K S L → ReportForm → GameFolders → List Event → Option ℕ → Type 0
ReportIn o form folders = WritesReport o.disk (form_of form) (known_folders folders)

abbrev pub ReportsIn : {T P F K S L : Type 0} → Outside T P F K S L → Option ReportForm → GameFolders → List Event → Option ℕ → Type 0
ReportsIn o report folders = ReportsGames o.disk report (known_folders folders)
