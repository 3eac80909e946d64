-- `status --games DIR [--other DIR] [--prometheus|--json]`, one event after another (this project's own).
use Rattle.std.specs.Prelude.{◌≡◌, ◌++◌, true, ℕ, List, [], ◌∷◌, Option, Some, None, is_some, option_map}
use Rattle.answer_parts.specs.Printing.{printed}
use Rattle.command_line.specs.declared.commands.status.ShowStatus.{ShowStatus}
use Rattle.game_status.specs.Reports.{Form, form_of}
use Rattle.game_status.specs.Statuses.{game_told_by}
use Rattle.game_status.specs.Totals.{FoundGame}
use Rattle.game_status.specs.declared.report.ReportForm.{ReportForm}
use Rattle.game_status.specs.declared.status_lines.Look.{Look}
use Rattle.game_status.specs.declared.telling.GameTold.{GameTold}
use Rattle.line_teller.specs.ToldLines.{refused_memory}
use Rattle.system_io.specs.Disks.{DiskFacts}
use Rattle.timeline.specs.Events.{Event, Wrote}
use Rattle.timeline.specs.Outsides.{Outside}
use Rattle.timeline.specs.declared.stream.Stream.TheVariants.{Output}
use Rattle.game_reports.specs.Folders.{ByFolders, KnownFolders}
use Rattle.game_reports.specs.GameLines.{TellsGames}
use Rattle.game_reports.specs.GameLooks.{ReadsLook}
use Rattle.game_reports.specs.Writing.{DoesEach}

-- what a line of `status` says by what is found of a game
abbrev pub IsStatusLine : List ℕ → Look → GameTold → Type 0
IsStatusLine stamp l told = told ≡ game_told_by stamp l

-- ---- reports

-- this is found of the game with the stamp
abbrev pub FindsOne : DiskFacts → KnownFolders → List ℕ → FoundGame → List Event → Type 0
FindsOne disk f stamp found events = (found.stamp ≡ stamp) × ReadsLook disk f stamp (Some found.look) events

-- the first games are read; and of the next one what is read until memory is refused, where that is while it is read
pub data FindsFirst (disk : DiskFacts) (f : KnownFolders) (events : List Event) : Type 0 where
  UpToGame : (before after : List (List ℕ)) (found : List FoundGame) → f.stamps ≡ before ++ after → DoesEach (FindsOne disk f) before found events → FindsFirst disk f events
  WithinGame : (before after : List (List ℕ)) (stamp : List ℕ) (found : List FoundGame) (reading last : List Event) → f.stamps ≡ before ++ stamp ∷ after → DoesEach (FindsOne disk f) before found reading → ReadsLook disk f stamp None last → events ≡ reading ++ last → FindsFirst disk f events

-- all games are read in turn, and then the text of all is written at once; or memory is refused for it on the way, and that is
pub data WritesReport (disk : DiskFacts) (form : Form) (f : KnownFolders) (events : List Event) (status : Option ℕ) : Type 0 where
  ReportPut : (found : List FoundGame) (text : List ℕ) (reading : List Event) → DoesEach (FindsOne disk f) f.stamps found reading → form.Whole (is_some f.other) found text true → events ≡ reading ++ Wrote Output text ∷ [] → status ≡ Some 0 → WritesReport disk form f events status
  NoRoomToReport : (reading : List Event) → FindsFirst disk f reading → events ≡ reading ++ printed (refused_memory ∷ []) → status ≡ Some 1 → WritesReport disk form f events status

-- ---- all of it

-- how far the games have come is told in lines, or reported in a form for programs
abbrev pub ReportsGames : DiskFacts → Option ReportForm → KnownFolders → List Event → Option ℕ → Type 0
ReportsGames disk None f events status = TellsGames disk IsStatusLine f events status
ReportsGames disk (Some form) f events status = WritesReport disk (form_of form) f events status

abbrev pub ReportsStatus : {T P F K S L : Type 0} → Outside T P F K S L → ShowStatus → List Event → Option ℕ → Type 0
ReportsStatus o t events status = ByFolders o t.games.now (option_map (λ s. s.now) t.other) (ReportsGames o.disk t.report) events status
