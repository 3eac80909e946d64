-- Folders of games that are read for one report, or for one game, one event after another (this project's own).
use Rattle.std.specs.Prelude.{◌≡◌, ◌⊎◌, ◌++◌, true, ℕ, List, Option, Some, None, Result, Ok, Err, Vec, is_some, option_map}
use Rattle.std.specs.Borrow.{Bor}
use Rattle.std.specs.Global.{Global}
use Rattle.std.specs.List.{Contains}
use Rattle.answer_parts.specs.Lines.{refusal_words}
use Rattle.answer_parts.specs.declared.answers.refusals.Refusal.{Refusal}
use Rattle.game_status.specs.Reports.{form_of}
use Rattle.game_status.specs.StatusObjects.{AreNamed}
use Rattle.game_status.specs.Totals.{FoundGame}
use Rattle.game_status.specs.declared.report.ReportForm.{ReportForm}
use Rattle.game_status.specs.declared.status_lines.Look.{Look}
use Rattle.system_io.specs.Disks.{DiskFacts}
use Rattle.timeline.specs.Events.{Event}
use Rattle.timeline.specs.Outsides.{AddsSome, Outside}
use Rattle.game_reports.specs.Folders.{KnownFolders, OpensGames}
use Rattle.game_reports.specs.GameLooks.{ReadsLook}
use Rattle.game_reports.specs.Statuses.{FindsFirst, FindsOne}
use Rattle.game_reports.specs.Writing.{DoesEach}
use Rattle.game_reports.specs.declared.asked.GameFound.{GameFound}

-- what a call returns, or nothing where memory was refused
abbrev pub report_taken : {E : Type 0} → Result (Result (Vec ℕ Global) Refusal) E → Option (Result (List ℕ) Refusal)
report_taken (Ok (Ok text)) = Some (Ok text.items)
report_taken (Ok (Err refusal)) = Some (Err refusal)
report_taken (Err e) = None

abbrev pub game_taken : {E : Type 0} → Result (Result (Option GameFound) Refusal) E → Option (Result (Option GameFound) Refusal)
game_taken (Ok found) = Some found
game_taken (Err e) = None

-- ---- all games

-- The folders are opened, one after the other, and then each of their games is read, in rising order of the stamps: the text of a report in
-- this form. Or a folder is refused; or memory was refused on the way, and there is no result.
pub data ReadsReport {T P F K S L : Type 0} (o : Outside T P F K S L) (games : List ℕ) (other : Option (List ℕ)) (form : ReportForm)
    (report : Option (Result (List ℕ) Refusal)) (events : List Event) : Type 0 where
  IsReported : (f : KnownFolders) (found : List FoundGame) (text : List ℕ) (opening reading : List Event) → OpensGames o games other (Ok f) opening
      → DoesEach (FindsOne o.disk f) f.stamps found reading → (form_of form).Whole (is_some f.other) found text true
      → report ≡ Some (Ok text) → events ≡ opening ++ reading → ReadsReport o games other form report events
  NoRoomToReport : (f : KnownFolders) (opening reading : List Event) → OpensGames o games other (Ok f) opening → FindsFirst o.disk f reading
      → report ≡ None → events ≡ opening ++ reading → ReadsReport o games other form report events
  ReportRefused : (refusal : Refusal) → OpensGames o games other (Err (refusal_words refusal)) events → report ≡ Some (Err refusal)
      → ReadsReport o games other form report events

-- so it is from one moment to a later one, and this is returned
abbrev pub TakesReport : {T P F K S L E : Type 0} → Outside T P F K S L → T → T → Bor (List ℕ) → Option (Bor (List ℕ)) → ReportForm → Result (Result (Vec ℕ Global) Refusal) E → Type 0
TakesReport o before after games other form result = AddsSome o before after (ReadsReport o games.now (option_map (λ s. s.now) other) form (report_taken result))

-- ---- one game

-- the first of two folders alone
abbrev pub first_alone : KnownFolders → KnownFolders
first_alone f = record { one = f.one; other = None; stamps = f.stamps }

-- what is found of a game in the first folder alone, and then in both, for which the first is read again; or memory was refused
pub data ReadsBothLooks (disk : DiskFacts) (f : KnownFolders) (stamp : List ℕ) (found : Option GameFound) (events : List Event) : Type 0 where
  AreFound : (g : GameFound) (first both : List Event) → ReadsLook disk (first_alone f) stamp (Some g.first) first
      → ReadsLook disk f stamp (Some g.both) both → found ≡ Some g → events ≡ first ++ both → ReadsBothLooks disk f stamp found events
  NoRoomForFirst : ReadsLook disk (first_alone f) stamp None events → found ≡ None → ReadsBothLooks disk f stamp found events
  NoRoomForBoth : (l : Look) (first both : List Event) → ReadsLook disk (first_alone f) stamp (Some l) first
      → ReadsLook disk f stamp None both → found ≡ None → events ≡ first ++ both → ReadsBothLooks disk f stamp found events

-- the names in it are those of games
abbrev pub AreBothNamed : GameFound → Type 0
AreBothNamed g = AreNamed g.first × AreNamed g.both

-- The folders are opened, and then the game with the stamp is read, if one of them lists its file. Or a folder is refused; or memory was
-- refused on the way, and there is no result.
pub data ReadsGame {T P F K S L : Type 0} (o : Outside T P F K S L) (games : List ℕ) (other : Option (List ℕ)) (stamp : List ℕ)
    (result : Option (Result (Option GameFound) Refusal)) (events : List Event) : Type 0 where
  IsListed : (f : KnownFolders) (g : GameFound) (opening reading : List Event) → OpensGames o games other (Ok f) opening → Contains f.stamps stamp
      → ReadsBothLooks o.disk f stamp (Some g) reading → result ≡ Some (Ok (Some g)) → events ≡ opening ++ reading
      → ReadsGame o games other stamp result events
  IsNotListed : (f : KnownFolders) → OpensGames o games other (Ok f) events → (Contains f.stamps stamp → ⊥) → result ≡ Some (Ok None)
      → ReadsGame o games other stamp result events
  NoRoomToLook : (f : KnownFolders) (opening reading : List Event) → OpensGames o games other (Ok f) opening → Contains f.stamps stamp
      → ReadsBothLooks o.disk f stamp None reading → result ≡ None → events ≡ opening ++ reading → ReadsGame o games other stamp result events
  GameRefused : (refusal : Refusal) → OpensGames o games other (Err (refusal_words refusal)) events → result ≡ Some (Err refusal)
      → ReadsGame o games other stamp result events

-- so it is from one moment to a later one, and this is returned
abbrev pub TakesGame : {T P F K S L E : Type 0} → Outside T P F K S L → T → T → Bor (List ℕ) → Option (Bor (List ℕ)) → List ℕ → Result (Result (Option GameFound) Refusal) E → Type 0
TakesGame o before after games other stamp result = AddsSome o before after (ReadsGame o games.now (option_map (λ s. s.now) other) stamp (game_taken result))
