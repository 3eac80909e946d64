-- What is found of the games of a folder, or of two, as it is reported to a program (this project's own).
use Rattle.std.specs.Prelude.{◌≡◌, ℕ, Bool, true, List, Some}
use Rattle.json.specs.Json.{document}
use Rattle.line_teller.specs.ToldLines.{refused_memory}
use Rattle.move_msg.specs.TextLines.{ended}
use Rattle.game_status.specs.declared.report.ReportForm.{ReportForm}
use Rattle.game_status.specs.declared.report.ReportForm.TheVariants.{Metrics, Json}
use Rattle.game_status.specs.Metrics.{metrics_text}
use Rattle.game_status.specs.StatusObjects.{json_text, status_json}
use Rattle.game_status.specs.Totals.{FoundGame, totals_of}

-- a form of reports
pub record Form : Type 1 where
  -- the text of all games, with what is found of them, and whether all is done; two folders are compared, or there is one
  pub Whole : Bool → List FoundGame → List ℕ → Bool → Type 0
  -- the text of the first games, where memory was refused for more
  pub Short : List FoundGame → List ℕ → Type 0

-- metrics, or none of them; all is done where they are written, whatever they say
abbrev pub metrics_form : Form
metrics_form = record {
  Whole = λ compares found text done. (text ≡ metrics_text compares (totals_of found)) × (done ≡ true);
  Short = λ found text. text ≡ ended refused_memory;
}

-- a line with one object, which a JSON parser reads back, or none of it; all is done where it is written, whatever it says
abbrev pub json_form : Form
json_form = record {
  Whole = λ compares found text done.
      (text ≡ ended (json_text (status_json compares found))) × (document (json_text (status_json compares found)) ≡ Some (status_json compares found)) × (done ≡ true);
  Short = λ found text. text ≡ ended refused_memory;
}

abbrev pub form_of : ReportForm → Form
form_of Metrics = metrics_form
form_of Json = json_form
