-- What calls that read games for who asks return; cited by private functions alone.
use Rattle.std.specs.Prelude.{ℕ, List, Result}
use Rattle.game_status.specs.declared.status_lines.Look.{Look}
use Rattle.timeline.specs.Events.{Event}
use Rattle.timeline.specs.Outsides.{Outside}
use Rattle.game_reports.specs.Asked.{ReadsBothLooks, first_alone}
use Rattle.game_reports.specs.GameLooks.{ReadsLook}
use Rattle.game_reports.specs.Inside.Looking.{found_or_none}
use Rattle.game_reports.specs.Inside.Opening.{known_folders}
use Rattle.game_reports.specs.declared.asked.GameFound.{GameFound}
use Rattle.game_reports.specs.declared.folders.GameFolders.{GameFolders}

-- in the first of these folders alone
abbrev pub LookAlone : {T P F K S L E : Type 0} → Outside T P F K S L → GameFolders → List ℕ → Result Look E → List Event → Type 0
LookAlone o folders stamp result = ReadsLook o.disk (first_alone (known_folders folders)) stamp (found_or_none result)

-- and then in all
abbrev pub BothIn : {T P F K S L E : Type 0} → Outside T P F K S L → GameFolders → List ℕ → Result GameFound E → List Event → Type 0
BothIn o folders stamp result = ReadsBothLooks o.disk (known_folders folders) stamp (found_or_none result)
