-- What calls that open folders return; cited by private functions alone.
use Rattle.std.specs.Prelude.{ℕ, List, Option, Result, Ok, Err, option_map}
use Rattle.answer_parts.specs.Lines.{refusal_words}
use Rattle.answer_parts.specs.declared.answers.refusals.Refusal.{Refusal}
use Rattle.game_status.specs.StoredDisks.{bytes_in}
use Rattle.game_reports.specs.Folders.{KnownFolder, KnownFolders, OpenedFolders}
use Rattle.game_reports.specs.StoreReads.{OpenedFolder}
use Rattle.game_reports.specs.Inside.StoreReading.{opened_of}
use Rattle.game_reports.specs.declared.folders.GameFolder.{GameFolder}
use Rattle.game_reports.specs.declared.folders.GameFolders.{GameFolders}
use Rattle.game_reports.specs.declared.folders.OpenFolders.{OpenFolders}
use Rattle.game_reports.specs.declared.store_reading.OpenFolder.{OpenFolder}

abbrev pub known_folder : GameFolder → KnownFolder
known_folder f = record { path = f.path.now; kept = f.kept.keys; records = bytes_in f.records }

abbrev pub known_folders : GameFolders → KnownFolders
known_folders f = record { one = known_folder f.one; other = option_map known_folder f.other; stamps = f.stamps.items }

abbrev pub other_opened : Option OpenFolder → Option OpenedFolder
other_opened opened = option_map opened_of opened

abbrev pub both_of : OpenFolders → OpenedFolders
both_of f = record { one = opened_of f.one; other = other_opened f.other }

-- what was opened, or the words that refuse it
abbrev pub other_or_not : Result (Option OpenFolder) Refusal → Result (Option OpenedFolder) (List ℕ)
other_or_not (Ok f) = Ok (other_opened f)
other_or_not (Err refusal) = Err (refusal_words refusal)

abbrev pub both_or_not : Result OpenFolders Refusal → Result OpenedFolders (List ℕ)
both_or_not (Ok f) = Ok (both_of f)
both_or_not (Err refusal) = Err (refusal_words refusal)

abbrev pub games_or_not : Result GameFolders Refusal → Result KnownFolders (List ℕ)
games_or_not (Ok f) = Ok (known_folders f)
games_or_not (Err refusal) = Err (refusal_words refusal)
