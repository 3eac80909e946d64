-- What is known of the records of a folder's store while games are entered (this project's own).
use Rattle.std.specs.Prelude.{◌≡◌, List, [], ℕ, Result, Ok, Err}
use Rattle.game_reports.specs.StoreReads.{OpenedFolder, Opens}
use Rattle.system_io.specs.Records.{Records}
use Rattle.timeline.specs.Events.{Event}
use Rattle.timeline.specs.Outsides.{Outside}

-- nobody has asked for them; they can't be read; these are they
pub data Known : Type 0 where
  Unasked : Known
  Unread : Known
  Read : (records : Records) → Known

-- by a folder that was opened, or wasn't, whatever refused it
abbrev pub known_by : Result OpenedFolder (List ℕ) → Known
known_by (Ok opened) = Read opened.records
known_by (Err words) = Unread

-- the folder is opened
pub record Asks {T P F K S L : Type 0} (o : Outside T P F K S L) (folder : List ℕ) (after : Known) (events : List Event) : Type 0 where
  pub result : Result OpenedFolder (List ℕ)
  pub opens : Opens o folder result events
  pub known : after ≡ known_by result

-- they are asked for once
abbrev pub AsksOnce : {T P F K S L : Type 0} → Outside T P F K S L → List ℕ → Known → Known → List Event → Type 0
AsksOnce o folder Unasked after events = Asks o folder after events
AsksOnce o folder Unread after events = (after ≡ Unread) × (events ≡ [])
AsksOnce o folder (Read records) after events = (after ≡ Read records) × (events ≡ [])
