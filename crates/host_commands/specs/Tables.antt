-- What a command reads before all else: its tables, and their manifest (this project's own).
use Rattle.std.specs.Prelude.{◌≡◌, ℕ, List, [], Result, Ok, Err}
use Rattle.answer_parts.specs.Looks.{gathered}
use Rattle.judge_core.specs.Tables.{Holding}
use Rattle.line_teller.specs.ToldLines.{cut_words, refused_memory}
use Rattle.move_msg.specs.Files.{entries_of}
use Rattle.move_msg.specs.Manifests.{SpellsManifest}
use Rattle.system_io.specs.declared.reading.ReadFault.{ReadFault}
use Rattle.task_files.specs.Given.{Given}
use Rattle.task_files.specs.InputReads.{ReadsGiven}
use Rattle.task_files.specs.Sources.{Named}
use Rattle.timeline.specs.Events.{Event}
use Rattle.timeline.specs.Outsides.{Outside}

-- what was read, or the words that say why no more is
abbrev pub or_cut : {A : Type 0} → Result A ReadFault → Result A (List ℕ)
or_cut (Ok a) = Ok a
or_cut (Err fault) = Err (cut_words fault)

-- what a task names is read, each thing once
abbrev pub ReadsNamed : {T P F K S L : Type 0} → Outside T P F K S L → Named → Result Given (List ℕ) → List Event → Type 0
ReadsNamed o n result events = (got : Result Given ReadFault) × ReadsGiven o n got events × (result ≡ or_cut got)

-- the tables of what was read, in a set that keeps so many decoded blocks; or their refusal, or memory was refused; nothing happens for this
module _ (given : Given) (cache : ℕ) where
  pub data GathersTables (result : Result Holding (List ℕ)) (events : List Event) : Type 0 where
    TablesAre : (set : Holding) → gathered given ≡ Ok set.tables → set.cache ≡ cache → result ≡ Ok set → events ≡ [] → GathersTables result events
    TablesAreNot : (words : List ℕ) → gathered given ≡ Err words → result ≡ Err words → events ≡ [] → GathersTables result events
    NoRoomForTables : result ≡ Err refused_memory → events ≡ [] → GathersTables result events

-- their manifest; or memory for it was refused
module _ (given : Given) where
  pub data MakesManifest (result : Result (List ℕ) (List ℕ)) (events : List Event) : Type 0 where
    ManifestIs : (manifest : List ℕ) → SpellsManifest manifest (entries_of given.files) → result ≡ Ok manifest → events ≡ [] → MakesManifest result events
    NoRoomForManifest : result ≡ Err refused_memory → events ≡ [] → MakesManifest result events
