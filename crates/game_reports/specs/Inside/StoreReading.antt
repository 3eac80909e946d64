-- What calls that read a store return; cited by private functions alone.
use Rattle.std.specs.Prelude.{ℕ, List, Option, Result, Ok, Err, Vec, map, option_map, string_bytes}
use Rattle.std.specs.Global.{Global}
use Rattle.answer_parts.specs.Lines.{refusal_words}
use Rattle.answer_parts.specs.declared.answers.refusals.Refusal.{Refusal}
use Rattle.system_io.specs.Records.{Records, records_of}
use Rattle.system_io.specs.declared.reading.ReadFault.{ReadFault}
use Rattle.system_io.specs.declared.record_store.Entry.{Entry}
use Rattle.timeline.specs.Events.{Event}
use Rattle.timeline.specs.Outsides.{Outside}
use Rattle.game_reports.specs.StoreReads.{OpenedFolder, ReadsStore, StoreBytes, StoreFolder, opened_as}
use Rattle.game_reports.specs.declared.store_reading.OpenFolder.{OpenFolder}
use Rattle.game_reports.specs.declared.store_reading.StoreFiles.{StoreFiles}
use Rattle.game_reports.specs.declared.store_reading.StoreWords.{StoreWords}

abbrev pub folder_of : StoreWords → StoreFolder
folder_of w = record { folder = w.folder.now; db = string_bytes w.db; log = string_bytes w.log }

abbrev pub store_bytes : StoreFiles → StoreBytes
store_bytes f = record { db = f.db.items; log = f.log.items }

abbrev pub bytes_taken : {E : Type 0} → Result StoreFiles E → Result StoreBytes E
bytes_taken (Ok f) = Ok (store_bytes f)
bytes_taken (Err e) = Err e

abbrev pub once_taken : {E : Type 0} → Result (Option StoreFiles) E → Result (Option StoreBytes) E
once_taken (Ok f) = Ok (option_map store_bytes f)
once_taken (Err e) = Err e

abbrev pub records_taken : {E : Type 0} → Result (Vec Entry Global) E → Result Records E
records_taken (Ok entries) = Ok (records_of entries.items)
records_taken (Err e) = Err e

-- the store of a folder is read
abbrev pub ReadsThis : {T P F K S L : Type 0} → Outside T P F K S L → StoreWords → List (List ℕ) → Result (Vec Entry Global) ReadFault → List Event → Type 0
ReadsThis o words names result = ReadsStore o (folder_of words) names (records_taken result)

-- a folder that was opened, or the words that refuse it
abbrev pub opened_of : OpenFolder → OpenedFolder
opened_of f = opened_as f.path.now (map string_bytes f.names.items) (records_of f.entries.items)

abbrev pub opened_or_not : Result OpenFolder Refusal → Result OpenedFolder (List ℕ)
opened_or_not (Ok f) = Ok (opened_of f)
opened_or_not (Err refusal) = Err (refusal_words refusal)
