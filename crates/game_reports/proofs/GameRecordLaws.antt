-- A game's record, written by what was read.
use Rattle.std.proofs.Common.{◌≡◌, ◌≤◌, ◌<◌, ◌++◌, ◌∷◌, [], ℕ, List, Option, Some, None, ap, arith, length, refl, subst, sym}
use Rattle.std.specs.Prelude.{Result, Ok, Err, option_map}
use Rattle.answer_parts.proofs.PrintLaws.{does_so, then_does, then_prints}
use Rattle.answer_parts.specs.Printing.{Performs, Prints}
use Rattle.command_line.specs.declared.commands.game_record.GameRecord.{GameRecord}
use Rattle.line_teller.specs.ToldLines.{cut_words, refused_files, refused_memory}
use Rattle.system_io.specs.Disks.{most_bytes}
use Rattle.system_io.specs.Records.{StoredRecord}
use Rattle.system_io.specs.declared.output.WriteFault.{WriteFault}
use Rattle.system_io.specs.declared.reading.ReadFault.{ReadFault}
use Rattle.task_files.specs.InputReads.{ReadsText}
use Rattle.timeline.specs.Events.{Event}
use Rattle.timeline.specs.Outsides.{AddsSome, Outside}
use Rattle.game_reports.specs.GameRecords.{FilePut, FileUnread, FolderRefused, NoRoomForPath, OfFolder, PrintsFiled, PrintsGameRecord, PrintsKept, PrintsStored, StoredPut, TooLong, record_path}
use Rattle.game_reports.specs.StoreReads.{OpenedFolder, Opens}
use Rattle.game_reports.specs.Writing.{WritesText}

pub short_by : (bytes : List ℕ) → (most_bytes < length bytes → ⊥) → length bytes ≤ most_bytes
short_by bytes not = omega (arith, not)

module _ {T P F K S L : Type 0} (o : Outside T P F K S L) where
  pub stored_put : (a b : T) (bytes : List ℕ) (r : Result ℕ WriteFault) → length bytes ≤ most_bytes → AddsSome o a b (Performs (WritesText bytes) r) → AddsSome o a b (Performs (PrintsStored bytes) r)
  stored_put a b bytes r short p = does_so o a b (WritesText bytes) (PrintsStored bytes) r (λ events is h. StoredPut short h) p

  pub stored_refused : (a b : T) (bytes : List ℕ) (r : Result ℕ WriteFault) → most_bytes < length bytes → AddsSome o a b (Performs (Prints (refused_files ∷ []) 1) r) → AddsSome o a b (Performs (PrintsStored bytes) r)
  stored_refused a b bytes r long p = does_so o a b (Prints (refused_files ∷ []) 1) (PrintsStored bytes) r (λ events is h. TooLong long h) p

  pub no_path : (a b : T) (t : GameRecord) (r : Result ℕ WriteFault) → AddsSome o a b (Performs (Prints (refused_memory ∷ []) 1) r) → AddsSome o a b (Performs (PrintsFiled o.disk t) r)
  no_path a b t r p = does_so o a b (Prints (refused_memory ∷ []) 1) (PrintsFiled o.disk t) r (λ events is h. NoRoomForPath h) p

  pub file_put : (a b c : T) (t : GameRecord) (path bytes : List ℕ) (r : Result ℕ WriteFault) → path ≡ record_path t → AddsSome o a b (ReadsText o.disk path (Ok bytes)) → AddsSome o b c (Performs (WritesText bytes) r) → AddsSome o a c (Performs (PrintsFiled o.disk t) r)
  file_put a b c t path bytes r at p q =
      let reads : ReadsText o.disk (record_path t) (Ok bytes) p.0 = subst (λ (x : List ℕ). ReadsText o.disk x (Ok bytes) p.0) at p.2 in
      then_does o a b c p.0 (WritesText bytes) (PrintsFiled o.disk t) r (λ events is h. FilePut bytes p.0 reads (ap (λ (e : List Event). p.0 ++ e) h.0) h.1) p.1 q

  pub file_refused : (a b c : T) (t : GameRecord) (path : List ℕ) (fault : ReadFault) (r : Result ℕ WriteFault) → path ≡ record_path t → AddsSome o a b (ReadsText o.disk path (Err fault)) → AddsSome o b c (Performs (Prints (cut_words fault ∷ []) 1) r) → AddsSome o a c (Performs (PrintsFiled o.disk t) r)
  file_refused a b c t path fault r at p q =
      let reads : ReadsText o.disk (record_path t) (Err fault) p.0 = subst (λ (x : List ℕ). ReadsText o.disk x (Err fault) p.0) at p.2 in
      then_prints o a b c p.0 (PrintsFiled o.disk t) (cut_words fault ∷ []) 1 r (FileUnread fault p.0 reads refl refl) p.1 q

  -- by what the store has
  pub kept_stored : (a b : T) (t : GameRecord) (kept : Option StoredRecord) (bytes : List ℕ) (r : Result ℕ WriteFault) → Some bytes ≡ option_map (λ (x : StoredRecord). x.bytes) kept → AddsSome o a b (Performs (PrintsStored bytes) r) → AddsSome o a b (Performs (PrintsKept o.disk t kept) r)
  kept_stored a b t None bytes r is p = absurd cc
  kept_stored a b t (Some x) bytes r is p =
      let same : bytes ≡ x.bytes = cc in
      does_so o a b (PrintsStored bytes) (PrintsKept o.disk t (Some x)) r (λ events is h. subst (λ (y : List ℕ). PrintsStored y events is) same h) p

  pub kept_filed : (a b : T) (t : GameRecord) (kept : Option StoredRecord) (r : Result ℕ WriteFault) → None ≡ option_map (λ (x : StoredRecord). x.bytes) kept → AddsSome o a b (Performs (PrintsFiled o.disk t) r) → AddsSome o a b (Performs (PrintsKept o.disk t kept) r)
  kept_filed a b t None r is p = does_so o a b (PrintsFiled o.disk t) (PrintsKept o.disk t None) r (λ events is h. h) p
  kept_filed a b t (Some x) r is p = absurd cc

  -- by the folder
  pub folder_printed : (a b c : T) (t : GameRecord) (f : OpenedFolder) (r : Result ℕ WriteFault) → AddsSome o a b (Opens o t.games.now (Ok f)) → AddsSome o b c (Performs (PrintsKept o.disk t (f.records t.stamp)) r) → AddsSome o a c (Performs (PrintsGameRecord o t) r)
  folder_printed a b c t f r p q = then_does o a b c p.0 (PrintsKept o.disk t (f.records t.stamp)) (PrintsGameRecord o t) r (λ events is h. OfFolder f p.0 events p.2 h refl) p.1 q

  pub folder_refused : (a b c : T) (t : GameRecord) (words : List ℕ) (r : Result ℕ WriteFault) → AddsSome o a b (Opens o t.games.now (Err words)) → AddsSome o b c (Performs (Prints (words ∷ []) 1) r) → AddsSome o a c (Performs (PrintsGameRecord o t) r)
  folder_refused a b c t words r p q = then_prints o a b c p.0 (PrintsGameRecord o t) (words ∷ []) 1 r (FolderRefused words p.0 p.2 refl refl) p.1 q
