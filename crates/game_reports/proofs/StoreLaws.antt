-- The files of a store, read one after the other over a timeline.
use Rattle.std.proofs.Common.{◌≡◌, ◌∙◌, ◌∷◌, ◌++◌, ◌+◌, ◌<◌, ◌≤◌, [], ℕ, Bool, true, false, List, Option, Some, None, ap, length, refl, subst, sym, suc, add-one}
use Rattle.std.specs.Global.{Global}
use Rattle.std.specs.List.{Contains}
use Rattle.std.specs.Prelude.{Result, Ok, Err, IfErr, IfOk, IsErrOf, Vec, String, map, string_bytes}
use Rattle.arbiter_server.specs.ServedLines.{refused_store}
use Rattle.game_status.specs.StoreReadings.{HasHalfStore, log_name, path_in, store_name}
use Rattle.line_teller.specs.ToldLines.{cut_words, refused_memory}
use Rattle.system_io.specs.Disks.{AtFile, AtFolder, most_bytes}
use Rattle.system_io.specs.Records.{Records}
use Rattle.system_io.specs.declared.reading.ReadFault.{ReadFault}
use Rattle.system_io.specs.declared.reading.ReadFault.TheVariants.{OutOfMemory, Unreadable}
use Rattle.task_files.proofs.InputReadLaws.{file_read, file_unread, then_alone, then_both, then_gives}
use Rattle.task_files.specs.InputReads.{Both, FirstAlone, Gives, Reading, ReadsText, Then}
use Rattle.timeline.proofs.EventLaws.{adds_more, adds_none}
use Rattle.timeline.specs.Events.{Event, FileRead, FolderListed, Noted, bytes_read, names_read}
use Rattle.timeline.specs.Outsides.{Adds, AddsSome, Outside}
use Rattle.game_reports.specs.StoreReads.{AtNoMoment, AtOneMoment, FolderIs, FolderIsNot, HoldsRecords, ListsFolder, LogListed, MissesMoment, NoFolder, NoLog, NoRoomToRead, NoStore, NotBoth, OfWhole, Opens, ReadsBoth, ReadsListed, ReadsLog, ReadsOnce, ReadsRecords, ReadsStore, ReadsStoreBytes, StoreBytes, StoreFolder, WithStore, at_one_moment, most_tries, opened_as, store_of, unread_words}

-- where the store of a folder is
abbrev folder_at : List ℕ → List ℕ → List ℕ → StoreFolder
folder_at folder db log = record { folder = folder; db = db; log = log }

pub store_at : (folder db log : List ℕ) → db ≡ path_in folder store_name → log ≡ path_in folder log_name → folder_at folder db log ≡ store_of folder
store_at folder db log p q = ap (λ (x : List ℕ). folder_at folder x log) p ∙ ap (λ (x : List ℕ). folder_at folder (path_in folder store_name) x) q

module _ {T P F K S L : Type 0} (o : Outside T P F K S L) where
  pub text_read : (a b : T) (path : List ℕ) (r : Result (Vec ℕ Global) ReadFault) → IfOk r (λ bytes. o.disk.holds path bytes.items) → IfOk r (λ bytes. length bytes.items ≤ most_bytes) → (IsErrOf r Unreadable → o.disk.fails (AtFile path)) → Adds o a b (FileRead path (bytes_read r) ∷ [])
      → AddsSome o a b (ReadsText o.disk path (bytes_read r))
  text_read a b path (Ok bytes) holds short cause p = file_read o a b path bytes.items _ _ (holds, short) p
  text_read a b path (Err fault) holds short cause p = file_unread o a b path _ _ fault (λ is. cause (ap Err is)) p

  pub listed : (a b : T) (folder : List ℕ) (names : List (List ℕ)) → o.disk.lists folder names → Adds o a b (FolderListed folder (Ok names) ∷ []) → AddsSome o a b (ListsFolder o.disk folder (Ok names))
  listed a b folder names lists p = (FolderListed folder (Ok names) ∷ [], p, FolderIs names lists refl refl)

  pub unlisted : (a b : T) (folder : List ℕ) (fault : ReadFault) → (fault ≡ Unreadable → o.disk.fails (AtFolder folder)) → Adds o a b (FolderListed folder (Err fault) ∷ []) → AddsSome o a b (ListsFolder o.disk folder (Err fault))
  unlisted a b folder fault cause p = (FolderListed folder (Err fault) ∷ [], p, FolderIsNot fault cause refl refl)

  -- the log
  pub log_unlisted : (a b : T) (s : StoreFolder) (fault : ReadFault) → AddsSome o a b (ListsFolder o.disk s.folder (Err fault)) → AddsSome o a b (ReadsLog o.disk s (Err fault))
  log_unlisted a b s fault p = then_alone o a b (ListsFolder o.disk s.folder) (ReadsListed o.disk s.log) fault p

  pub log_missing : (a b : T) (s : StoreFolder) (names : List (List ℕ)) → (Contains names log_name → ⊥) → AddsSome o a b (ListsFolder o.disk s.folder (Ok names)) → AddsSome o a b (ReadsLog o.disk s (Ok []))
  log_missing a b s names none p = then_both o a b b (ListsFolder o.disk s.folder) (ReadsListed o.disk s.log) names (Ok []) p ([], adds_none o b, NoLog none (refl, refl))

  pub log_read : (a b c : T) (s : StoreFolder) (names : List (List ℕ)) (r : Result (List ℕ) ReadFault) → Contains names log_name → AddsSome o a b (ListsFolder o.disk s.folder (Ok names)) → AddsSome o b c (ReadsText o.disk s.log r) → AddsSome o a c (ReadsLog o.disk s r)
  log_read a b c s names r has p q = then_both o a b c (ListsFolder o.disk s.folder) (ReadsListed o.disk s.log) names r p (q.0, q.1, LogListed has q.2)

  -- both
  abbrev with_log : List ℕ → List ℕ → StoreBytes
  with_log db log = record { db = db; log = log }

  abbrev after_db : StoreFolder → List ℕ → Reading StoreBytes
  after_db s db = Then (ReadsLog o.disk s) (λ log. Gives (with_log db log))

  pub both_undone : (a b : T) (s : StoreFolder) (fault : ReadFault) → AddsSome o a b (ReadsText o.disk s.db (Err fault)) → AddsSome o a b (ReadsBoth o.disk s (Err fault))
  both_undone a b s fault p = then_alone o a b (ReadsText o.disk s.db) (after_db s) fault p

  pub both_done : (a b c : T) (s : StoreFolder) (db log : List ℕ) → AddsSome o a b (ReadsText o.disk s.db (Ok db)) → AddsSome o b c (ReadsLog o.disk s (Ok log)) → AddsSome o a c (ReadsBoth o.disk s (Ok (with_log db log)))
  both_done a b c s db log p q = then_both o a b c (ReadsText o.disk s.db) (after_db s) db _ p (then_gives o b c (ReadsLog o.disk s) (with_log db) log q)

  pub both_half : (a b c : T) (s : StoreFolder) (db : List ℕ) (fault : ReadFault) → AddsSome o a b (ReadsText o.disk s.db (Ok db)) → AddsSome o b c (ReadsLog o.disk s (Err fault)) → AddsSome o a c (ReadsBoth o.disk s (Err fault))
  both_half a b c s db fault p q = then_both o a b c (ReadsText o.disk s.db) (after_db s) db _ p (then_alone o b c (ReadsLog o.disk s) (λ log. Gives (with_log db log)) fault q)

  -- once
  abbrev last_log : StoreFolder → List ℕ → StoreBytes → Reading (Option StoreBytes)
  last_log s before files = Then (ReadsLog o.disk s) (λ after. Gives (at_one_moment before files after))

  abbrev after_log : StoreFolder → List ℕ → Reading (Option StoreBytes)
  after_log s before = Then (ReadsBoth o.disk s) (last_log s before)

  pub once_first : (a b : T) (s : StoreFolder) (fault : ReadFault) → AddsSome o a b (ReadsLog o.disk s (Err fault)) → AddsSome o a b (ReadsOnce o.disk s (Err fault))
  once_first a b s fault p = then_alone o a b (ReadsLog o.disk s) (after_log s) fault p

  pub once_second : (a b c : T) (s : StoreFolder) (before : List ℕ) (fault : ReadFault) → AddsSome o a b (ReadsLog o.disk s (Ok before)) → AddsSome o b c (ReadsBoth o.disk s (Err fault)) → AddsSome o a c (ReadsOnce o.disk s (Err fault))
  once_second a b c s before fault p q = then_both o a b c (ReadsLog o.disk s) (after_log s) before _ p (then_alone o b c (ReadsBoth o.disk s) (last_log s before) fault q)

  pub once_third : (a b c d : T) (s : StoreFolder) (before : List ℕ) (files : StoreBytes) (fault : ReadFault) → AddsSome o a b (ReadsLog o.disk s (Ok before)) → AddsSome o b c (ReadsBoth o.disk s (Ok files)) → AddsSome o c d (ReadsLog o.disk s (Err fault)) → AddsSome o a d (ReadsOnce o.disk s (Err fault))
  once_third a b c d s before files fault p q u = then_both o a b d (ReadsLog o.disk s) (after_log s) before _ p (then_both o b c d (ReadsBoth o.disk s) (last_log s before) files _ q (then_alone o c d (ReadsLog o.disk s) (λ after. Gives (at_one_moment before files after)) fault u))

  pub once_done : (a b c d : T) (s : StoreFolder) (before : List ℕ) (files : StoreBytes) (after : List ℕ) (r : Option StoreBytes) → r ≡ at_one_moment before files after → AddsSome o a b (ReadsLog o.disk s (Ok before)) → AddsSome o b c (ReadsBoth o.disk s (Ok files)) → AddsSome o c d (ReadsLog o.disk s (Ok after)) → AddsSome o a d (ReadsOnce o.disk s (Ok r))
  once_done a b c d s before files after r is p q u =
      subst (λ (x : Option StoreBytes). AddsSome o a d (ReadsOnce o.disk s (Ok x))) (sym is)
      (then_both o a b d (ReadsLog o.disk s) (after_log s) before _ p (then_both o b c d (ReadsBoth o.disk s) (last_log s before) files _ q (then_gives o c d (ReadsLog o.disk s) (at_one_moment before files) after u)))

  -- so often
  pub missed_none : (a : T) (s : StoreFolder) → AddsSome o a a (MissesMoment o.disk s 0)
  missed_none a s = ([], adds_none o a, refl)

  pub missed_more : (a b c : T) (s : StoreFolder) (n : ℕ) → AddsSome o a b (MissesMoment o.disk s n) → AddsSome o b c (ReadsOnce o.disk s (Ok None)) → AddsSome o a c (MissesMoment o.disk s (n + 1))
  missed_more a b c s n p q = subst (λ (k : ℕ). AddsSome o a c (MissesMoment o.disk s k)) (sym (add-one n)) (p.0 ++ q.0, adds_more o a b c p.0 q.0 p.1 q.1, (p.0, q.0, p.2, q.2, refl))

  pub files_read : (a b c : T) (s : StoreFolder) (n : ℕ) (files : StoreBytes) → n < most_tries → AddsSome o a b (MissesMoment o.disk s n) → AddsSome o b c (ReadsOnce o.disk s (Ok (Some files))) → AddsSome o a c (ReadsStoreBytes o.disk s (Ok files))
  files_read a b c s n files lt p q = (p.0 ++ q.0, adds_more o a b c p.0 q.0 p.1 q.1, AtOneMoment n files p.0 q.0 lt p.2 q.2 refl refl)

  pub files_unread : (a b c : T) (s : StoreFolder) (n : ℕ) (fault : ReadFault) → n < most_tries → AddsSome o a b (MissesMoment o.disk s n) → AddsSome o b c (ReadsOnce o.disk s (Err fault)) → AddsSome o a c (ReadsStoreBytes o.disk s (Err fault))
  files_unread a b c s n fault lt p q = (p.0 ++ q.0, adds_more o a b c p.0 q.0 p.1 q.1, NotBoth n fault p.0 q.0 lt p.2 q.2 refl refl)

  pub files_missed : (a b : T) (s : StoreFolder) (n : ℕ) → n ≡ most_tries → AddsSome o a b (MissesMoment o.disk s n) → AddsSome o a b (ReadsStoreBytes o.disk s (Err Unreadable))
  files_missed a b s n is p = (p.0, p.1, AtNoMoment (subst (λ (k : ℕ). MissesMoment o.disk s k p.0) is p.2) refl)

  -- records
  pub records_held : (a b : T) (s : StoreFolder) (files : StoreBytes) (r : Result Records ReadFault) → HoldsRecords o.stores files r [] → AddsSome o a b (ReadsStoreBytes o.disk s (Ok files)) → AddsSome o a b (ReadsRecords o s r)
  records_held a b s files r held p = then_both o a b b (ReadsStoreBytes o.disk s) (HoldsRecords o.stores) files r p ([], adds_none o b, held)

  pub records_unread : (a b : T) (s : StoreFolder) (fault : ReadFault) → AddsSome o a b (ReadsStoreBytes o.disk s (Err fault)) → AddsSome o a b (ReadsRecords o s (Err fault))
  records_unread a b s fault p = then_alone o a b (ReadsStoreBytes o.disk s) (HoldsRecords o.stores) fault p

  pub store_read : (a b : T) (s : StoreFolder) (names : List (List ℕ)) (r : Result Records ReadFault) → (HasHalfStore names → ⊥) → Contains names store_name → AddsSome o a b (ReadsRecords o s r) → AddsSome o a b (ReadsStore o s names r)
  store_read a b s names r half has p = (p.0, p.1, OfWhole half has p.2)

  -- a folder and its store
  pub opened : (a b c : T) (path : List ℕ) (names : List (List ℕ)) (records : Records) → AddsSome o a b (ListsFolder o.disk path (Ok names)) → AddsSome o b c (ReadsStore o (store_of path) names (Ok records)) → AddsSome o a c (Opens o path (Ok (opened_as path names records)))
  opened a b c path names records p q = (p.0 ++ q.0, adds_more o a b c p.0 q.0 p.1 q.1, WithStore names records p.0 q.0 p.2 q.2 refl refl)

  pub no_folder : (a b : T) (path words : List ℕ) (fault : ReadFault) → words ≡ cut_words fault → AddsSome o a b (ListsFolder o.disk path (Err fault)) → AddsSome o a b (Opens o path (Err words))
  no_folder a b path words fault is p = (p.0, p.1, NoFolder fault p.2 (ap Err is))

  pub no_store : (a b c d : T) (path : List ℕ) (names : List (List ℕ)) → AddsSome o a b (ListsFolder o.disk path (Ok names)) → AddsSome o b c (ReadsStore o (store_of path) names (Err Unreadable)) → Adds o c d (Noted (unread_words path) ∷ []) → AddsSome o a d (Opens o path (Err refused_store))
  no_store a b c d path names p q note = (
    p.0 ++ (q.0 ++ Noted (unread_words path) ∷ []),
    adds_more o a b d p.0 (q.0 ++ Noted (unread_words path) ∷ []) p.1 (adds_more o b c d q.0 (Noted (unread_words path) ∷ []) q.1 note),
    NoStore names p.0 q.0 p.2 q.2 refl refl,
  )

  pub no_room : (a b c : T) (path : List ℕ) (names : List (List ℕ)) → AddsSome o a b (ListsFolder o.disk path (Ok names)) → AddsSome o b c (ReadsStore o (store_of path) names (Err OutOfMemory)) → AddsSome o a c (Opens o path (Err refused_memory))
  no_room a b c path names p q = (p.0 ++ q.0, adds_more o a b c p.0 q.0 p.1 q.1, NoRoomToRead names p.0 q.0 p.2 q.2 refl refl)
