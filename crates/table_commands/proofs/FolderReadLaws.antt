-- What is read while an answer is made by tables that are read when positions ask for them.
use Rattle.std.proofs.Common.{◌≡◌, ◌++◌, ◌∙◌, ◌⊎◌, [], ℕ, false, List, Option, Some, None, Result, Ok, Err, ap, append-nil, inl, inr, refl, subst, sym}
use Rattle.std.proofs.lemmas.Bool.{false≢true}
use Rattle.std.specs.Prelude.{IfErr, IfOk, replicate}
use Rattle.std.specs.Result.{IsErr}
use Rattle.std.specs.declared.alloc.AllocError.{AllocError}
use Rattle.board_core.specs.Position.{IsPosition}
use Rattle.board_core.specs.declared.parts.Parts.{Parts}
use Rattle.fen_text.specs.Fen.{IsFirstFenFault, SpellsPosition}
use Rattle.fen_text.specs.declared.fault.FenFault.{FenFault}
use Rattle.judge_core.specs.ProbeResult.{IsProbed}
use Rattle.judge_core.specs.Ruling.{ruling}
use Rattle.judge_core.specs.Tables.{Tables}
use Rattle.json_lines.specs.Told.{IsLineOf}
use Rattle.json_lines.specs.declared.told.JsonLine.{JsonLine}
use Rattle.json_lines.specs.declared.told.JsonLine.TheVariants as line
use Rattle.judge_core.specs.declared.ask.Ask.TheVariants.{Strict}
use Rattle.judge_core.specs.declared.display.Columns.{Columns}
use Rattle.move_msg.specs.ToldBy.{told_by}
use Rattle.move_msg.specs.declared.told.Manifest.{Manifest}
use Rattle.system_io.proofs.HistoryLaws.{Passes-nil}
use Rattle.system_io.specs.Disks.{DiskFacts}
use Rattle.system_io.specs.declared.reading.ReadFault.{ReadFault}
use Rattle.system_io.specs.declared.reading.ReadFault.TheVariants as read
use Rattle.table_folder.proofs.Only as only
use Rattle.table_folder.proofs.Reading.{opens_none, opens_till, passes_both, passes_so}
use Rattle.table_folder.specs.Folders.{AreOf, Folder, FolderOn}
use Rattle.table_folder.specs.Reads.{OpensTables, PassesSome, refusal_of}
use Rattle.table_folder.specs.Settled.{AddsOnlyMissed, AreSettled, IsAlone, IsRefusedAt, IsRefusedFor, IsSettled}
use Rattle.table_folder.specs.declared.fault.FileRefusal.{FileRefusal}
use Rattle.task_files.specs.InputReads.{Reading}
use Rattle.timeline.specs.Events.{Event}
use Rattle.answer_parts.specs.Asked.{reply_of}
use Rattle.answer_parts.specs.Reply.{ByTables, Reply, refusal_reply}
use Rattle.answer_parts.specs.declared.answers.Answer.{Answer}
use Rattle.answer_parts.specs.declared.answers.refusals.Refusal.{Refusal}
use Rattle.answer_parts.specs.declared.answers.refusals.Refusal.TheVariants as refusal
use Rattle.table_commands.specs.FolderReads.{Apart, ByThese, FindsBy, FindsIn, FindsKept, ForNoRoom, ForTheFile, InFolderOf, IsAsOpened, IsReplyOf, Kept, MakesForText, MakesInFolder, MakesOfGiven, NoRoomBehind, NoRoomToOpen, NotOpened, OpensAt, OpensMissed, OpensToAsk, TextIs, TextIsNone, found_by, made_reply, no_tables}
use Rattle.table_commands.specs.FolderAnswers.{TablesOn}
use Rattle.table_commands.specs.Inside.LookingUp.{AreColumns}
use Rattle.table_commands.proofs.FolderLaws.{alone}

-- ---- by tables that are open

same_error : (a b : AllocError) → a ≡ b
same_error a b = refl

module _ {X : Type 0} (disk : DiskFacts) (folder : Folder) (IsNeeded : Tables → Parts → Type 0) (Is : Tables → X → Type 0) (old : Tables) where
  -- the tables that are missed were opened, and then it was found
  pub found_then : (mid new : Tables) (x : X) (a b : Option (List Event)) → new ≡ mid → AreOf disk folder mid → AddsOnlyMissed disk folder IsNeeded old mid → AreSettled folder mid IsNeeded → Is mid x → PassesSome a b (OpensTables disk folder old mid (Ok None)) → PassesSome a b (FindsBy disk folder IsNeeded Is old new (Ok (Ok x)))
  found_then mid new x a b same are only settled is p =
      subst (λ tables. PassesSome a b (FindsBy disk folder IsNeeded Is old tables (Ok (Ok x)))) (sym same) (p.0, p.1, ByThese (record { only = only; reads = p.2 }) are settled x is refl)

  -- the file of one of them is refused
  pub found_none : (new : Tables) (file : FileRefusal) (a b : Option (List Event)) → AddsOnlyMissed disk folder IsNeeded old new → IsRefusedFor disk folder IsNeeded file → PassesSome a b (OpensTables disk folder old new (Ok (Some file))) → PassesSome a b (FindsBy disk folder IsNeeded Is old new (Ok (Err file)))
  found_none new file a b only refused p = (p.0, p.1, ForTheFile file (record { only = only; reads = p.2 }) refused refl)

  -- memory is, for one of them, or behind them
  pub no_room : (new : Tables) (e : AllocError) (a b : Option (List Event)) → AddsOnlyMissed disk folder IsNeeded old new → PassesSome a b (OpensTables disk folder old new (Err e)) → PassesSome a b (FindsBy disk folder IsNeeded Is old new (Err e))
  no_room new e a b only p = (p.0, p.1, ForNoRoom e (record { only = only; reads = p.2 }) refl)

  pub no_room_then : (mid new : Tables) (e : AllocError) (a b : Option (List Event)) → new ≡ mid → AddsOnlyMissed disk folder IsNeeded old mid → PassesSome a b (OpensTables disk folder old mid (Ok None)) → PassesSome a b (FindsBy disk folder IsNeeded Is old new (Err e))
  no_room_then mid new e a b same only p =
      subst (λ tables. PassesSome a b (FindsBy disk folder IsNeeded Is old tables (Err e))) (sym same) (no_room mid e a b only (passes_so a b _ _ (opens_till disk folder old mid e) p))

  -- the same of what was opened
  pub by_these : (new : Tables) (x : X) (a b : Option (List Event)) → AreOf disk folder new → AreSettled folder new IsNeeded × Is new x → PassesSome a b (OpensMissed disk folder IsNeeded old new (Ok None)) → PassesSome a b (FindsBy disk folder IsNeeded Is old new (Ok (Ok x)))
  by_these new x a b are is p = (p.0, p.1, ByThese p.2 are is.0 x is.1 refl)

  pub for_file : (new : Tables) (file : FileRefusal) (a b : Option (List Event)) → IsRefusedFor disk folder IsNeeded file → PassesSome a b (OpensMissed disk folder IsNeeded old new (Ok (Some file))) → PassesSome a b (FindsBy disk folder IsNeeded Is old new (Ok (Err file)))
  for_file new file a b refused p = (p.0, p.1, ForTheFile file p.2 refused refl)

  pub for_room : (new : Tables) (e : AllocError) (a b : Option (List Event)) → PassesSome a b (OpensMissed disk folder IsNeeded old new (Err e)) → PassesSome a b (FindsBy disk folder IsNeeded Is old new (Err e))
  for_room new e a b p = (p.0, p.1, ForNoRoom e p.2 refl)

  -- it stays open, or not
  pub found_kept : (new : Tables) (r : Result X FileRefusal) (a b : Option (List Event)) → PassesSome a b (FindsBy disk folder IsNeeded Is old new (Ok r)) → PassesSome a b (FindsKept disk folder IsNeeded Is old new (Ok r))
  found_kept new r a b p = (p.0, p.1, Kept r p.2 refl)

  pub found_alone : (new alone : Tables) (e : AllocError) (found : Result (Result X FileRefusal) AllocError) (a b c : Option (List Event)) → PassesSome a b (FindsBy disk folder IsNeeded Is old new (Err e)) → PassesSome b c (FindsBy disk folder IsNeeded Is no_tables alone found) → PassesSome a c (FindsKept disk folder IsNeeded Is old new found)
  found_alone new alone e found a b c p q = passes_both a b c _ _ _ (λ first second fails finds. Apart e alone first second fails finds refl) p q

  pub found_nowhere : (new : Tables) (e other : AllocError) (a b : Option (List Event)) → PassesSome a b (FindsBy disk folder IsNeeded Is old new (Err e)) → PassesSome a b (FindsKept disk folder IsNeeded Is old new (Err other))
  found_nowhere new e other a b p =
      passes_so a b _ _ (λ events fails. Apart e no_tables events [] fails (ForNoRoom other (record { only = only.adds_none disk folder IsNeeded no_tables; reads = opens_till disk folder no_tables no_tables other [] (opens_none disk folder no_tables) }) refl) (sym (append-nil events))) p

-- what a settled position comes to
module _ (disk : DiskFacts) (folder : Folder) (p : Parts) where
  pub columns_found : (old new : Tables) (r : Result (Result Columns FileRefusal) AllocError) (a b : Option (List Event)) → AreOf disk folder new → AddsOnlyMissed disk folder (IsAlone p) old new
      → IfOk r (λ s. IfOk s (λ c. IsProbed new p c.probed)) → IfOk r (λ s. IfOk s (λ c. c.verdict ≡ ruling new p)) → IfOk r (λ s. IfOk s (λ c. IsSettled folder new p)) → IfOk r (λ s. IfErr s (IsRefusedAt disk folder p))
      → PassesSome a b (OpensTables disk folder old new (refusal_of r)) → PassesSome a b (FindsBy disk folder (IsAlone p) (AreColumns p) old new r)
  columns_found old new (Ok (Ok c)) a b are missed probed verdict settled refused q = found_then disk folder (IsAlone p) (AreColumns p) old new new c a b refl are missed (alone folder new p settled) (probed, verdict) q
  columns_found old new (Ok (Err file)) a b are missed probed verdict settled refused q =
      found_none disk folder (IsAlone p) (AreColumns p) old new file a b missed (record { position = p; tables = new; opened = are; needed = λ more of kept. refl; refused = refused }) q
  columns_found old new (Err e) a b are missed probed verdict settled refused q = no_room disk folder (IsAlone p) (AreColumns p) old new e a b missed q

-- over a folder whose files are somewhere: by the tables that stay open, or by others
module _ {D L X : Type 0} (facts : D → DiskFacts) (events : D → L → Option (List Event)) (IsNeeded : Tables → Parts → Type 0) (Is : Tables → X → Type 0) (on : FolderOn D) (old new : Tables) (e : AllocError) (x y : L) (fails : PassesSome (events on.disk x) (events on.disk y) (FindsBy (facts on.disk) on.folder IsNeeded Is old new (Err e))) where
  pub found_apart : (other : FolderOn D) (empty alone : Tables) (z : L) (found : Result (Result X FileRefusal) AllocError) → other ≡ on → empty ≡ no_tables
      → PassesSome (events other.disk y) (events other.disk z) (FindsBy (facts other.disk) other.folder IsNeeded Is empty alone found)
      → PassesSome (events on.disk x) (events on.disk z) (FindsKept (facts on.disk) on.folder IsNeeded Is old new found)
  found_apart other empty alone z found same none q =
      let there = subst (λ (o : FolderOn D). PassesSome (events o.disk y) (events o.disk z) (FindsBy (facts o.disk) o.folder IsNeeded Is empty alone found)) same q in
      let here = subst (λ (t : Tables). PassesSome (events on.disk y) (events on.disk z) (FindsBy (facts on.disk) on.folder IsNeeded Is t alone found)) none there in
      found_alone (facts on.disk) on.folder IsNeeded Is old new alone e found _ _ _ fails here

-- ---- what is found by the folder at a path

module _ (disk : DiskFacts) (path : List ℕ) (manifest : Manifest) (a b : Option (List Event)) where
  -- a folder was opened, or not; or memory was refused behind it
  pub opened_to : (found : Result (Result Folder Refusal) AllocError) → PassesSome a b (OpensAt disk path manifest found) → PassesSome a b (OpensToAsk disk path manifest found)
  opened_to found p = (p.0, p.1, IsAsOpened p.2)

  pub no_room_to : (folder : Folder) (e : AllocError) → PassesSome a b (OpensAt disk path manifest (Ok (Ok folder))) → PassesSome a b (OpensToAsk disk path manifest (Err e))
  no_room_to folder e p = (p.0, p.1, NoRoomBehind folder p.2 e refl)

module _ {X : Type 0} (disk : DiskFacts) (path : List ℕ) (manifest : Manifest) (IsNeeded : Tables → Parts → Type 0) (Is : Tables → X → Type 0) where
  pub not_opened : (refused : Refusal) (a b : Option (List Event)) → PassesSome a b (OpensToAsk disk path manifest (Ok (Err refused))) → PassesSome a b (FindsIn disk path manifest IsNeeded Is (Ok (Err refused)))
  not_opened refused a b p = (p.0, p.1, NotOpened refused p.2 refl)

  pub no_folder : (e other : AllocError) (a b : Option (List Event)) → PassesSome a b (OpensToAsk disk path manifest (Err e)) → PassesSome a b (FindsIn disk path manifest IsNeeded Is (Err other))
  no_folder e other a b p = (p.0, p.1, NoRoomToOpen e p.2 (ap Err (same_error other e)))

  pub found_in : (folder : Folder) (tables : Tables) (r : Result (Result X FileRefusal) AllocError) (a b c : Option (List Event)) → PassesSome a b (OpensToAsk disk path manifest (Ok (Ok folder))) → PassesSome b c (FindsBy disk folder IsNeeded Is no_tables tables r) → PassesSome a c (FindsIn disk path manifest IsNeeded Is (found_by r))
  found_in folder tables r a b c p q = passes_both a b c _ _ _ (λ listing reading opens finds. InFolderOf folder tables r listing reading opens finds refl refl) p q

-- the same over a folder whose files are somewhere, with a set of its own
pub found_in_set : {D L X : Type 0} (facts : D → DiskFacts) (events : D → L → Option (List Event)) (IsNeeded : Tables → Parts → Type 0) (Is : Tables → X → Type 0) (d : D) (on : FolderOn D) (empty tables : Tables) (path : List ℕ) (manifest : Manifest) (r : Result (Result X FileRefusal) AllocError) (x y z : L) → on.disk ≡ d → empty ≡ no_tables
    → PassesSome (events d x) (events d y) (OpensToAsk (facts d) path manifest (Ok (Ok on.folder))) → PassesSome (events on.disk y) (events on.disk z) (FindsBy (facts on.disk) on.folder IsNeeded Is empty tables r)
    → PassesSome (events d x) (events d z) (FindsIn (facts d) path manifest IsNeeded Is (found_by r))
found_in_set facts events IsNeeded Is d on empty tables path manifest r x y z same none p q =
    let bare = subst (λ t. PassesSome (events on.disk y) (events on.disk z) (FindsBy (facts on.disk) on.folder IsNeeded Is t tables r)) none q in
    let here = subst (λ k. PassesSome (events k y) (events k z) (FindsBy (facts k) on.folder IsNeeded Is no_tables tables r)) same bare in
    found_in (facts d) path manifest IsNeeded Is on.folder tables r _ _ _ p here

-- ---- replies

-- what is found as something else
abbrev pub found_as : {X Y : Type 0} → (X → Y) → Result (Result X Refusal) AllocError → Result (Result Y Refusal) AllocError
found_as f (Ok (Ok x)) = Ok (Ok (f x))
found_as f (Ok (Err refused)) = Ok (Err refused)
found_as f (Err e) = Err e

abbrev pub asked_as : {X Y : Type 0} → (X → Y) → Result (Result X FileRefusal) AllocError → Result (Result Y FileRefusal) AllocError
asked_as f (Ok (Ok x)) = Ok (Ok (f x))
asked_as f (Ok (Err file)) = Ok (Err file)
asked_as f (Err e) = Err e

by_as : {X Y : Type 0} (f : X → Y) (r : Result (Result X FileRefusal) AllocError) → found_as f (found_by r) ≡ found_by (asked_as f r)
by_as f (Ok (Ok x)) = refl
by_as f (Ok (Err file)) = refl
by_as f (Err e) = refl

module _ {X Y : Type 0} (IsNeeded : Tables → Parts → Type 0) (Is : Tables → X → Type 0) (So : Tables → Y → Type 0) (f : X → Y) (so : (tables : Tables) (x : X) → Is tables x → So tables (f x)) (disk : DiskFacts) where
  pub by_so : (folder : Folder) (old new : Tables) (r : Result (Result X FileRefusal) AllocError) (events : List Event) → FindsBy disk folder IsNeeded Is old new r events → FindsBy disk folder IsNeeded So old new (asked_as f r) events
  by_so folder old new r events (ByThese opens are settled x is e) = ByThese opens are settled (f x) (so new x is) (ap (asked_as f) e)
  by_so folder old new r events (ForTheFile file opens refused e) = ForTheFile file opens refused (ap (asked_as f) e)
  by_so folder old new r events (ForNoRoom fault opens e) = ForNoRoom fault opens (ap (asked_as f) e)

  pub kept_so : (folder : Folder) (old new : Tables) (r : Result (Result X FileRefusal) AllocError) (events : List Event) → FindsKept disk folder IsNeeded Is old new r events → FindsKept disk folder IsNeeded So old new (asked_as f r) events
  kept_so folder old new r events (Kept (Ok x) finds e) = Kept (Ok (f x)) (by_so folder old new (Ok (Ok x)) events finds) (ap (asked_as f) e)
  kept_so folder old new r events (Kept (Err file) finds e) = Kept (Err file) (by_so folder old new (Ok (Err file)) events finds) (ap (asked_as f) e)
  kept_so folder old new r events (Apart fault alone first second fails finds e) = Apart fault alone first second (by_so folder old new (Err fault) first fails) (by_so folder no_tables alone r second finds) e

  finds_so : (path : List ℕ) (manifest : Manifest) (found : Result (Result X Refusal) AllocError) (events : List Event) → FindsIn disk path manifest IsNeeded Is found events → FindsIn disk path manifest IsNeeded So (found_as f found) events
  finds_so path manifest found events (NotOpened refused opens is) = NotOpened refused opens (ap (found_as f) is)
  finds_so path manifest found events (NoRoomToOpen e opens is) = NoRoomToOpen e opens (ap (found_as f) is)
  finds_so path manifest found events (InFolderOf folder tables r listing reading opens finds is made) =
      InFolderOf folder tables (asked_as f r) listing reading opens (by_so folder no_tables tables r reading finds) (ap (found_as f) is ∙ by_as f r) made

-- the line of a position by its columns
abbrev line_of : Parts → Columns → JsonLine
line_of p c = line.Position (record { position = p; columns = c })

module _ (disk : DiskFacts) (folder : Folder) (p : Parts) (old new : Tables) where
  is_line : (tables : Tables) (c : Columns) → AreColumns p tables c → IsLineOf Strict false tables p (line_of p c)
  is_line tables c are = record { position = refl; probed = are.0; verdict = are.1 }

  told_kept : (r : Result (Result Columns FileRefusal) AllocError) (a b : Option (List Event)) → PassesSome a b (FindsKept disk folder (IsAlone p) (AreColumns p) old new r) → PassesSome a b (FindsKept disk folder (IsAlone p) (λ tables l. IsLineOf Strict false tables p l) old new (asked_as (line_of p) r))
  told_kept r a b q = passes_so a b _ _ (λ events finds. kept_so (IsAlone p) (AreColumns p) (λ tables l. IsLineOf Strict false tables p l) (line_of p) is_line disk folder old new r events finds) q

  pub columns_told : (c : Columns) (a b : Option (List Event)) → PassesSome a b (FindsKept disk folder (IsAlone p) (AreColumns p) old new (Ok (Ok c))) → PassesSome a b (FindsKept disk folder (IsAlone p) (λ tables l. IsLineOf Strict false tables p l) old new (Ok (Ok (line.Position (record { position = p; columns = c })))))
  columns_told c a b q = told_kept (Ok (Ok c)) a b q

  pub for_columns : (file : FileRefusal) (a b : Option (List Event)) → PassesSome a b (FindsKept disk folder (IsAlone p) (AreColumns p) old new (Ok (Err file))) → PassesSome a b (FindsKept disk folder (IsAlone p) (λ tables l. IsLineOf Strict false tables p l) old new (Ok (Err file)))
  for_columns file a b q = told_kept (Ok (Err file)) a b q

  pub no_columns : (e : AllocError) (a b : Option (List Event)) → PassesSome a b (FindsKept disk folder (IsAlone p) (AreColumns p) old new (Err e)) → PassesSome a b (FindsKept disk folder (IsAlone p) (λ tables l. IsLineOf Strict false tables p l) old new (Err e))
  no_columns e a b q = told_kept (Err e) a b q

module _ {X : Type 0} (disk : DiskFacts) (path : List ℕ) (manifest : Manifest) (words : Refusal → List ℕ) (IsNeeded : Tables → Parts → Type 0) (Is : Tables → X → Type 0) (So : Tables → Reply → Type 0) (f : X → Reply) (so : (tables : Tables) (x : X) → Is tables x → So tables (f x)) where
  -- a reply of what is found by a folder
  pub makes_of_found : (found : Result (Result X Refusal) AllocError) (result : Result Reply ReadFault) (a b : Option (List Event)) → IsReplyOf words (found_as f found) result → PassesSome a b (FindsIn disk path manifest IsNeeded Is found) → PassesSome a b (MakesInFolder disk path (told_by manifest) words IsNeeded So result)
  makes_of_found found result a b is p = passes_so a b _ _ (λ events finds. (manifest, refl, (found_as f found, finds_so IsNeeded Is So f so disk path manifest found events finds, is))) p

  pub makes_in : (x : X) (result : Result Reply ReadFault) (a b : Option (List Event)) → (result ≡ Ok (f x)) ⊎ (result ≡ Err read.OutOfMemory) → PassesSome a b (FindsIn disk path manifest IsNeeded Is (Ok (Ok x))) → PassesSome a b (MakesInFolder disk path (told_by manifest) words IsNeeded So result)
  makes_in x result a b is p = makes_of_found (Ok (Ok x)) result a b is p

  -- something is refused
  pub makes_refusal : (refused : Refusal) (result : Result Reply ReadFault) (a b : Option (List Event)) → (result ≡ Ok (refusal_reply (words refused))) ⊎ (result ≡ Err read.OutOfMemory) → PassesSome a b (FindsIn disk path manifest IsNeeded Is (Ok (Err refused))) → PassesSome a b (MakesInFolder disk path (told_by manifest) words IsNeeded So result)
  makes_refusal refused result a b is p = makes_of_found (Ok (Err refused)) result a b is p

  -- memory was refused for what is found, and so for the reply
  pub makes_err : (r : Result Answer AllocError) (e : AllocError) (a b : Option (List Event)) → IsErr r → PassesSome a b (FindsIn disk path manifest IsNeeded Is (Err e)) → PassesSome a b (MakesInFolder disk path (told_by manifest) words IsNeeded So (made_reply r))
  makes_err (Ok x) e a b is p = absurd (false≢true is)
  makes_err (Err other) e a b is p = makes_of_found (Err e) (Err read.OutOfMemory) a b refl p

-- an answer that is this reply, or memory was refused for it
pub made_or_not : {E : Type 0} (r : Result Answer E) (reply : Reply) → IfOk r (λ a. reply_of a ≡ reply) → (made_reply r ≡ Ok reply) ⊎ (made_reply r ≡ Err read.OutOfMemory)
made_or_not (Ok a) reply is = inl (ap Ok is)
made_or_not (Err e) reply is = inr refl

-- a reply by tables that were given
pub makes_of_given : {E : Type 0} (tables : Result Tables (List ℕ)) (IsAnswer : Tables → Parts → Reply → Type 0) (p : Parts) (r : Result Answer E) (a : Option (List Event)) → IfOk r (λ x. ByTables tables IsAnswer p (reply_of x)) → PassesSome a a (MakesOfGiven tables IsAnswer p (made_reply r))
makes_of_given tables IsAnswer p (Ok x) a by = ([], Passes-nil a, (refl, inr (reply_of x, refl, by)))
makes_of_given tables IsAnswer p (Err e) a by = ([], Passes-nil a, (refl, inl refl))

-- ---- texts

module _ (text spelled : List ℕ) (refused : FenFault → Reply) (Makes : Parts → Reading Reply) where
  pub makes_for_text : (p : Parts) (r : Result Reply ReadFault) (a b : Option (List Event)) → spelled ≡ text → SpellsPosition spelled p → IsPosition p → PassesSome a b (Makes p r) → PassesSome a b (MakesForText text refused Makes r)
  makes_for_text p r a b same spells is q = (q.0, q.1, TextIs p (subst (λ t. SpellsPosition t p) same spells) is q.2)

  pub makes_for_none : (fault : FenFault) (r : Result Reply ReadFault) (a : Option (List Event)) → spelled ≡ text → IsFirstFenFault spelled fault → r ≡ Ok (refused fault) → PassesSome a a (MakesForText text refused Makes r)
  makes_for_none fault r a same is e = ([], Passes-nil a, TextIsNone fault (subst (λ t. IsFirstFenFault t fault) same is) e refl)
