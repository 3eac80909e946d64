-- What `serve` does, one thing after another.
use Rattle.std.proofs.Common.{◌≡◌, ◌∙◌, ◌++◌, ◌∷◌, [], ℕ, zero, suc, List, Option, Some, None, ap, inl, inr, refl, subst, sym, take}
use Rattle.std.specs.Borrow.{Bor}
use Rattle.std.specs.Prelude.{◌≢◌, Result, Ok, Err, option_map}
use Rattle.answer_parts.proofs.PrintLaws.{then_does, then_prints}
use Rattle.answer_parts.specs.Lines.{refusal_words}
use Rattle.answer_parts.specs.Printing.{AtFlush, AtWrite, Performs, Prints, printed}
use Rattle.answer_parts.specs.Refusals.{unread_refusal}
use Rattle.answer_parts.specs.declared.answers.refusals.Refusal.{Refusal}
use Rattle.answer_parts.specs.declared.answers.refusals.Refusal.TheVariants as refusal
use Rattle.command_line.specs.declared.commands.serve.Serve.{Serve}
use Rattle.http_answer.specs.Games.{AreOfOne, GamesByClock, unread_games}
use Rattle.http_answer.specs.Reads.{GamePaths}
use Rattle.line_teller.specs.ToldLines.{refused_memory}
use Rattle.move_msg.specs.ToldBy.{told_by}
use Rattle.move_msg.specs.ToldManifests.{TellsManifest, ToldManifest}
use Rattle.move_msg.specs.declared.told.Manifest.{Manifest}
use Rattle.move_msg.specs.declared.told.Manifest.TheVariants.{Unnamed}
use Rattle.system_io.specs.Disks.{DiskFacts}
use Rattle.system_io.specs.declared.output.WriteFault.{WriteFault}
use Rattle.system_io.specs.declared.reading.ReadFault.{ReadFault}
use Rattle.table_commands.specs.FolderAnswers.{IsSound}
use Rattle.table_folder.specs.Folders.{Folder, FolderOn}
use Rattle.table_folder.specs.declared.files.SystemFiles.{SystemFiles}
use Rattle.table_folder.specs.Reads.{OpensFolder}
use Rattle.task_files.specs.InputReads.{Both, FileIs, FileIsNot, FirstAlone, LinesAre, NoRoomForLines, ReadsFile, ReadsLines, ReadsManifest}
use Rattle.task_files.specs.Outside.{IsToldAt}
use Rattle.timeline.proofs.EventLaws.{adds_more, adds_none}
use Rattle.timeline.specs.Events.{Event, Flushed, Noted, Refused, Wrote}
use Rattle.timeline.specs.Outsides.{Adds, AddsSome, Outside}
use Rattle.timeline.specs.declared.stream.Stream.TheVariants.{Output}
use Rattle.serve_core.specs.GamesNamed.{games_for}
use Rattle.serve_core.specs.Inside.{GoesOut, ReadsSound}
use Rattle.serve_core.specs.Refusals.{refusal_for}
use Rattle.serve_core.specs.Serve.{AllAnswered, AnswersRequests, AreOpen, BadManifest, Begins, IsLost, IsNoted, IsReady, IsRefused, MayNote, NoFolder, NoManifest, NoRoom, NoTables, NotAwaited, NotBound, NotNoted, OfFolder, OpensTables, RefusesTables, ServesFolder, ServesIf, TellsLost, lost_front, manifest_path, paths_named, ready_line}
use Rattle.serve_core.specs.declared.refusals.Unbound.{Unbound}
use Rattle.serve_core.specs.declared.task.Serving.{Serving}

-- ---- a manifest that was read is told by its file

ok_same : {A E : Type 0} (x y : A) → ◌≡◌ {A = Result A E} (Ok x) (Ok y) → x ≡ y
ok_same x y e = cc

abbrev IsWell : {A E : Type 0} → Result A E → Type 0
IsWell (Ok a) = Unit {0}
IsWell (Err e) = ⊥

not_err : {A E : Type 0} (x : A) (f : E) → ◌≡◌ {A = Result A E} (Ok x) (Err f) → ⊥
not_err {A} {E} x f e = subst (IsWell {A = A} {E = E}) e tt

lines_told : (text : List ℕ) (m : Manifest) (events : List Event) (r : Result Manifest ReadFault) → ReadsLines text r events → r ≡ Ok m → (t : ToldManifest) × TellsManifest text t × (told_by m ≡ Some t)
lines_told text m events r (LinesAre manifest told tells is gives) e = (told, tells, ap told_by (ok_same m manifest (sym e ∙ gives.0)) ∙ is)
lines_told text m events r (NoRoomForLines is none) e = absurd (not_err m _ (sym e ∙ is))

told_in : (disk : DiskFacts) (path : List ℕ) (m : Manifest) (events : List Event) → ReadsManifest disk (Some path) (Ok m) events → IsToldAt disk (Some path) (told_by m)
told_in disk path m events (Both text before after (FileIs bytes holds same is) lines all) =
    let at = ok_same text bytes same in
    (bytes, holds.0, holds.1, lines_told bytes m after (Ok m) (subst (λ (t : List ℕ). ReadsLines t (Ok m) after) at lines) refl)
told_in disk path m events (Both text before after (FileIsNot fault cause same is) lines all) = absurd (not_err text fault same)
told_in disk path m events (FirstAlone fault first is) = absurd (not_err m fault is)

pub told_at : (disk : DiskFacts) (path : Option (List ℕ)) (m : Manifest) (events : List Event) → ReadsManifest disk path (Ok m) events → IsToldAt disk path (told_by m)
told_at disk None m events h = ap told_by (ok_same m Unnamed h.0)
told_at disk (Some path) m events h = told_in disk path m events h

-- ---- the folders of games are on the system of the task

pub games_one : {C G : Type 0} (by : Serving C G) (t : Serve) (tables : FolderOn (SystemFiles G)) (games : Option (GamesByClock G C)) → tables.disk.system.now ≡ by.system.now → games ≡ games_for by t → AreOfOne tables games
games_one {C} {G} by t tables games same is = subst (AreOfOne tables) (sym is) (of_named t.games)
  where
    of_named : (named : Option (Bor (List ℕ))) → AreOfOne tables (option_map (λ (g : Bor (List ℕ)). unread_games {C = C} (record { system = by.system.now; games = g.now; other = option_map (λ (s : Bor (List ℕ)). s.now) t.other }) by.times.now) named)
    of_named None = tt
    of_named (Some g) = sym same

-- ---- the tables

module _ {T P F K S L : Type 0} (o : Outside T P F K S L) (t : Serve) where
  pub sound_read : (a b : T) (manifest : Manifest) → IsSound (told_by manifest) → AddsSome o a b (ReadsManifest o.disk (manifest_path t) (Ok manifest)) → AddsSome o a b (ReadsSound o.disk t (Ok manifest))
  sound_read a b manifest sound p = (p.0, p.1, (p.2, sound))

  pub bad_read : (a b : T) (manifest : Manifest) (line : ℕ) → told_by manifest ≡ Some (Err line) → AddsSome o a b (ReadsManifest o.disk (manifest_path t) (Ok manifest))
      → AddsSome o a b (ReadsSound o.disk t (Err (refusal.Manifest line)))
  bad_read a b manifest line bad p = (p.0, p.1, BadManifest manifest line p.2 bad refl)

  pub not_read : (a b : T) (fault : ReadFault) (refused : Refusal) → refused ≡ unread_refusal fault → AddsSome o a b (ReadsManifest o.disk (manifest_path t) (Err fault)) → AddsSome o a b (ReadsSound o.disk t (Err refused))
  not_read a b fault refused is p = (p.0, p.1, NoManifest fault p.2 (ap Err is))

  pub refused_so : (a b c : T) (refused : Refusal) (r : Result ℕ WriteFault) → AddsSome o a b (OpensTables o.disk t (Err refused)) → AddsSome o b c (Performs (Prints (refusal_words refused ∷ []) 1) r) → AddsSome o a c (Performs (RefusesTables o.disk t) r)
  refused_so a b c refused r p q = then_prints o a b c p.0 (RefusesTables o.disk t) (refusal_words refused ∷ []) 1 r (NoTables refused p.0 p.2 refl refl) p.1 q

  pub folder_refused : (a b c : T) (manifest : Manifest) (fault : ReadFault) (refused : Refusal) → refused ≡ unread_refusal fault → AddsSome o a b (ReadsSound o.disk t (Ok manifest)) → AddsSome o b c (OpensFolder o.disk t.tables.now manifest (Err fault))
      → AddsSome o a c (OpensTables o.disk t (Err refused))
  folder_refused a b c manifest fault refused is p q = (p.0 ++ q.0, adds_more o a b c p.0 q.0 p.1 q.1, NoFolder manifest fault p.0 q.0 p.2.0 p.2.1 q.2 (ap Err is) refl)

  pub folder_open : (a b c : T) (manifest : Manifest) (folder : Folder) → AddsSome o a b (ReadsSound o.disk t (Ok manifest)) → AddsSome o b c (OpensFolder o.disk t.tables.now manifest (Ok folder)) → AddsSome o a c (OpensTables o.disk t (Ok folder))
  folder_open a b c manifest folder p q = (p.0 ++ q.0, adds_more o a b c p.0 q.0 p.1 q.1, AreOpen manifest folder p.0 q.0 p.2.0 p.2.1 q.2 refl refl)

-- ---- the address

module _ {T P F K S L : Type 0} (o : Outside T P F K S L) where
  pub out_whole : (a b c : T) (bytes text : List ℕ) → bytes ≡ text → AddsSome o a b (λ more. more ≡ Wrote Output bytes ∷ []) → Adds o b c (Flushed Output ∷ []) → Adds o a c (Wrote Output text ∷ Flushed Output ∷ [])
  out_whole a b c bytes text same p q =
      subst (λ (t : List ℕ). Adds o a c (Wrote Output t ∷ Flushed Output ∷ [])) same
      (subst (λ (e : List Event). Adds o a c (e ++ Flushed Output ∷ [])) p.2 (adds_more o a b c p.0 (Flushed Output ∷ []) p.1 q))

  pub has_gone : (a c : T) (text : List ℕ) → Adds o a c (Wrote Output text ∷ Flushed Output ∷ []) → AddsSome o a c (Performs (GoesOut text) (Ok 0))
  has_gone a c text p = (Wrote Output text ∷ Flushed Output ∷ [], p, (refl, refl))

  pub is_stuck : (a b c : T) (bytes text : List ℕ) (fault : WriteFault) → bytes ≡ text → AddsSome o a b (λ more. more ≡ Wrote Output bytes ∷ []) → Adds o b c (Refused Output ∷ []) → AddsSome o a c (Performs (GoesOut text) (Err fault))
  is_stuck a b c bytes text fault same p q = (
    p.0 ++ Refused Output ∷ [],
    adds_more o a b c p.0 (Refused Output ∷ []) p.1 q,
    (Wrote Output text ∷ Flushed Output ∷ [], Some 0, (refl, refl), AtFlush (Wrote Output text ∷ []) [] refl (ap (λ (e : List Event). e ++ Refused Output ∷ []) (p.2 ∙ ap (λ (x : List ℕ). Wrote Output x ∷ []) same))),
  )

  pub is_cut : (a b : T) (bytes text : List ℕ) (fault : WriteFault) → bytes ≡ text → AddsSome o a b (λ more. (n : ℕ) × (more ≡ Wrote Output (take n bytes) ∷ Refused Output ∷ [])) → AddsSome o a b (Performs (GoesOut text) (Err fault))
  is_cut a b bytes text fault same p = (
    p.0,
    p.1,
    (Wrote Output text ∷ Flushed Output ∷ [], Some 0, (refl, refl), AtWrite [] text (Flushed Output ∷ []) refl p.2.0 (p.2.1 ∙ ap (λ (x : List ℕ). Wrote Output (take p.2.0 x) ∷ Refused Output ∷ []) same)),
  )

-- ---- a folder that is served

module _ {T P F K S L : Type 0} (o : Outside T P F K S L) (t : Serve) (folder : Folder) where
  pub no_room : (a b : T) (r : Result ℕ WriteFault) → AddsSome o a b (Performs (Prints (refused_memory ∷ []) 1) r) → ServesFolder o t folder None a b r
  no_room a b r p = NotAwaited (then_does o a a b [] (Prints (refused_memory ∷ []) 1) (Begins None) r (λ events is h. NoRoom refl h) (adds_none o a) p)

  pub not_bound : (a b : T) (u : Unbound) (refused : Refusal) (r : Result ℕ WriteFault) → refused ≡ refusal_for u → AddsSome o a b (Performs (Prints (refusal_words refused ∷ []) 1) r) → ServesFolder o t folder (Some u) a b r
  not_bound a b u refused r is p =
      NotAwaited (then_does o a a b [] (Prints (refusal_words refused ∷ []) 1) (Begins (Some u)) r (λ events status h. NotBound u refl (subst (λ (x : Refusal). Prints (refusal_words x ∷ []) 1 events status) is h)) (adds_none o a) p)

  pub not_out : (a b : T) (text address : List ℕ) (fault : WriteFault) → text ≡ ready_line address → AddsSome o a b (Performs (GoesOut text) (Err fault)) → ServesFolder o t folder None a b (Err fault)
  not_out a b text address fault is (events, p, (all, status, whole, cut)) =
      NotAwaited (events, p, (all, None, IsReady address refl (whole.0 ∙ ap (λ (x : List ℕ). Wrote Output x ∷ Flushed Output ∷ []) is) refl, cut))

  out_as : (a b : T) (text address : List ℕ) (status : ℕ) → text ≡ ready_line address → AddsSome o a b (Performs (GoesOut text) (Ok status)) → Adds o a b (Wrote Output (ready_line address) ∷ Flushed Output ∷ [])
  out_as a b text address status is p = subst (λ (e : List Event). Adds o a b e) (p.2.0 ∙ ap (λ (x : List ℕ). Wrote Output x ∷ Flushed Output ∷ []) is) p.1

  by_words : (a b : T) (games : Option GamePaths) → games ≡ paths_named t → AddsSome o a b (AnswersRequests o t.log folder games) → AddsSome o a b (AnswersRequests o t.log folder (paths_named t))
  by_words a b games named p = subst (λ (g : Option GamePaths). AddsSome o a b (AnswersRequests o t.log folder g)) named p

  pub all_answered : (a b c : T) (games : Option GamePaths) (text address : List ℕ) (status : ℕ) → games ≡ paths_named t → text ≡ ready_line address → AddsSome o a b (Performs (GoesOut text) (Ok status)) → AddsSome o b c (AnswersRequests o t.log folder games) → ServesFolder o t folder None a c (Ok 0)
  all_answered a b c games text address status named is p answers = AllAnswered address b refl (out_as a b text address status is p) (by_words b c games named answers) refl

  pub is_lost : (a b c d : T) (games : Option GamePaths) (text address : List ℕ) (status : ℕ) (u : Unbound) (r : Result ℕ WriteFault) → games ≡ paths_named t → text ≡ ready_line address → AddsSome o a b (Performs (GoesOut text) (Ok status)) → AddsSome o b c (AnswersRequests o t.log folder games)
      → AddsSome o c d (Performs (TellsLost u) r) → ServesFolder o t folder None a d r
  is_lost a b c d games text address status u r named is p answers q = IsLost address b c u refl (out_as a b text address status is p) (by_words b c games named answers) q

-- ---- notes

module _ {T P F K S L : Type 0} (o : Outside T P F K S L) where
  pub noted_so : (a b : T) (front line why : List ℕ) → line ≡ front ++ why → Adds o a b (Noted line ∷ []) → AddsSome o a b (MayNote front)
  noted_so a b front line why is p = (Noted line ∷ [], p, IsNoted why (ap (λ (l : List ℕ). Noted l ∷ []) is))

  pub not_noted : (a : T) (front : List ℕ) → AddsSome o a a (MayNote front)
  not_noted a front = ([], adds_none o a, NotNoted refl)

  pub lost_told : (a b c : T) (u : Unbound) (refused : Refusal) (r : Result ℕ WriteFault) → refused ≡ refusal_for u → AddsSome o a b (MayNote lost_front) → AddsSome o b c (Performs (Prints (refusal_words refused ∷ []) 1) r)
      → AddsSome o a c (Performs (TellsLost u) r)
  lost_told a b c u refused r is p q =
      then_prints o a b c p.0 (TellsLost u) (refusal_words refused ∷ []) 1 r (p.0, p.2, ap (λ (x : Refusal). p.0 ++ printed (refusal_words x ∷ [])) is, refl) p.1 q

  -- ---- a status that isn't 0

  abbrev IsDone : Result ℕ WriteFault → Type 0
  IsDone (Ok zero) = Unit {0}
  IsDone (Ok (suc n)) = ⊥
  IsDone (Err fault) = ⊥

  abbrev IsOne : Option ℕ → Type 0
  IsOne None = ⊥
  IsOne (Some zero) = ⊥
  IsOne (Some (suc n)) = Unit {0}

  pub one_is_refused : (a b : T) (lines : List (List ℕ)) (r : Result ℕ WriteFault) → AddsSome o a b (Performs (Prints lines 1) r) → r ≢ Ok 0
  one_is_refused a b lines (Ok zero) p e = subst IsOne (sym p.2.1) tt
  one_is_refused a b lines (Ok (suc n)) p e = subst IsDone (sym e) tt
  one_is_refused a b lines (Err fault) p e = subst IsDone (sym e) tt

  pub fault_is_refused : (r : Result ℕ WriteFault) (fault : WriteFault) → r ≡ Err fault → r ≢ Ok 0
  fault_is_refused r fault is e = subst IsDone (sym e ∙ is) tt
