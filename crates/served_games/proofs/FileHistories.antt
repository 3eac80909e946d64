-- What `start` and `put` promise makes a file durable.
use Rattle.std.proofs.Common.{◌≡◌, ◌⊎◌, inl, inr, ◌∙◌, ℕ, true, false, List, [], ◌∷◌, Option, Some, refl, sym, subst}
use Rattle.std.specs.Prelude.{Result, Ok, Err, IfOk, OnOk, Vec}
use Rattle.std.specs.declared.alloc.Global.{Global}
use Rattle.system_io.specs.KeptFiles.{FindsOldOrNew, IsOneOfFound, bytes_of}
use Rattle.system_io.specs.declared.reading.ReadFault.{ReadFault}
use Rattle.timeline.specs.Events.{Event, Found, Put, found_by, is_done}
use Rattle.timeline.specs.Outsides.{IsConsistent, LeavesOldOrNew, Outside}
use Rattle.game_folder.specs.Places.{InFile}
use Rattle.served_games.specs.Durable.{FindsWhatMay, IsDurableAfter, MayFind}
use Rattle.served_games.specs.FileHistories.{ByCall, CallsFile, CutOff, Elsewhere, FailsAnew, FileState, FilesAreDurable, FoundAnew, GoesOnFile, LeftBy, IsBehindOne, IsElsewhere, IsFileHistory, IsFoundThere, PutFails, Puts, StartFails, Starts, StopsInPut, Unknown}

got_same : (a b : Option (List ℕ)) → ◌≡◌ {A = Result (Option (List ℕ)) ReadFault} (Ok a) (Ok b) → a ≡ b
got_same a b e = cc

found_same : (path other : List ℕ) (a b : Result (Option (List ℕ)) ReadFault) → Found path a ≡ Found other b → a ≡ b
found_same path other a b e = cc

module _ {T P F K S L : Type 0} (o : Outside T P F K S L) (one : IsConsistent o) (path stamp : List ℕ) where
  abbrev May : List Event → Option (List ℕ) → Type 0
  May past found = MayFind (InFile path) stamp past found

  -- each start finds the one or the other, and both may be found
  record HasTwo (file : F) (past : List Event) : Type 0 where
    a : Option (List ℕ)
    b : Option (List ℕ)
    finds : (o.file file).finds a b
    may_a : May past a
    may_b : May past b

  -- what may stand there may be found
  Known : FileState F → List Event → Type 0
  Known Unknown past = (found : Option (List ℕ)) → May past found
  Known (LeftBy file) past = HasTwo file past
  Known (CutOff file bytes) past = HasTwo file past × May past (Some bytes)

  abbrev Fits : List Event → Event → Type 0
  Fits past e = FindsWhatMay (InFile path) stamp (May past) e

  -- an event fits, and what is known goes on
  abbrev Next : List Event → Event → FileState F → Type 0
  Next past e new = Fits past e × Known new (e ∷ past)

  -- one of two that may be found may be found
  one_of : (past : List Event) (a b c : Option (List ℕ)) → May past a → May past b → (c ≡ a) ⊎ (c ≡ b) → May past c
  one_of past a b c x y (inl is) = subst (May past) (sym is) x
  one_of past a b c x y (inr is) = subst (May past) (sym is) y

  two_may : (past : List Event) (old : F) (got : Option (List ℕ)) → IsOneOfFound (o.file old) got → HasTwo old past → May past got
  two_may past old got is k = one_of past k.a k.b got k.may_a k.may_b (is k.a k.b k.finds)

  has_may : (past : List Event) (old : F) (there : Option (List ℕ)) → (o.file old).finds there there → HasTwo old past → May past there
  has_may past old there finds k = one_of past k.a k.b there k.may_a k.may_b (one.file old k.a k.b there k.finds finds)

  there_may : (past : List Event) (there : FileState F) (got : Option (List ℕ)) → IsFoundThere o there got → Known there past → May past got
  unfolding Known
  there_may past Unknown got is k = k got
  there_may past (LeftBy file) got is k = two_may past file got is k
  there_may past (CutOff file bytes) got (inl is) k = two_may past file got is k.0
  there_may past (CutOff file bytes) got (inr is) k = subst (May past) (sym is) k.1

  -- ---- a call

  started_so : (past : List Event) (new : F) (got : Option (List ℕ)) → May past got → (o.file new).finds got got → Next past (Found path (Ok got)) (LeftBy new)
  unfolding Known
  started_so past new got may finds = (λ same. may, record { a = got; b = got; finds = finds; may_a = inl (refl, refl); may_b = inl (refl, refl) })

  puts_so : (past : List Event) (new : F) (bytes : List ℕ) → (o.file new).finds (Some bytes) (Some bytes) → Next past (Put path bytes true) (LeftBy new)
  unfolding Known
  puts_so past new bytes finds = (tt, record { a = Some bytes; b = Some bytes; finds = finds; may_a = inl (refl, refl); may_b = inl (refl, refl) })

  fails_so : (past : List Event) (old new : F) (bytes : List ℕ) (there : Option (List ℕ)) → (o.file old).finds there there → FindsOldOrNew (o.file new) there bytes → HasTwo old past → Next past (Put path bytes false) (LeftBy new)
  unfolding Known
  fails_so past old new bytes there finds left k = (tt, by left)
    where
      was : May (Put path bytes false ∷ past) there
      was = inl (refl, inr (has_may past old there finds k))

      by : FindsOldOrNew (o.file new) there bytes → HasTwo new (Put path bytes false ∷ past)
      by (inl same) = record { a = there; b = there; finds = same; may_a = was; may_b = was }
      by (inr either) = record { a = there; b = Some bytes; finds = either; may_a = was; may_b = inl (refl, inl refl) }

  calls_so : (past : List Event) (old new : F) (e : Event) → CallsFile o path old new e → IsBehindOne o e old → HasTwo old past → Next past e (LeftBy new)
  unfolding Known
  calls_so past old new e (Starts got is finds are) h k = subst (λ (x : Event). Next past x (LeftBy new)) (sym are) (started_so past new got (two_may past old got is k) finds)
  calls_so past old new e (StartFails fault stays are) h k =
      subst (λ (x : Event). Next past x (LeftBy new)) (sym are) (tt, record { a = k.a; b = k.b; finds = stays k.a k.b k.finds; may_a = k.may_a; may_b = k.may_b })
  calls_so past old new e (Puts bytes finds are) h k = subst (λ (x : Event). Next past x (LeftBy new)) (sym are) (puts_so past new bytes finds)
  calls_so past old new e (PutFails bytes left are) h k =
      let had = subst (λ (x : Event). IsBehindOne o x old) are h in
      subst (λ (x : Event). Next past x (LeftBy new)) (sym are) (fails_so past old new bytes had.0 had.1 (left had.0 had.1) k)

  -- a start of the file as it was opened anew
  anew_so : (past : List Event) (opened new : F) (e : Event) (got : Option (List ℕ)) → CallsFile o path opened new e → e ≡ Found path (Ok got) → May past got → Next past e (LeftBy new)
  anew_so past opened new e got (Starts other is finds are) same may =
      let one : other ≡ got = got_same other got (found_same path path (Ok other) (Ok got) (sym are ∙ same)) in
      subst (λ (x : Event). Next past x (LeftBy new)) (sym same) (started_so past new got may (subst (λ (x : Option (List ℕ)). (o.file new).finds x x) one finds))
  anew_so past opened new e got (StartFails fault stays are) same may = absurd (let f : Found path (Err fault) ≡ Found path (Ok got) = sym are ∙ same in let g = found_same path path (Err fault) (Ok got) f in cc)
  anew_so past opened new e got (Puts bytes finds are) same may = absurd (let f : Put path bytes true ≡ Found path (Ok got) = sym are ∙ same in cc)
  anew_so past opened new e got (PutFails bytes left are) same may = absurd (let f : Put path bytes false ≡ Found path (Ok got) = sym are ∙ same in cc)

  -- ---- what changes nothing there

  two_on : (past past' : List Event) (file : F) → ((found : Option (List ℕ)) → May past found → May past' found) → HasTwo file past → HasTwo file past'
  two_on past past' file may k = record { a = k.a; b = k.b; finds = k.finds; may_a = may k.a k.may_a; may_b = may k.b k.may_b }

  known_on : (past past' : List Event) (there : FileState F) → ((found : Option (List ℕ)) → May past found → May past' found) → Known there past → Known there past'
  unfolding Known
  known_on past past' Unknown may k = λ found. may found (k found)
  known_on past past' (LeftBy file) may k = two_on past past' file may k
  known_on past past' (CutOff file bytes) may k = (two_on past past' file may k.0, may (Some bytes) k.1)

  fits_else : (past : List Event) (e : Event) → IsElsewhere path e → Fits past e
  fits_else past (Found at (Ok got)) apart = λ same. absurd (apart same)
  fits_else past e apart = tt

  may_else : (past : List Event) (e : Event) → IsElsewhere path e → (found : Option (List ℕ)) → May past found → May (e ∷ past) found
  may_else past (Put at bytes true) apart found m = inr (apart, m)
  may_else past (Put at bytes false) apart found m = inr (apart, m)
  may_else past (Found at (Ok got)) apart found m = inr (apart, m)
  may_else past e apart found m = m

  -- ---- what happens next

  cut_so : (past : List Event) (old : F) (bytes : List ℕ) → HasTwo old past → Next past (Put path bytes false) (CutOff old bytes)
  unfolding Known
  cut_so past old bytes k = (tt, (two_on past (Put path bytes false ∷ past) old (λ found m. inl (refl, inr m)) k, inl (refl, inl refl)))

  goes_so : (past : List Event) (there next : FileState F) (e : Event) → GoesOnFile o path e there next → Known there past → Next past e next
  unfolding Known
  goes_so past there next e (ByCall old new call h) k = calls_so past old new e call h k
  goes_so past there next e (StopsInPut old bytes are) k = subst (λ (x : Event). Next past x (CutOff old bytes)) (sym are) (cut_so past old bytes k)
  goes_so past there next e (FoundAnew was opened new got call are is) k = anew_so past opened new e got call are (there_may past was got is k)
  goes_so past there next e (FailsAnew was fault are) k =
      subst (λ (x : Event). Next past x was) (sym are) (tt, known_on past (Found path (Err fault) ∷ past) was (λ found m. m) k)
  goes_so past there next e (Elsewhere was apart) k = (fits_else past e apart, known_on past (e ∷ past) was (may_else past e apart) k)

  durable_so : (past : List Event) (there : FileState F) (events : List Event) → IsFileHistory o path there events → Known there past → IsDurableAfter (InFile path) stamp past events
  durable_so past there [] h k = tt
  durable_so past there (e ∷ es) h k =
      let next = goes_so past there h.0 e h.1 k in
      (next.0, durable_so (e ∷ past) h.0 es h.2 next.1)

-- ---- what a call promises

module _ {T P F K S L : Type 0} (o : Outside T P F K S L) (path : List ℕ) (old new : F) where
  pub start_calls : (r : Result (Option (Vec ℕ Global)) ReadFault) → IfOk r (λ got. IsOneOfFound (o.file old) (bytes_of got)) → IfOk r (λ got. (o.file new).finds (bytes_of got) (bytes_of got)) → ((a b : Option (List ℕ)) → (o.file old).finds a b → (o.file new).finds a b) → CallsFile o path old new (Found path (found_by r))
  start_calls (Ok got) is finds stays = Starts (bytes_of got) is finds refl
  start_calls (Err fault) is finds stays = StartFails fault stays refl

  pub put_calls : {A E : Type 0} (r : Result A E) (bytes : List ℕ) → OnOk r ((o.file new).finds (Some bytes) (Some bytes)) → LeavesOldOrNew r (o.file old) (o.file new) bytes → CallsFile o path old new (Put path bytes (is_done r))
  put_calls (Ok a) bytes finds left = Puts bytes finds refl
  put_calls (Err e) bytes finds left = PutFails bytes left refl

pub files_are_durable : {T P F K S L : Type 0} (o : Outside T P F K S L) → IsConsistent o → FilesAreDurable o
unfolding Known
files_are_durable o one path stamp events h = durable_so o one path stamp [] Unknown events h (λ found. tt)
