-- What `store`, `find` and `commit` promise makes a store durable.
use Rattle.std.proofs.Common.{◌≡◌, ◌≢◌, ◌⊎◌, inl, inr, ◌∙◌, ℕ, Bool, true, false, cond, List, [], ◌∷◌, map, Option, Some, None, refl, sym, ap, subst}
use Rattle.std.specs.Prelude.{Result, Ok, Err, IfErr, IfOk, OnErr, OnOk}
use Rattle.std.specs.Str.{bytes_eq}
use Rattle.system_io.specs.Records.{AreSame, GivesBack, IsSettled, Records, StoredRecord, with_all}
use Rattle.system_io.specs.declared.record_store.Entry.{Entry}
use Rattle.system_io.specs.declared.record_store.PutFault.{PutFault}
use Rattle.system_io.specs.declared.record_store.PutFault.TheVariants as put
use Rattle.system_io.specs.declared.record_store.StoreFault.{StoreFault}
use Rattle.timeline.specs.Events.{Committed, Event, RecordSought, StoreOpened, commit_event, stamped}
use Rattle.timeline.specs.Outsides.{LeavesBatchOrNot, Outside}
use Rattle.game_folder.specs.Places.{InStore}
use Rattle.game_folder.specs.StoreGames.{its_bytes}
use Rattle.served_games.specs.Durable.{FindsWhatMay, HasBatch, IsDurableAfter, MayFind, last_among, last_of}
use Rattle.served_games.specs.StoreHistories.{ByCall, CallsStore, Commits, CutOff, Elsewhere, Fails, GoesOnStore, IsElsewhere, IsHeldThere, IsStoreHistory, IsTrusted, LacksRoom, LeftBy, Looks, OpenAs, OpenFails, OpenedAnew, OpensStore, StopsInCommit, StoreState, StoresAreDurable, Unknown, state_after}
use Rattle.served_games.proofs.Choosing.{same_or_not}
use Rattle.served_games.proofs.InOrder.{last_same}

-- ---- a batch

-- this, or else that
abbrev over : Option (List ℕ) → Option (List ℕ) → Option (List ℕ)
over None old = old
over (Some bytes) old = Some bytes

over_cond : (b : Bool) (bytes : List ℕ) (last old : Option (List ℕ)) → over (cond b (Some bytes) last) old ≡ cond b (Some bytes) (over last old)
over_cond true bytes last old = refl
over_cond false bytes last old = refl

last_over : (stamp : List ℕ) (last old : Option (List ℕ)) (records : List (List ℕ × StoredRecord)) → last_among stamp (over last old) records ≡ over (last_among stamp last records) old
last_over stamp last old [] = refl
last_over stamp last old (r ∷ rs) =
    ap (λ (l : Option (List ℕ)). last_among stamp l rs) (sym (over_cond (bytes_eq r.0 stamp) r.1.bytes last old)) ∙ last_over stamp (cond (bytes_eq r.0 stamp) (Some r.1.bytes) last) old rs

batch_over : (last old : Option (List ℕ)) (P : Option (List ℕ) → Type 0) → P old → HasBatch last (over last old) (P (over last old))
batch_over None old P p = p
batch_over (Some bytes) old P p = refl

module _ {T P F K S L : Type 0} (o : Outside T P F K S L) (path stamp : List ℕ) where
  abbrev May : List Event → Option (List ℕ) → Type 0
  May past found = MayFind (InStore path) stamp past found

  -- what records have of the game
  abbrev bytes_in : Records → Option (List ℕ)
  bytes_in has = its_bytes (has stamp)

  same_bytes : (now was : Records) → AreSame now was → bytes_in now ≡ bytes_in was
  same_bytes now was same = ap its_bytes (same stamp)

  -- a batch over what may be found
  batch_bytes : (has : Records) (entries : List Entry) → bytes_in (with_all has entries) ≡ over (last_of stamp (map stamped entries)) (bytes_in has)
  batch_bytes has entries = last_same has entries stamp ∙ last_over stamp None (bytes_in has) (map stamped entries)

  batch_may : (past : List Event) (has : Records) (entries : List Entry) → May past (bytes_in has) → HasBatch (last_of stamp (map stamped entries)) (bytes_in (with_all has entries)) (May past (bytes_in (with_all has entries)))
  batch_may past has entries m =
      subst (λ (b : Option (List ℕ)). HasBatch (last_of stamp (map stamped entries)) b (May past b)) (sym (batch_bytes has entries)) (batch_over (last_of stamp (map stamped entries)) (bytes_in has) (May past) m)

  -- what may stand there may be found
  Known : StoreState S → List Event → Type 0
  Known Unknown past = (found : Option (List ℕ)) → May past found
  Known (OpenAs store) past = IsSettled (o.store store) × (o.store store).trusted × May past (bytes_in (o.store store).has)
  Known (LeftBy store) past = (found : Records) → (o.store store).starts found → May past (bytes_in found)
  Known (CutOff store entries) past = May past (bytes_in (o.store store).has) × May past (bytes_in (with_all (o.store store).has entries))

  held_may : (past : List Event) (there : StoreState S) (has : Records) → IsHeldThere o there has → Known there past → May past (bytes_in has)
  unfolding Known
  held_may past Unknown has is k = k (bytes_in has)
  held_may past (OpenAs store) has is k = subst (May past) (sym (same_bytes has (o.store store).has ((k.0 k.1).found has is))) k.2
  held_may past (LeftBy store) has is k = k has is
  held_may past (CutOff store entries) has (inl same) k = subst (May past) (sym (same_bytes has (o.store store).has same)) k.0
  held_may past (CutOff store entries) has (inr same) k = subst (May past) (sym (same_bytes has (with_all (o.store store).has entries) same)) k.1

  abbrev Fits : List Event → Event → Type 0
  Fits past e = FindsWhatMay (InStore path) stamp (May past) e

  -- an event fits, and what is known goes on
  abbrev Next : List Event → Event → StoreState S → Type 0
  Next past e new = Fits past e × Known new (e ∷ past)

  -- ---- a call

  -- behind a commit
  abbrev done : List Entry → Event
  done entries = Committed path (map stamped entries) true

  abbrev undone : List Entry → Event
  undone entries = Committed path (map stamped entries) false

  looks_so : (past : List Event) (old : S) (its : List ℕ) → Known (OpenAs old) past → Next past (RecordSought path its (its_bytes ((o.store old).has its))) (OpenAs old)
  unfolding Known
  looks_so past old its k = (
    λ p same. subst (λ (s : List ℕ). May past (its_bytes ((o.store old).has s))) (sym same) k.2,
    (k.0, k.1, by (same_or_not its stamp)),
  )
    where
      by : (its ≡ stamp) ⊎ (its ≢ stamp) → May (RecordSought path its (its_bytes ((o.store old).has its)) ∷ past) (bytes_in (o.store old).has)
      by (inl same) = inl (refl, inl (same, ap (λ (s : List ℕ). its_bytes ((o.store old).has s)) (sym same)))
      by (inr other) = inl (refl, inr (other, k.2))

  commits_so : (past : List Event) (old new : S) (entries : List Entry) → AreSame (o.store new).has (with_all (o.store old).has entries) → IsSettled (o.store new) → (o.store new).trusted → Known (OpenAs old) past → Next past (done entries) (OpenAs new)
  unfolding Known
  commits_so past old new entries same settled trusted k = (
    tt,
    (
      settled,
      trusted,
      subst (May (done entries ∷ past)) (sym (same_bytes (o.store new).has (with_all (o.store old).has entries) same)) (inl (refl, batch_may past (o.store old).has entries k.2)),
    ),
  )

  lacks_so : (past : List Event) (old new : S) (entries : List Entry) → AreSame (o.store new).has (o.store old).has → IsSettled (o.store new) → (o.store new).trusted → Known (OpenAs old) past → Next past (undone entries) (OpenAs new)
  unfolding Known
  lacks_so past old new entries same settled trusted k =
      (tt, (settled, trusted, subst (May (undone entries ∷ past)) (sym (same_bytes (o.store new).has (o.store old).has same)) (inl (refl, inr k.2))))

  fails_so : (past : List Event) (old new : S) (entries : List Entry) → LeavesBatchOrNot (o.store old) (o.store new) entries → (o.store new).trusted → Known (OpenAs old) past → Next past (undone entries) (LeftBy new)
  unfolding Known
  fails_so past old new entries left trusted k = (tt, λ found starts. by found (left k.0 trusted found starts))
    where
      by : (found : Records) → AreSame found (o.store old).has ⊎ AreSame found (with_all (o.store old).has entries) → May (undone entries ∷ past) (bytes_in found)
      by found (inl same) = subst (May (undone entries ∷ past)) (sym (same_bytes found (o.store old).has same)) (inl (refl, inr k.2))
      by found (inr same) = subst (May (undone entries ∷ past)) (sym (same_bytes found (with_all (o.store old).has entries) same)) (inl (refl, inl (batch_may past (o.store old).has entries k.2)))

  calls_so : (past : List Event) (old : S) (e : Event) (next : StoreState S) → CallsStore o path old e next → IsTrusted o next → Known (OpenAs old) past → Next past e next
  calls_so past old e next (Looks its are to) trusted k =
      subst (λ (n : StoreState S). Next past e n) (sym to) (subst (λ (x : Event). Next past x (OpenAs old)) (sym are) (looks_so past old its k))
  calls_so past old e next (Commits new entries same settled are to) trusted k =
      subst (λ (n : StoreState S). Next past e n) (sym to) (subst (λ (x : Event). Next past x (OpenAs new)) (sym are) (commits_so past old new entries same settled (subst (IsTrusted o) to trusted) k))
  calls_so past old e next (LacksRoom new entries same settled are to) trusted k =
      subst (λ (n : StoreState S). Next past e n) (sym to) (subst (λ (x : Event). Next past x (OpenAs new)) (sym are) (lacks_so past old new entries same settled (subst (IsTrusted o) to trusted) k))
  calls_so past old e next (Fails new entries left are to) trusted k =
      subst (λ (n : StoreState S). Next past e n) (sym to) (subst (λ (x : Event). Next past x (LeftBy new)) (sym are) (fails_so past old new entries left (subst (IsTrusted o) to trusted) k))

  -- ---- what changes nothing there

  known_on : (past past' : List Event) (there : StoreState S) → ((found : Option (List ℕ)) → May past found → May past' found) → Known there past → Known there past'
  unfolding Known
  known_on past past' Unknown may k = λ found. may found (k found)
  known_on past past' (OpenAs store) may k = (k.0, k.1, may (bytes_in (o.store store).has) k.2)
  known_on past past' (LeftBy store) may k = λ found starts. may (bytes_in found) (k found starts)
  known_on past past' (CutOff store entries) may k = (may (bytes_in (o.store store).has) k.0, may (bytes_in (with_all (o.store store).has entries)) k.1)

  fits_else : (past : List Event) (e : Event) → IsElsewhere path e → Fits past e
  fits_else past (RecordSought at its got) apart = λ same. absurd (apart same)
  fits_else past e apart = tt

  may_else : (past : List Event) (e : Event) → IsElsewhere path e → (found : Option (List ℕ)) → May past found → May (e ∷ past) found
  may_else past (Committed at records true) apart found m = inr (apart, m)
  may_else past (Committed at records false) apart found m = inr (apart, m)
  may_else past (RecordSought at its got) apart found m = inr (apart, m)
  may_else past e apart found m = m

  -- ---- what happens next

  cut_so : (past : List Event) (old : S) (entries : List Entry) → Known (OpenAs old) past → Next past (undone entries) (CutOff old entries)
  unfolding Known
  cut_so past old entries k = (tt, (inl (refl, inr k.2), inl (refl, inl (batch_may past (o.store old).has entries k.2))))

  opened_so : (past : List Event) (new : S) → IsSettled (o.store new) → (o.store new).trusted → May past (bytes_in (o.store new).has) → Next past (StoreOpened path (Ok tt)) (OpenAs new)
  unfolding Known
  opened_so past new settled trusted may = (tt, (settled, trusted, may))

  goes_so : (past : List Event) (there next : StoreState S) (e : Event) → GoesOnStore o path e there next → Known there past → Next past e next
  goes_so past there next e (ByCall old to call trusted) k = calls_so past old e to call trusted k
  goes_so past there next e (StopsInCommit old entries are) k = subst (λ (x : Event). Next past x (CutOff old entries)) (sym are) (cut_so past old entries k)
  goes_so past there next e (OpenedAnew was new opens trusted held) k = subst (λ (x : Event). Next past x (OpenAs new)) (sym opens.is) (opened_so past new opens.settled trusted (held_may past was (o.store new).has held k))
  goes_so past there next e (OpenFails was fault are) k =
      subst (λ (x : Event). Next past x was) (sym are) (tt, known_on past (StoreOpened path (Err fault) ∷ past) was (λ found m. m) k)
  goes_so past there next e (Elsewhere was apart) k = (fits_else past e apart, known_on past (e ∷ past) was (may_else past e apart) k)

  durable_so : (past : List Event) (there : StoreState S) (events : List Event) → IsStoreHistory o path there events → Known there past → IsDurableAfter (InStore path) stamp past events
  durable_so past there [] h k = tt
  durable_so past there (e ∷ es) h k =
      let next = goes_so past there h.0 e h.1 k in
      (next.0, durable_so (e ∷ past) h.0 es h.2 next.1)

-- ---- what a call promises

module _ {T P F K S L : Type 0} (o : Outside T P F K S L) (path : List ℕ) where
  pub open_calls : (r : Result S StoreFault) → IfOk r (λ store. IsSettled (o.store store)) → IfOk r (λ store. OpensStore o path store (StoreOpened path (Ok tt)))
  open_calls (Ok store) settled = record { settled = settled; is = refl }
  open_calls (Err fault) settled = tt

  pub find_calls : (store : S) (stamp : List ℕ) (got : Option (List ℕ)) → got ≡ its_bytes ((o.store store).has stamp) → CallsStore o path store (RecordSought path stamp got) (OpenAs store)
  find_calls store stamp got is = Looks stamp (ap (RecordSought path stamp) is) refl

  pub commit_calls : {A : Type 0} (old new : S) (entries : List Entry) (r : Result A PutFault)
      → OnOk r (AreSame (o.store new).has (with_all (o.store old).has entries)) → OnOk r (IsSettled (o.store new)) → OnErr r (AreSame (o.store new).has (o.store old).has)
      → OnErr r (LeavesBatchOrNot (o.store old) (o.store new) entries) → IfErr r (GivesBack (o.store new) entries) → CallsStore o path old (commit_event r path entries) (state_after r new)
  commit_calls old new entries (Ok a) all kept same stops back = Commits new entries all kept refl refl
  commit_calls old new entries (Err (put.OutOfMemory batch)) all kept same stops back = LacksRoom new entries same back.0 refl refl
  commit_calls old new entries (Err put.Failed) all kept same stops back = Fails new entries stops refl refl

pub stores_are_durable : {T P F K S L : Type 0} (o : Outside T P F K S L) → StoresAreDurable o
unfolding Known
stores_are_durable o path stamp events h = durable_so o path stamp [] Unknown events h (λ found. tt)
