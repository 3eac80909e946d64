-- What was found in a store before some events, chosen by what is found behind them.
use Rattle.std.proofs.Common.{◌≡◌, ◌≢◌, ◌⊎◌, inl, inr, ℕ, Bool, true, false, List, [], ◌∷◌, Option, Some, None, refl, sym, subst}
use Rattle.std.specs.Str.{bytes_eq}
use Rattle.arbiter_server.proofs.Turning.{same_stamp}
use Rattle.timeline.specs.Events.{Committed, Event, RecordSought}
use Rattle.game_folder.specs.Places.{InStore}
use Rattle.served_games.specs.Durable.{FindsInStore, HasBatch, IfSame, IsDurableAfter, MayFind, MayFindInStore, StaysFound, behind, last_of}
use Rattle.served_games.specs.StoreRuns.{CommitsNone, NoneCommitted}
use Rattle.served_games.proofs.AtOnce.{if_same}
use Rattle.served_games.proofs.Stamping.{stamps_apart}

pub same_or_not : (a b : List ℕ) → (a ≡ b) ⊎ (a ≢ b)
same_or_not a b = by (bytes_eq a b) refl
  where
    by : (x : Bool) → bytes_eq a b ≡ x → (a ≡ b) ⊎ (a ≢ b)
    by true is = inl (same_stamp a b is)
    by false is = inr (stamps_apart b a is)

if_more : (a b : List ℕ) (so now other later : Type 0) → (so → now) → (other → later) → IfSame a b so other → IfSame a b now later
if_more a b so now other later f g (inl h) = inl (h.0, f h.1)
if_more a b so now other later f g (inr h) = inr (h.0, g h.1)

either_more : (a b c d : Type 0) → (a → b) → (c → d) → a ⊎ c → b ⊎ d
either_more a b c d f g (inl x) = inl (f x)
either_more a b c d f g (inr x) = inr (g x)

batch_more : (last found : Option (List ℕ)) (old new : Type 0) → (old → new) → HasBatch last found old → HasBatch last found new
batch_more None found old new f h = f h
batch_more (Some bytes) found old new f h = h

module _ (path stamp : List ℕ) where
  abbrev May : List Event → Option (List ℕ) → Type 0
  May past found = MayFind (InStore path) stamp past found

  -- this was looked for, and found
  abbrev sought : Option (List ℕ) → Event
  sought got = RecordSought path stamp got

  -- ---- more that may be found

  after_more : (e : Event) (found : Option (List ℕ)) (old new : Type 0) → (old → new) → MayFindInStore path stamp e found old → MayFindInStore path stamp e found new
  after_more (Committed at records true) found old new f h =
      if_more at path (HasBatch (last_of stamp records) found old) (HasBatch (last_of stamp records) found new) old new (batch_more (last_of stamp records) found old new f) f h
  after_more (Committed at records false) found old new f h =
      if_more at path (HasBatch (last_of stamp records) found old ⊎ old) (HasBatch (last_of stamp records) found new ⊎ new) old new
      (either_more (HasBatch (last_of stamp records) found old) (HasBatch (last_of stamp records) found new) old new (batch_more (last_of stamp records) found old new f) f) f h
  after_more (RecordSought at its got) found old new f h =
      if_more at path (IfSame its stamp (found ≡ got) old) (IfSame its stamp (found ≡ got) new) old new (if_more its stamp (found ≡ got) (found ≡ got) old new (λ x. x) f) f h
  after_more e found old new f h = f h

  finds_more : (e : Event) (may now : Option (List ℕ) → Type 0) → ((found : Option (List ℕ)) → may found → now found) → FindsInStore path stamp may e → FindsInStore path stamp now e
  finds_more (RecordSought at its got) may now f h = λ p s. f got (h p s)
  finds_more e may now f h = tt

  durable_more : (p q es : List Event) → ((found : Option (List ℕ)) → May p found → May q found) → IsDurableAfter (InStore path) stamp p es → IsDurableAfter (InStore path) stamp q es
  durable_more p q [] f h = tt
  durable_more p q (e ∷ es) f h = (finds_more e (May p) (May q) f h.0, durable_more (e ∷ p) (e ∷ q) es (λ found m. after_more e found (May p found) (May q found) (f found) m) h.1)

  found_more : (p q es : List Event) (found : Option (List ℕ)) → ((k : Option (List ℕ)) → May p k → May q k) → May (behind p es) found → May (behind q es) found
  found_more p q [] found f m = f found m
  found_more p q (e ∷ es) found f m = found_more (e ∷ p) (e ∷ q) es found (λ k x. after_more e k (May p k) (May q k) (f k) x) m

  -- ---- something may always be found

  abbrev Any : List Event → Type 0
  Any past = (found : Option (List ℕ)) × May past found

  any_batch : (last : Option (List ℕ)) (past : List Event) → Any past → (found : Option (List ℕ)) × HasBatch last found (May past found)
  any_batch None past a = a
  any_batch (Some bytes) past a = (Some bytes, refl)

  any_after : (e : Event) (past : List Event) → Any past → Any (e ∷ past)
  any_after (Committed at records true) past a = by (same_or_not at path)
    where
      by : (at ≡ path) ⊎ (at ≢ path) → Any (Committed at records true ∷ past)
      by (inl same) = let b = any_batch (last_of stamp records) past a in (b.0, inl (same, b.1))
      by (inr other) = (a.0, inr (other, a.1))
  any_after (Committed at records false) past a = by (same_or_not at path)
    where
      by : (at ≡ path) ⊎ (at ≢ path) → Any (Committed at records false ∷ past)
      by (inl same) = (a.0, inl (same, inr a.1))
      by (inr other) = (a.0, inr (other, a.1))
  any_after (RecordSought at its got) past a = by (same_or_not at path) (same_or_not its stamp)
    where
      by : (at ≡ path) ⊎ (at ≢ path) → (its ≡ stamp) ⊎ (its ≢ stamp) → Any (RecordSought at its got ∷ past)
      by (inl same) (inl mine) = (got, inl (same, inl (mine, refl)))
      by (inl same) (inr other) = (a.0, inl (same, inr (other, a.1)))
      by (inr other) of = (a.0, inr (other, a.1))
  any_after e past a = a

  any_found : (past : List Event) → Any past
  any_found [] = (None, tt)
  any_found (e ∷ past) = any_after e past (any_found past)

  -- ---- what a look found

  pub only : (past : List Event) (first found : Option (List ℕ)) → May (RecordSought path stamp first ∷ past) found → found ≡ first
  only past first found m = if_same stamp (found ≡ first) (May past found) (if_same path (IfSame stamp stamp (found ≡ first) (May past found)) (May past found) m)

  it : (past : List Event) (first : Option (List ℕ)) → May (RecordSought path stamp first ∷ past) first
  it past first = inl (refl, inl (refl, refl))

  -- ---- one event back

  -- this might be found before an event, behind which that may be found
  record Back (e : Event) (past : List Event) (later : Option (List ℕ)) : Type 0 where
    first : Option (List ℕ)
    may : May past first
    finds : FindsInStore path stamp (May (sought first ∷ past)) e
    leads : May (e ∷ sought first ∷ past) later

  -- a batch
  record BatchBack (last : Option (List ℕ)) (past : List Event) (later : Option (List ℕ)) : Type 0 where
    first : Option (List ℕ)
    may : May past first
    leads : HasBatch last later (May (sought first ∷ past) later)

  batch_back : (last : Option (List ℕ)) (past : List Event) (later : Option (List ℕ)) → HasBatch last later (May past later) → BatchBack last past later
  batch_back None past later h = record { first = later; may = h; leads = it past later }
  batch_back (Some bytes) past later h = let a = any_found past in record { first = a.0; may = a.1; leads = h }

  back : (e : Event) (past : List Event) (later : Option (List ℕ)) → FindsInStore path stamp (May past) e → May (e ∷ past) later → Back e past later
  back (Committed at records true) past later d (inl h) =
      let b = batch_back (last_of stamp records) past later h.1 in
      record { first = b.first; may = b.may; finds = tt; leads = inl (h.0, b.leads) }
  back (Committed at records true) past later d (inr h) = record { first = later; may = h.1; finds = tt; leads = inr (h.0, it past later) }
  back (Committed at records false) past later d (inl h) = by h.1
    where
      by : HasBatch (last_of stamp records) later (May past later) ⊎ May past later → Back (Committed at records false) past later
      by (inl batch) =
          let b = batch_back (last_of stamp records) past later batch in
          record { first = b.first; may = b.may; finds = tt; leads = inl (h.0, inl b.leads) }
      by (inr old) = record { first = later; may = old; finds = tt; leads = inl (h.0, inr (it past later)) }
  back (Committed at records false) past later d (inr h) = record { first = later; may = h.1; finds = tt; leads = inr (h.0, it past later) }
  back (RecordSought at its got) past later d (inl h) = by h.1
    where
      by : IfSame its stamp (later ≡ got) (May past later) → Back (RecordSought at its got) past later
      by (inl mine) = record { first = got; may = d h.0 mine.0; finds = λ p s. it past got; leads = inl (h.0, inl mine) }
      by (inr other) = record { first = later; may = other.1; finds = λ p s. absurd (other.0 s); leads = inl (h.0, inr (other.0, it past later)) }
  back (RecordSought at its got) past later d (inr h) = record { first = later; may = h.1; finds = λ p s. absurd (h.0 p); leads = inr (h.0, it past later) }
  back e past later d m = record { first = later; may = m; finds = tt; leads = it past later }

  -- ---- all events

  -- Where this was found before some events, what is found behind them may be found, and they find what they may.
  pub record Chosen (past events : List Event) (found : Option (List ℕ)) : Type 0 where
    pub first : Option (List ℕ)
    pub may : MayFind (InStore path) stamp past first
    pub durable : IsDurableAfter (InStore path) stamp (RecordSought path stamp first ∷ past) events
    pub leads : MayFind (InStore path) stamp (behind (RecordSought path stamp first ∷ past) events) found

  pub choose : (past events : List Event) (found : Option (List ℕ)) → IsDurableAfter (InStore path) stamp past events → MayFind (InStore path) stamp (behind past events) found → Chosen past events found
  choose past [] found d m = record { first = found; may = m; durable = tt; leads = it past found }
  choose past (e ∷ es) found d m =
      let c = choose (e ∷ past) es found d.1 m in
      let b = back e past c.first d.0 c.may in
      let less : (k : Option (List ℕ)) → May (sought c.first ∷ e ∷ past) k → May (e ∷ sought b.first ∷ past) k = λ k x. subst (May (e ∷ sought b.first ∷ past)) (sym (only (e ∷ past) c.first k x)) b.leads in
      record {
        first = b.first;
        may = b.may;
        durable = (b.finds, durable_more (sought c.first ∷ e ∷ past) (e ∷ sought b.first ∷ past) es less c.durable);
        leads = found_more (sought c.first ∷ e ∷ past) (e ∷ sought b.first ∷ past) es found less c.leads;
      }

  -- ---- events that commit nothing of the game

  none_found : (e : Event) (past : List Event) (found : Option (List ℕ)) → CommitsNone path stamp e → FindsInStore path stamp (May past) e → May (e ∷ past) found → May past found
  none_found (Committed at records true) past found none d (inl h) = subst (λ (l : Option (List ℕ)). HasBatch l found (May past found)) (none h.0) h.1
  none_found (Committed at records true) past found none d (inr h) = h.1
  none_found (Committed at records false) past found none d (inl h) = by h.1
    where
      by : HasBatch (last_of stamp records) found (May past found) ⊎ May past found → May past found
      by (inl batch) = subst (λ (l : Option (List ℕ)). HasBatch l found (May past found)) (none h.0) batch
      by (inr old) = old
  none_found (Committed at records false) past found none d (inr h) = h.1
  none_found (RecordSought at its got) past found none d (inl h) = by h.1
    where
      by : IfSame its stamp (found ≡ got) (May past found) → May past found
      by (inl mine) = subst (May past) (sym mine.1) (d h.0 mine.0)
      by (inr other) = other.1
  none_found (RecordSought at its got) past found none d (inr h) = h.1
  none_found e past found none d m = m

  pub none_stays : (past events : List Event) → NoneCommitted path stamp events → IsDurableAfter (InStore path) stamp past events → StaysFound (InStore path) stamp past events
  none_stays past [] n d found m = m
  none_stays past (e ∷ es) n d found m = none_found e past found n.0 d.0 (none_stays (e ∷ past) es n.1 d.1 found m)
