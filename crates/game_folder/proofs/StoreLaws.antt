-- What is noted of games, and committed.
use Rattle.std.proofs.Common.{◌≡◌, ◌≢◌, ◌∙◌, ◌++◌, ◌==◌, inl, inr, ℕ, Bool, true, false, List, [], ◌∷◌, length, map, Option, Some, None, refl, sym, ap, subst, arith}
use Rattle.std.specs.List.{Contains}
use Rattle.std.specs.Prelude.{Result, Ok, Err, IfOk, IsOk, IsSome, OnErr, OnOk, Vec}
use Rattle.std.proofs.lemmas.Bool.{eq-eqb, eqb-true}
use Rattle.std.proofs.lemmas.List.{nil_from_length}
use Rattle.std.proofs.lemmas.List.Elements.{Contains-append_left, Contains-push}
use Rattle.arbiter_server.specs.declared.fault.OpenGameError.{OpenGameError}
use Rattle.arbiter_server.specs.declared.fault.OpenGameError.TheVariants as unopened
use Rattle.arbiter_server.specs.declared.fault.Uncommitted.{Uncommitted}
use Rattle.arbiter_server.specs.declared.fault.Uncommitted.TheVariants as uncommitted
use Rattle.std.specs.declared.alloc.Global.{Global}
use Rattle.system_io.specs.Records.{IsSettled, GivesBack, StoreFacts, entry_record}
use Rattle.system_io.specs.declared.record_store.PutFault.{PutFault}
use Rattle.system_io.specs.declared.record_store.PutFault.TheVariants.{OutOfMemory}
use Rattle.system_io.specs.declared.record_store.Entry.{Entry}
use Rattle.timeline.specs.Events.{Committed, Event, RecordSought, stamped, is_done}
use Rattle.timeline.specs.Outsides.{Outside}
use Rattle.game_folder.specs.Drafts.{settled}
use Rattle.game_folder.specs.Holdings.{CommitsGames, IsKeptIn, IsTaken, KeepsGame, SendsNothing, StaysNoted, TakesGame, kept_of, known, without_value}
use Rattle.game_folder.specs.Places.{InFile, InStore, WasKept}
use Rattle.game_folder.specs.StoreGames.{CommitsNoted, CouldNot, HadNoRoom, HasAll, HadNone, IsInStore, HasNoted, LacksMemory, LeavesNoted, LooksUpRecord, LosesStore, MayGive, Notes, NotesBytes, StoredGames, Stores, TakesFromStore, WasNoted, WasRefused, WasSought, its_bytes, given_record, kept_bytes, last_noted, loss_told, store_games_facts}
use Rattle.game_folder.specs.declared.games.KeptGame.{KeptGame}
use Rattle.game_folder.specs.declared.store_games.Loss.{Loss}
use Rattle.game_folder.specs.declared.store_games.Loss.TheVariants.{OfMemory, OfStore}
use Rattle.game_folder.proofs.NotedLaws.{contains_map, given_value, last_is_noted, noted_first, store_else}

-- ---- what a game puts

-- what is noted stays so with more behind it
noted_on : {S : Type 0} (old new : StoredGames S) (more : List Entry) → new.loss ≡ old.loss → new.noted ≡ old.noted ++ more → (stamp bytes : List ℕ) → HasNoted old stamp bytes → HasNoted new stamp bytes
noted_on old new more loss noted stamp bytes (inl lost) = inl (subst (λ (l : Option Loss). IsSome l) (sym loss) lost)
noted_on old new more loss noted stamp bytes (inr e) = inr (e.0, subst (λ (es : List Entry). Contains es e.0) (sym noted) (Contains-append_left old.noted more e.0 e.1), e.2, e.3)

-- what is kept in a store is in no file
pub in_no_file : {T P F K S L : Type 0} (o : Outside T P F K S L) (path : List ℕ) (file : Option F) → IsKeptIn o (InStore path) file → file ≡ None
in_no_file o path (Some file) is = absurd (let wrong : InStore path ≡ InFile (o.path file) = is in cc)
in_no_file o path None is = refl

module _ {T P F K S L : Type 0} (o : Outside T P F K S L) (old new : StoredGames S) where
  pub keeps_noted : {A E : Type 0} (before after : KeptGame F) (result : Result A E) → after.stamp ≡ before.stamp → before.file ≡ None → after.file ≡ before.file → after.draft ≡ settled before.draft
      → Notes old before.stamp before.draft.to_put result new → KeepsGame (store_games_facts o) o old new before after result []
  keeps_noted {A = A} {E = E} before after result of stored file draft notes = record {
    still = record { quiet = tt; place = place before.draft.to_put result notes };
    noted = stays before.draft.to_put result notes;
    of = of;
    within = subst (λ (f : Option F). IsKeptIn o (InStore (o.store_path new.store)) f) (sym (file ∙ stored)) (o.store_path new.store, refl);
    draft = draft;
    none = λ is. let n = subst (λ (put : Option (List ℕ)). Notes old before.stamp put result new) is notes in (refl, same result n, done result n);
    some = λ bytes is. (refl, by_done bytes result (subst (λ (put : Option (List ℕ)). Notes old before.stamp put result new) is notes));
    known = λ bytes is. put_known bytes result (subst (λ (put : Option (List ℕ)). Notes old before.stamp put result new) is notes);
  }
    where
      place : (put : Option (List ℕ)) (r : Result A E) → Notes old before.stamp put r new → (store_games_facts o).place new ≡ (store_games_facts o).place old
      place None (Ok a) is = ap (λ (g : StoredGames S). (store_games_facts o).place g) is
      place None (Err e) is = absurd is
      place (Some bytes) (Ok a) is = ap (λ (g : StoredGames S). (store_games_facts o).place g) is.2
      place (Some bytes) (Err e) is = ap (λ (g : StoredGames S). (store_games_facts o).place g) is

      stays : (put : Option (List ℕ)) (r : Result A E) → Notes old before.stamp put r new → StaysNoted (store_games_facts o) old new
      stays None (Ok a) is = λ stamp bytes n. subst (λ (g : StoredGames S). HasNoted g stamp bytes) (sym is) n
      stays None (Err e) is = absurd is
      stays (Some put) (Ok a) is = noted_on old new (is.0 ∷ []) (ap (λ (g : StoredGames S). g.loss) is.2) (ap (λ (g : StoredGames S). g.noted) is.2)
      stays (Some put) (Err e) is = λ stamp bytes n. inl (subst (λ (l : Option Loss). IsSome l) (sym (ap (λ (g : StoredGames S). g.loss) is)) refl)

      same : (r : Result A E) → Notes old before.stamp None r new → new ≡ old
      same (Ok a) is = is
      same (Err e) is = absurd is

      by_done : (bytes : List ℕ) (r : Result A E) → Notes old before.stamp (Some bytes) r new → NotesBytes old before.stamp bytes (is_done r) new
      by_done bytes (Ok a) is = is
      by_done bytes (Err e) is = is

      done : (r : Result A E) → Notes old before.stamp None r new → IsOk r
      done (Ok a) is = refl
      done (Err e) is = absurd is

      put_known : (bytes : List ℕ) (r : Result A E) → Notes old before.stamp (Some bytes) r new → OnOk r (known (store_games_facts o) new [] before.stamp bytes)
      put_known bytes (Err e) is = tt
      put_known bytes (Ok a) is =
          let noted : new.noted ≡ old.noted ++ is.0 ∷ [] = ap (λ (g : StoredGames S). g.noted) is.2 in
          inl (inr (is.0, subst (λ (es : List Entry). Contains es is.0) (sym noted) (Contains-push old.noted is.0), is.1.of, is.1.bytes_are))

-- ---- a commit

-- a commit that can't be leaves all as it was
pub refused_leaves : {S : Type 0} (g : StoredGames S) (loss : Loss) → g.loss ≡ Some loss → LeavesNoted {A = Unit {0}} (Err (loss_told loss)) g g
refused_leaves g OfStore is = is
refused_leaves g OfMemory is = (is, refl)

pub is_empty_list : (len : ℕ) (entries : List Entry) → len ≡ length entries → (len == 0) ≡ true → entries ≡ []
is_empty_list len entries of is = nil_from_length entries (sym of ∙ eqb-true len 0 is)

pub is_filled_list : (len : ℕ) (entries : List Entry) → len ≡ length entries → (len == 0) ≡ false → entries ≢ []
is_filled_list len entries of is none = absurd (let wrong : true ≡ false = sym (eq-eqb len 0 (of ∙ ap (λ (es : List Entry). length es) none)) ∙ is in cc)

-- the batch that came back is what was given
pub given_back : (s : StoreFacts) (entries : List Entry) (fault : PutFault) (batch : Vec Entry Global) → fault ≡ OutOfMemory batch → GivesBack s entries fault → batch.items ≡ entries
given_back s entries fault batch is back = (subst (GivesBack s entries) is back).1

-- and a start finds what the store has
pub given_settled : (s : StoreFacts) (entries : List Entry) (fault : PutFault) (batch : Vec Entry Global) → fault ≡ OutOfMemory batch → GivesBack s entries fault → IsSettled s
given_settled s entries fault batch is back = (subst (GivesBack s entries) is back).0

pub noted_same : {S : Type 0} (old new : StoredGames S) → new.loss ≡ old.loss → new.noted ≡ old.noted → (stamp bytes : List ℕ) → HasNoted old stamp bytes → HasNoted new stamp bytes
noted_same old new loss noted stamp bytes (inl lost) = inl (subst (λ (l : Option Loss). IsSome l) (sym loss) lost)
noted_same old new loss noted stamp bytes (inr e) = inr (e.0, subst (λ (es : List Entry). Contains es e.0) (sym noted) e.1, e.2, e.3)

module _ {T P F K S L : Type 0} (o : Outside T P F K S L) where
  -- all of a list to a store
  pub committed_as : (store same : S) (entries noted : List Entry) (done : Bool) (more : List Event) → store ≡ same → entries ≡ noted → Committed (o.store_path store) (map stamped entries) done ∷ more ≡ Committed (o.store_path same) (map stamped noted) done ∷ more
  committed_as store same entries noted done more is all = ap (λ (s : S). Committed (o.store_path s) (map stamped entries) done ∷ more) is ∙ ap (λ (es : List Entry). Committed (o.store_path same) (map stamped es) done ∷ more) all

-- nothing is sent where what is noted is committed
committing_sends_nothing : {S : Type 0} (path : List ℕ) (g : StoredGames S) (told : Result (Unit {0}) Uncommitted) (events : List Event) → CommitsNoted path g told events → SendsNothing events
committing_sends_nothing path g told events (CouldNot loss is why none) = subst SendsNothing (sym none) tt
committing_sends_nothing path g told events (HadNone ok empty why none) = subst SendsNothing (sym none) tt
committing_sends_nothing path g told events (HasAll may why one) = subst SendsNothing (sym one) ((λ to bytes e. cc), tt)
committing_sends_nothing path g told events (LacksMemory may why one) = subst SendsNothing (sym one) ((λ to bytes e. cc), tt)
committing_sends_nothing path g told events (LosesStore may why two) = subst SendsNothing (sym two) ((λ to bytes e. cc), ((λ to bytes e. cc), tt))

module _ {S : Type 0} (path : List ℕ) (g : StoredGames S) (stamp bytes : List ℕ) where
  lost_none : g.loss ≡ None → IsSome g.loss → ⊥
  lost_none ok lost = let wrong = subst (λ (l : Option Loss). IsSome l) ok lost in cc

  -- what was noted is among what was committed
  noted_committed : g.loss ≡ None → HasNoted g stamp bytes → WasKept (InStore path) (Committed path (map stamped g.noted) true ∷ []) stamp bytes
  noted_committed ok (inl lost) = absurd (lost_none ok lost)
  noted_committed ok (inr e) = inl (record {
    records = map stamped g.noted;
    its = entry_record e.0;
    done = (0, omega arith, refl);
    among = subst (λ (s : List ℕ). Contains (map stamped g.noted) (s, entry_record e.0)) e.2 (contains_map stamped g.noted e.0 e.1);
    bytes_are = e.3;
  })

  noted_nowhere : g.loss ≡ None → g.noted ≡ [] → HasNoted g stamp bytes → ⊥
  noted_nowhere ok none (inl lost) = lost_none ok lost
  noted_nowhere ok none (inr e) = let h = subst (λ (es : List Entry). Contains es e.0) none e.1 in omega (arith, h.1)

-- what was noted was kept where all is committed
kept_by_commit : {S : Type 0} (path : List ℕ) (g : StoredGames S) (told : Result (Unit {0}) Uncommitted) (events : List Event) → CommitsNoted path g told events
    → OnOk told ((stamp bytes : List ℕ) → HasNoted g stamp bytes → WasKept (InStore path) events stamp bytes)
kept_by_commit path g (Err why) events c = tt
kept_by_commit path g (Ok x) events (CouldNot loss is why none) = absurd (let wrong : Ok tt ≡ Err (loss_told loss) = why in cc)
kept_by_commit path g (Ok x) events (HadNone ok empty why none) = λ stamp bytes noted. absurd (noted_nowhere path g stamp bytes ok empty noted)
kept_by_commit path g (Ok x) events (HasAll may why one) = λ stamp bytes noted. subst (λ (es : List Event). WasKept (InStore path) es stamp bytes) (sym one) (noted_committed path g stamp bytes may.0 noted)
kept_by_commit path g (Ok x) events (LacksMemory may why one) = absurd (let wrong : Ok tt ≡ Err uncommitted.OutOfMemory = why in cc)
kept_by_commit path g (Ok x) events (LosesStore may why two) = absurd (let wrong : Ok tt ≡ Err uncommitted.StoreLost = why in cc)

-- what is noted is committed, or that fails
pub commits_noted : {T P F K S L : Type 0} (o : Outside T P F K S L) (old new : StoredGames S) (told : Result (Unit {0}) Uncommitted) (events : List Event) → o.store_path new.store ≡ o.store_path old.store → new.folder ≡ old.folder
    → OnErr told ((stamp bytes : List ℕ) → HasNoted old stamp bytes → HasNoted new stamp bytes) → LeavesNoted told old new → Stores o told old new → CommitsNoted (o.store_path old.store) old told events → CommitsGames (store_games_facts o) old new told events
commits_noted o old new told events path folder left leaves stores c = record {
  still = record {
    quiet = committing_sends_nothing (o.store_path old.store) old told events c;
    place = ap (λ (f : List ℕ). record { folder = f; store_path = o.store_path new.store }) folder ∙ ap (λ (p : List ℕ). record { folder = old.folder; store_path = p }) path;
  };
  done = by told c leaves stores;
  kept = kept_by_commit (o.store_path old.store) old told events c;
  left = left;
}
  where
    by : (r : Result (Unit {0}) Uncommitted) → CommitsNoted (o.store_path old.store) old r events → LeavesNoted r old new → Stores o r old new → CommitsNoted (o.store_path old.store) old (without_value r) events × LeavesNoted (without_value r) old new × Stores o (without_value r) old new
    by (Ok x) h l s = (h, l, record { all = s.all; same = s.same; settled = s.settled })
    by (Err why) h l s = (h, l, record { all = s.all; same = s.same; settled = s.settled })

-- ---- how a record is taken

-- nothing is sent where a record is taken from a store
taking_sends_nothing : {S : Type 0} (path : List ℕ) (g : StoredGames S) (stamp : List ℕ) (result : Result (Option (List ℕ)) OpenGameError) (events : List Event) → TakesFromStore path g stamp result events → SendsNothing events
taking_sends_nothing path g stamp result events (WasRefused may why none) = subst SendsNothing (sym none) tt
taking_sends_nothing path g stamp result events (HadNoRoom may why none) = subst SendsNothing (sym none) tt
taking_sends_nothing path g stamp result events (WasNoted may bytes noted why none) = subst SendsNothing (sym none) tt
taking_sends_nothing path g stamp result events (WasSought may noted got why one) = subst SendsNothing (sym one) ((λ to bytes e. cc), tt)

module _ {T P F K S L : Type 0} (o : Outside T P F K S L) (g : StoredGames S) (stamp : List ℕ) where
  -- what is taken is noted, or was found in the store
  taken_known : (bytes : List ℕ) (events : List Event) → TakesFromStore (o.store_path g.store) g stamp (Ok (Some bytes)) events → known (store_games_facts o) g events stamp bytes
  taken_known bytes events (WasRefused may why none) = absurd (let wrong : Ok (Some bytes) ≡ Err unopened.Keeper = why in cc)
  taken_known bytes events (HadNoRoom may why none) = absurd (let wrong : Ok (Some bytes) ≡ Err unopened.OutOfMemory = why in cc)
  taken_known bytes events (WasNoted may found noted why none) = inl (inr (last_is_noted g.noted stamp bytes (noted ∙ sym (given_value (Some bytes) (Some found) why))))
  taken_known bytes events (WasSought may noted got why one) =
      inr (inr (subst (λ (es : List Event). Contains es (RecordSought (o.store_path g.store) stamp (Some bytes))) (sym (one ∙ ap (λ (x : Option (List ℕ)). RecordSought (o.store_path g.store) stamp x ∷ []) (sym (given_value (Some bytes) got why)))) (0, omega arith, refl)))

  -- a record was taken, or not
  pub takes_stored : (result : Result (KeptGame F) OpenGameError) (events : List Event) → TakesFromStore (o.store_path g.store) g stamp (kept_of result) events → IfOk result (IsInStore stamp) → IfOk result (λ game. game.draft.kept ≡ kept_bytes o g stamp) → TakesGame (store_games_facts o) o g g stamp result events
  takes_stored result events taken ok gives = record {
    still = record { quiet = taking_sends_nothing (o.store_path g.store) g stamp (kept_of result) events taken; place = refl };
    noted = λ s b n. n;
    taken = (taken, refl, given result gives);
    ok = by_result result taken ok;
  }
    where
      given : (r : Result (KeptGame F) OpenGameError) → IfOk r (λ game. game.draft.kept ≡ kept_bytes o g stamp) → IfOk (kept_of r) (λ kept. kept ≡ kept_bytes o g stamp)
      given (Ok game) h = h
      given (Err why) h = tt

      by_result : (r : Result (KeptGame F) OpenGameError) → TakesFromStore (o.store_path g.store) g stamp (kept_of r) events → IfOk r (IsInStore stamp) → IfOk r (IsTaken (store_games_facts o) o g stamp events)
      by_result (Err why) took is = tt
      by_result (Ok game) took is = record {
        of = is.of;
        within = subst (λ (f : Option F). IsKeptIn o (InStore (o.store_path g.store)) f) (sym is.stored) (o.store_path g.store, refl);
        clean = is.clean;
        known = λ bytes kept. taken_known bytes events (subst (λ (k : Option (List ℕ)). TakesFromStore (o.store_path g.store) g stamp (Ok k) events) kept took);
      }

  given_as : (got at : Option (List ℕ)) → got ≡ at → (result : Result (KeptGame F) OpenGameError) → kept_of result ≡ given_record got → IfOk result (λ game. game.draft.kept ≡ at)
  given_as got at is (Err why) kept = tt
  given_as got at is (Ok game) kept = given_value game.draft.kept got kept ∙ is

  -- it was found among what is noted
  pub looks_up_noted : MayGive g stamp → (bytes : List ℕ) → Some bytes ≡ last_noted g.noted stamp → (result : Result (KeptGame F) OpenGameError) → kept_of result ≡ given_record (Some bytes) → IfOk result (IsInStore stamp) → LooksUpRecord o g stamp result []
  looks_up_noted may bytes noted result kept ok = record {
    taken = WasNoted may bytes (sym noted) kept refl;
    ok = ok;
    gives = given_as (Some bytes) (kept_bytes o g stamp) (sym (noted_first (o.store g.store).has g.noted stamp bytes (sym noted))) result kept;
  }

  -- or was looked for in the store
  pub looks_up_stored : MayGive g stamp → None ≡ last_noted g.noted stamp → (store : S) (key : List ℕ) → store ≡ g.store → key ≡ stamp → (got : Option (List ℕ)) → got ≡ its_bytes ((o.store store).has key)
      → (result : Result (KeptGame F) OpenGameError) → kept_of result ≡ given_record got → IfOk result (IsInStore stamp) → LooksUpRecord o g stamp result (RecordSought (o.store_path store) key got ∷ [])
  looks_up_stored may noted store key same of got has result kept ok = record {
    taken = WasSought may (sym noted) got kept (ap (λ (s : S). RecordSought (o.store_path s) key got ∷ []) same ∙ ap (λ (k : List ℕ). RecordSought (o.store_path g.store) k got ∷ []) of);
    ok = ok;
    gives = given_as got (kept_bytes o g stamp) (has ∙ ap (λ (s : S). its_bytes ((o.store s).has key)) same ∙ ap (λ (k : List ℕ). its_bytes ((o.store g.store).has k)) of ∙ sym (store_else (o.store g.store).has g.noted stamp (sym noted))) result kept;
  }
