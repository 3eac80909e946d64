-- Records that are noted, and committed to a store, are kept in order.
use Rattle.std.proofs.Common.{◌≡◌, ◌⊎◌, inl, inr, ◌∙◌, ℕ, Bool, true, false, cond, List, [], ◌∷◌, ◌++◌, map, Option, Some, None, refl, sym, ap, subst}
use Rattle.std.specs.Prelude.{Result, Ok, Err}
use Rattle.std.specs.Str.{bytes_eq}
use Rattle.arbiter_server.proofs.Turning.{itself}
use Rattle.arbiter_server.specs.declared.fault.OpenGameError.{OpenGameError}
use Rattle.arbiter_server.specs.declared.fault.OpenGameError.TheVariants as unopened
use Rattle.arbiter_server.specs.declared.fault.Uncommitted.{Uncommitted}
use Rattle.arbiter_server.specs.declared.fault.Uncommitted.TheVariants as uncommitted
use Rattle.arbiter_server.specs.declared.games.GameConfig.{GameConfig}
use Rattle.system_io.specs.Records.{Records, StoredRecord, entry_record, records_of, with_all, with_entry}
use Rattle.system_io.specs.declared.record_store.Entry.{Entry}
use Rattle.timeline.specs.Events.{Committed, Event, RecordSought, stamped}
use Rattle.timeline.specs.Outsides.{Outside}
use Rattle.game_folder.proofs.NotedLaws.{given_value}
use Rattle.game_folder.specs.FolderGames.{FindsInFolder, HadNoPath, Sought}
use Rattle.game_folder.specs.Places.{InStore}
use Rattle.game_folder.specs.StoreGames.{CommitsNoted, CouldNot, HadNoRoom, HadNone, HasAll, IsEntryFor, LacksMemory, LeavesNoted, LosesStore, NotesBytes, StoredGames, StoredPlace, TakesFromStore, WasNoted, WasRefused, WasSought, its_bytes, last_noted, loss_told, store_games_facts}
use Rattle.game_folder.specs.declared.store_games.Loss.{Loss}
use Rattle.game_folder.specs.declared.store_games.Loss.TheVariants.{OfMemory, OfStore}
use Rattle.served_games.specs.Durable.{HasBatch, IfSame, IsDurableAfter, MayFind, behind, last_among, last_of}
use Rattle.served_games.specs.InOrder.{FindsNoMore, MayTakeStored, StoreKeepsInOrder}
use Rattle.served_games.proofs.AtOnce.{if_other, if_same}
use Rattle.served_games.proofs.Stamping.{stamps_apart}

-- ---- what is noted last

push_bytes : (b : Bool) (r : StoredRecord) (o : Option StoredRecord) → its_bytes (cond b (Some r) o) ≡ cond b (Some r.bytes) (its_bytes o)
push_bytes true r o = refl
push_bytes false r o = refl

pub last_same : (records : Records) (entries : List Entry) (stamp : List ℕ) → its_bytes (with_all records entries stamp) ≡ last_among stamp (its_bytes (records stamp)) (map stamped entries)
last_same records [] stamp = refl
last_same records (e ∷ es) stamp =
    last_same (with_entry records e) es stamp ∙ ap (λ (l : Option (List ℕ)). last_among stamp l (map stamped es)) (push_bytes (bytes_eq e.stamp stamp) (entry_record e) (records stamp))

-- the last record of a batch is what was noted last
batch_last : (entries : List Entry) (stamp : List ℕ) → last_of stamp (map stamped entries) ≡ last_noted entries stamp
batch_last entries stamp = sym (last_same (λ _. None) entries stamp)

all_join : (records : Records) (xs : List Entry) (e : Entry) → with_all records (xs ++ e ∷ []) ≡ with_entry (with_all records xs) e
all_join records [] e = refl
all_join records (x ∷ xs) e = all_join (with_entry records x) xs e

last_behind : (entries : List Entry) (e : Entry) (stamp : List ℕ) → last_noted (entries ++ e ∷ []) stamp ≡ cond (bytes_eq e.stamp stamp) (Some e.record.items) (last_noted entries stamp)
last_behind entries e stamp = ap (λ (r : Records). its_bytes (r stamp)) (all_join (λ _. None) entries e) ∙ push_bytes (bytes_eq e.stamp stamp) (entry_record e) (records_of entries stamp)

some_is : (a b : List ℕ) → ◌≡◌ {A = Option (List ℕ)} (Some a) (Some b) → a ≡ b
some_is a b e = cc

-- ---- of a game

module _ {T P F K S L : Type 0} (o : Outside T P F K S L) (stamp : List ℕ) where
  abbrev May : StoredGames S → List Event → Option (List ℕ) → Type 0
  May g past found = MayTakeStored o g stamp past found

  abbrev InIt : StoredGames S → List Event → Option (List ℕ) → Type 0
  InIt g past found = MayFind (InStore (o.store_path g.store)) stamp past found

  -- nothing happened, and the games are as they were
  no_more : (g now : StoredGames S) (past events : List Event) → events ≡ [] → now ≡ g → FindsNoMore (May now (behind past events)) (May g past)
  no_more g now past events none same found m = subst (λ (x : StoredGames S). May x past found) same (subst (λ (l : List Event). May now (behind past l) found) none m)

  -- what a store may hold is what is noted over what it may have held
  over_held : (g : StoredGames S) (past past' : List Event) → FindsNoMore (InIt g past') (InIt g past) → FindsNoMore (May g past') (May g past)
  over_held g past past' h found m = by (last_noted g.noted stamp) m
    where
      by : (last : Option (List ℕ)) → HasBatch last found (InIt g past' found) → HasBatch last found (InIt g past found)
      by None x = h found x
      by (Some bytes) x = x

  -- ---- a game is looked for

  finds_so : (g : StoredGames S) (other : List ℕ) (result : Result GameConfig OpenGameError) (events past : List Event) → FindsInFolder g.folder other result events → FindsNoMore (May g (behind past events)) (May g past)
  finds_so g other result events past (HadNoPath why none) = no_more g g past events none refl
  finds_so g other result events past (Sought got short told one) = over_held g past (behind past events) (λ found m. subst (λ (l : List Event). InIt g (behind past l) found) one m)

  -- ---- a record is taken

  abbrev Taken : StoredGames S → StoredGames S → Option (List ℕ) → List Event → List Event → Type 0
  Taken g now got events past = (g.loss ≡ None) × May g past got × ((found : Option (List ℕ)) → May now (behind past events) found → found ≡ got)

  took_noted : (g : StoredGames S) (got : Option (List ℕ)) (bytes : List ℕ) (past : List Event) → last_noted g.noted stamp ≡ Some bytes → got ≡ Some bytes → May g past got × ((found : Option (List ℕ)) → May g past found → found ≡ got)
  took_noted g got bytes past last is = (
    subst (λ (l : Option (List ℕ)). HasBatch l got (InIt g past got)) (sym last) is,
    λ found m. subst (λ (l : Option (List ℕ)). HasBatch l found (InIt g past found)) last m ∙ sym is,
  )

  took_sought : (g : StoredGames S) (got : Option (List ℕ)) (past events : List Event) → last_noted g.noted stamp ≡ None → events ≡ RecordSought (o.store_path g.store) stamp got ∷ [] → IsDurableAfter (InStore (o.store_path g.store)) stamp past events
      → May g past got × ((found : Option (List ℕ)) → May g (behind past events) found → found ≡ got)
  took_sought g got past events last one durable =
      let path = o.store_path g.store in
      let d = subst (IsDurableAfter (InStore path) stamp past) one durable in (
        subst (λ (l : Option (List ℕ)). HasBatch l got (InIt g past got)) (sym last) (d.0 refl refl),
        λ found m.
            let held : InIt g (behind past events) found = subst (λ (l : Option (List ℕ)). HasBatch l found (InIt g (behind past events) found)) last m in
            let now : IfSame path path (IfSame stamp stamp (found ≡ got) (InIt g past found)) (InIt g past found) = subst (λ (l : List Event). InIt g (behind past l) found) one held in
            if_same stamp (found ≡ got) (InIt g past found) (if_same path (IfSame stamp stamp (found ≡ got) (InIt g past found)) (InIt g past found) now),
      )

  takes_so : (g now : StoredGames S) (got : Option (List ℕ)) (events past : List Event) → TakesFromStore (o.store_path g.store) g stamp (Ok got) events → now ≡ g → IsDurableAfter (InStore (o.store_path g.store)) stamp past events → Taken g now got events past
  takes_so g now got events past (WasRefused not is none) same durable = absurd (let f : ◌≡◌ {A = Result (Option (List ℕ)) OpenGameError} (Ok got) (Err unopened.Keeper) = is in cc)
  takes_so g now got events past (HadNoRoom may is none) same durable = absurd (let f : ◌≡◌ {A = Result (Option (List ℕ)) OpenGameError} (Ok got) (Err unopened.OutOfMemory) = is in cc)
  takes_so g now got events past (WasNoted may bytes last is none) same durable =
      let t = took_noted g got bytes past last (given_value got (Some bytes) is) in
      (may.0, t.0, λ found m. t.1 found (no_more g now past events none same found m))
  takes_so g now got events past (WasSought may last sought is one) same durable =
      let given : got ≡ sought = given_value got sought is in
      let t = took_sought g got past events last (one ∙ ap (λ (x : Option (List ℕ)). RecordSought (o.store_path g.store) stamp x ∷ []) (sym given)) durable in
      (may.0, t.0, λ found m. t.1 found (subst (λ (x : StoredGames S). May x (behind past events) found) same m))

  -- what was looked for might be found
  sought_so : (g : StoredGames S) (sought : Option (List ℕ)) (past events : List Event) → events ≡ RecordSought (o.store_path g.store) stamp sought ∷ [] → IsDurableAfter (InStore (o.store_path g.store)) stamp past events → FindsNoMore (InIt g (behind past events)) (InIt g past)
  sought_so g sought past events one durable found m =
      let path = o.store_path g.store in
      let d = subst (IsDurableAfter (InStore path) stamp past) one durable in
      let now : IfSame path path (IfSame stamp stamp (found ≡ sought) (InIt g past found)) (InIt g past found) = subst (λ (l : List Event). InIt g (behind past l) found) one m in
      let is : found ≡ sought = if_same stamp (found ≡ sought) (InIt g past found) (if_same path (IfSame stamp stamp (found ≡ sought) (InIt g past found)) (InIt g past found) now) in
      subst (InIt g past) (sym is) (d.0 refl refl)

  withholds_so : (g now : StoredGames S) (why : OpenGameError) (events past : List Event) → TakesFromStore (o.store_path g.store) g stamp (Err why) events → now ≡ g → IsDurableAfter (InStore (o.store_path g.store)) stamp past events → FindsNoMore (May now (behind past events)) (May g past)
  withholds_so g now why events past (WasRefused not is none) same durable = no_more g now past events none same
  withholds_so g now why events past (HadNoRoom may is none) same durable = no_more g now past events none same
  withholds_so g now why events past (WasNoted may bytes last is none) same durable = no_more g now past events none same
  withholds_so g now why events past (WasSought may last sought is one) same durable =
      λ found m. over_held g past (behind past events) (sought_so g sought past events one durable) found (subst (λ (x : StoredGames S). May x (behind past events) found) same m)

  -- of another game
  apart_so : (g now : StoredGames S) (other : List ℕ) (result : Result (Option (List ℕ)) OpenGameError) (events past : List Event) → bytes_eq other stamp ≡ false → TakesFromStore (o.store_path g.store) g other result events → now ≡ g → FindsNoMore (May now (behind past events)) (May g past)
  apart_so g now other result events past apart (WasRefused not is none) same = no_more g now past events none same
  apart_so g now other result events past apart (HadNoRoom may is none) same = no_more g now past events none same
  apart_so g now other result events past apart (WasNoted may bytes last is none) same = no_more g now past events none same
  apart_so g now other result events past apart (WasSought may last sought is one) same =
      λ found m. over_held g past (behind past events) elsewhere found (subst (λ (x : StoredGames S). May x (behind past events) found) same m)
    where
      elsewhere : FindsNoMore (InIt g (behind past events)) (InIt g past)
      elsewhere found m =
          let path = o.store_path g.store in
          let now : IfSame path path (IfSame other stamp (found ≡ sought) (InIt g past found)) (InIt g past found) = subst (λ (l : List Event). InIt g (behind past l) found) one m in
          if_other other stamp (found ≡ sought) (InIt g past found) (stamps_apart stamp other apart) (if_same path (IfSame other stamp (found ≡ sought) (InIt g past found)) (InIt g past found) now)

  -- ---- bytes are noted

  mine_last : (g : StoredGames S) (e : Entry) (bytes : List ℕ) → IsEntryFor stamp bytes e → last_noted (g.noted ++ e ∷ []) stamp ≡ Some bytes
  mine_last g e bytes is =
      let test : bytes_eq e.stamp stamp ≡ true = ap (λ (s : List ℕ). bytes_eq s stamp) is.of ∙ itself stamp in
      last_behind g.noted e stamp ∙ ap (λ (b : Bool). cond b (Some e.record.items) (last_noted g.noted stamp)) test ∙ ap (λ (x : List ℕ). Some x) is.bytes_are

  other_last : (g : StoredGames S) (e : Entry) (other bytes : List ℕ) → bytes_eq other stamp ≡ false → IsEntryFor other bytes e → last_noted (g.noted ++ e ∷ []) stamp ≡ last_noted g.noted stamp
  other_last g e other bytes apart is =
      let test : bytes_eq e.stamp stamp ≡ false = ap (λ (s : List ℕ). bytes_eq s stamp) is.of ∙ apart in
      last_behind g.noted e stamp ∙ ap (λ (b : Bool). cond b (Some e.record.items) (last_noted g.noted stamp)) test

  keeps_so : (g now : StoredGames S) (bytes : List ℕ) (events past : List Event) → events ≡ [] → NotesBytes g stamp bytes true now → (found : Option (List ℕ)) → May now (behind past events) found → found ≡ Some bytes
  keeps_so g now bytes events past none notes found m =
      let at : last_noted now.noted stamp ≡ Some bytes = ap (λ (x : StoredGames S). last_noted x.noted stamp) notes.2 ∙ mine_last g notes.0 bytes notes.1 in
      subst (λ (l : Option (List ℕ)). HasBatch l found (InIt now (behind past events) found)) at m

  -- what is noted of the game, and the path of the store, are as they were
  so_held : (g now : StoredGames S) (past past' : List Event) → last_noted now.noted stamp ≡ last_noted g.noted stamp → o.store_path now.store ≡ o.store_path g.store → FindsNoMore (May now past') (λ found. HasBatch (last_noted g.noted stamp) found (InIt g past' found))
  so_held g now past past' last path found m =
      subst (λ (l : Option (List ℕ)). HasBatch l found (InIt g past' found)) last (subst (λ (p : List ℕ). HasBatch (last_noted now.noted stamp) found (MayFind (InStore p) stamp past' found)) path m)

  so_noted : (g now : StoredGames S) (past events : List Event) → events ≡ [] → last_noted now.noted stamp ≡ last_noted g.noted stamp → now.store ≡ g.store → FindsNoMore (May now (behind past events)) (May g past)
  so_noted g now past events none last store found m = so_held g now past past last (ap (λ (s : S). o.store_path s) store) found (subst (λ (l : List Event). May now (behind past l) found) none m)

  notes_apart : (g now : StoredGames S) (other bytes : List ℕ) (is_done : Bool) (events past : List Event) → bytes_eq other stamp ≡ false → events ≡ [] → NotesBytes g other bytes is_done now → FindsNoMore (May now (behind past events)) (May g past)
  notes_apart g now other bytes true events past apart none notes =
      so_noted g now past events none (ap (λ (x : StoredGames S). last_noted x.noted stamp) notes.2 ∙ other_last g notes.0 other bytes apart notes.1) (ap (λ (x : StoredGames S). x.store) notes.2)
  notes_apart g now other bytes false events past apart none notes = so_noted g now past events none (ap (λ (x : StoredGames S). last_noted x.noted stamp) notes) (ap (λ (x : StoredGames S). x.store) notes)

  fails_so : (g now : StoredGames S) (bytes : List ℕ) (events past : List Event) → events ≡ [] → NotesBytes g stamp bytes false now → FindsNoMore (May now (behind past events)) (May g past)
  fails_so g now bytes events past none notes = so_noted g now past events none (ap (λ (x : StoredGames S). last_noted x.noted stamp) notes) (ap (λ (x : StoredGames S). x.store) notes)

  -- ---- what is noted is committed

  -- in a batch that was committed, and in one that wasn't
  batch_may : (g : StoredGames S) (past : List Event) (found : Option (List ℕ)) → HasBatch (last_of stamp (map stamped g.noted)) found (InIt g past found) → May g past found
  batch_may g past found m = subst (λ (l : Option (List ℕ)). HasBatch l found (InIt g past found)) (batch_last g.noted stamp) m

  pub done_may : (g : StoredGames S) (past : List Event) → FindsNoMore (InIt g (Committed (o.store_path g.store) (map stamped g.noted) true ∷ past)) (May g past)
  done_may g past found m = batch_may g past found (if_same (o.store_path g.store) (HasBatch (last_of stamp (map stamped g.noted)) found (InIt g past found)) (InIt g past found) m)

  pub undone_may : (g : StoredGames S) (past : List Event) (found : Option (List ℕ)) → InIt g (Committed (o.store_path g.store) (map stamped g.noted) false ∷ past) found → May g past found ⊎ InIt g past found
  undone_may g past found m = by (if_same (o.store_path g.store) (HasBatch (last_of stamp (map stamped g.noted)) found (InIt g past found) ⊎ InIt g past found) (InIt g past found) m)
    where
      by : HasBatch (last_of stamp (map stamped g.noted)) found (InIt g past found) ⊎ InIt g past found → May g past found ⊎ InIt g past found
      by (inl batch) = inl (batch_may g past found batch)
      by (inr old) = inr old

  -- nothing of the game is noted any more
  pub none_noted : (now : StoredGames S) (past : List Event) → now.noted ≡ [] → FindsNoMore (May now past) (InIt now past)
  none_noted now past none found m = subst (λ (es : List Entry). HasBatch (last_noted es stamp) found (InIt now past found)) none m

  pub all_noted : (g : StoredGames S) (past : List Event) → g.noted ≡ [] → FindsNoMore (InIt g past) (May g past)
  all_noted g past none found m = subst (λ (es : List Entry). HasBatch (last_noted es stamp) found (InIt g past found)) (sym none) m

  at_path : (g now : StoredGames S) (past : List Event) → o.store_path now.store ≡ o.store_path g.store → FindsNoMore (InIt now past) (InIt g past)
  at_path g now past path found m = subst (λ (p : List ℕ). MayFind (InStore p) stamp past found) path m

  -- behind a commit that lacked memory a taking finds what it did
  lacks_may : (g now : StoredGames S) (past : List Event) → last_noted now.noted stamp ≡ last_noted g.noted stamp → o.store_path now.store ≡ o.store_path g.store → FindsNoMore (May now (Committed (o.store_path g.store) (map stamped g.noted) false ∷ past)) (May g past)
  lacks_may g now past last path found m = by (last_noted g.noted stamp) refl (so_held g now past (Committed (o.store_path g.store) (map stamped g.noted) false ∷ past) last path found m)
    where
      either : May g past found ⊎ InIt g past found → last_noted g.noted stamp ≡ None → May g past found
      either (inl may) none = may
      either (inr old) none = subst (λ (l : Option (List ℕ)). HasBatch l found (InIt g past found)) (sym none) old

      by : (l : Option (List ℕ)) → last_noted g.noted stamp ≡ l → HasBatch l found (InIt g (Committed (o.store_path g.store) (map stamped g.noted) false ∷ past) found) → May g past found
      by None is x = either (undone_may g past found x) is
      by (Some bytes) is x = subst (λ (l : Option (List ℕ)). HasBatch l found (InIt g past found)) (sym is) x

-- ---- whether more can be committed

module _ {S : Type 0} (g now : StoredGames S) where
  lost_not : (loss : Loss) (a : Option Loss) → a ≡ Some loss → a ≡ None → ⊥
  lost_not loss a some none = let f : Some loss ≡ None = sym some ∙ none in cc

  could_not : (loss : Loss) → g.loss ≡ Some loss → LeavesNoted {A = Unit {0}} (Err (loss_told loss)) g now → now.loss ≡ None → ⊥
  could_not OfStore is left fit = lost_not OfStore now.loss left fit
  could_not OfMemory is left fit = lost_not OfMemory now.loss (ap (λ (x : StoredGames S). x.loss) left.1 ∙ left.0) fit

  commit_fit : (path : List ℕ) (told : Result (Unit {0}) Uncommitted) (events : List Event) → CommitsNoted path g told events → LeavesNoted told g now → now.loss ≡ None → g.loss ≡ None
  commit_fit path told events (CouldNot loss is why none) left fit = absurd (could_not loss is (subst (λ (r : Result (Unit {0}) Uncommitted). LeavesNoted r g now) why left) fit)
  commit_fit path told events (HadNone can noted is none) left fit = can
  commit_fit path told events (HasAll may is one) left fit = may.0
  commit_fit path told events (LacksMemory may is one) left fit = may.0
  commit_fit path told events (LosesStore may is two) left fit = may.0

  note_fit : (stamp bytes : List ℕ) (is_done : Bool) → NotesBytes g stamp bytes is_done now → now.loss ≡ None → (g.loss ≡ None) × (is_done ≡ true)
  note_fit stamp bytes true notes fit = (sym (ap (λ (x : StoredGames S). x.loss) notes.2) ∙ fit, refl)
  note_fit stamp bytes false notes fit = absurd (lost_not OfMemory now.loss (ap (λ (x : StoredGames S). x.loss) notes) fit)

note_stays : {T P F K S L : Type 0} (o : Outside T P F K S L) (g now : StoredGames S) (stamp bytes : List ℕ) (is_done : Bool) → NotesBytes g stamp bytes is_done now → (store_games_facts o).place now ≡ (store_games_facts o).place g
note_stays {S = S} o g now stamp bytes true notes = ap (λ (x : StoredGames S). (store_games_facts o).place x) notes.2
note_stays {S = S} o g now stamp bytes false notes = ap (λ (x : StoredGames S). (store_games_facts o).place x) notes

-- ---- a commit

ok_err : (why : Uncommitted) → ◌≡◌ {A = Result (Unit {0}) Uncommitted} (Ok tt) (Err why) → ⊥
ok_err why e = cc

module _ {T P F K S L : Type 0} (o : Outside T P F K S L) (stamp : List ℕ) (g now : StoredGames S) where
  abbrev Told : Type 0
  Told = Result (Unit {0}) Uncommitted

  ok_is_no_err : (why : Uncommitted) → ◌≡◌ {A = Told} (Ok tt) (Err why) → ⊥
  ok_is_no_err why e = cc

  commits_so : (path_is : o.store_path now.store ≡ o.store_path g.store) (told : Told) (events past : List Event) → CommitsNoted (o.store_path g.store) g told events → LeavesNoted told g now → now.loss ≡ None → FindsNoMore (MayTakeStored o now stamp (behind past events)) (MayTakeStored o g stamp past)
  commits_so path_is told events past (CouldNot loss is why none) left fit found m = absurd (could_not g now loss is (subst (λ (r : Told). LeavesNoted r g now) why left) fit)
  commits_so path_is told events past (HadNone can noted is none) left fit found m =
      let same : now ≡ record g { store = now.store; noted = [] } = subst (λ (r : Told). LeavesNoted r g now) is left in
      all_noted o stamp g past noted found (at_path o stamp g now past path_is found (none_noted o stamp now past (ap (λ (x : StoredGames S). x.noted) same) found (subst (λ (l : List Event). MayTakeStored o now stamp (behind past l) found) none m)))
  commits_so path_is told events past (HasAll may is one) left fit found m =
      let same : now ≡ record g { store = now.store; noted = [] } = subst (λ (r : Told). LeavesNoted r g now) is left in
      let after = Committed (o.store_path g.store) (map stamped g.noted) true ∷ past in
      done_may o stamp g past found (at_path o stamp g now after path_is found (none_noted o stamp now after (ap (λ (x : StoredGames S). x.noted) same) found (subst (λ (l : List Event). MayTakeStored o now stamp (behind past l) found) one m)))
  commits_so path_is told events past (LacksMemory may is one) left fit found m =
      let same : (g.loss ≡ None) × (now ≡ record g { store = now.store }) = subst (λ (r : Told). LeavesNoted r g now) is left in
      lacks_may o stamp g now past (ap (λ (x : StoredGames S). last_noted x.noted stamp) same.1) path_is found (subst (λ (l : List Event). MayTakeStored o now stamp (behind past l) found) one m)
  commits_so path_is told events past (LosesStore may is two) left fit found m = absurd (lost_not g now OfStore now.loss (subst (λ (r : Told). LeavesNoted r g now) is left) fit)

  lasts_so : (events past : List Event) → CommitsNoted (o.store_path g.store) g (Ok tt) events → FindsNoMore (MayFind (InStore (o.store_path g.store)) stamp (behind past events)) (MayTakeStored o g stamp past)
  lasts_so events past (CouldNot loss is why none) = absurd (ok_is_no_err (loss_told loss) why)
  lasts_so events past (HadNone can noted is none) = λ found m. all_noted o stamp g past noted found (subst (λ (l : List Event). MayFind (InStore (o.store_path g.store)) stamp (behind past l) found) none m)
  lasts_so events past (HasAll may is one) = λ found m. done_may o stamp g past found (subst (λ (l : List Event). MayFind (InStore (o.store_path g.store)) stamp (behind past l) found) one m)
  lasts_so events past (LacksMemory may is one) = absurd (ok_is_no_err uncommitted.OutOfMemory is)
  lasts_so events past (LosesStore may is two) = absurd (ok_is_no_err uncommitted.StoreLost is)

  with_fit : (past : List Event) (found : Option (List ℕ)) → g.loss ≡ None → MayTakeStored o g stamp past found ⊎ MayFind (InStore (o.store_path g.store)) stamp past found
      → ((g.loss ≡ None) × MayTakeStored o g stamp past found) ⊎ MayFind (InStore (o.store_path g.store)) stamp past found
  with_fit past found fit (inl may) = inl (fit, may)
  with_fit past found fit (inr old) = inr old

  breaks_so : (why : Uncommitted) (events past : List Event) → CommitsNoted (o.store_path g.store) g (Err why) events → (found : Option (List ℕ)) → MayFind (InStore (o.store_path g.store)) stamp (behind past events) found → ((g.loss ≡ None) × MayTakeStored o g stamp past found) ⊎ MayFind (InStore (o.store_path g.store)) stamp past found
  breaks_so why events past (CouldNot loss is told none) found m = inr (subst (λ (l : List Event). MayFind (InStore (o.store_path g.store)) stamp (behind past l) found) none m)
  breaks_so why events past (HadNone can noted is none) found m = absurd (ok_is_no_err why (sym is))
  breaks_so why events past (HasAll may is one) found m = absurd (ok_is_no_err why (sym is))
  breaks_so why events past (LacksMemory may is one) found m = with_fit past found may.0 (undone_may o stamp g past found (subst (λ (l : List Event). MayFind (InStore (o.store_path g.store)) stamp (behind past l) found) one m))
  breaks_so why events past (LosesStore may is two) found m = with_fit past found may.0 (undone_may o stamp g past found (subst (λ (l : List Event). MayFind (InStore (o.store_path g.store)) stamp (behind past l) found) two m))

ok_fit : {T P F K S L : Type 0} (o : Outside T P F K S L) (g : StoredGames S) (events : List Event) → CommitsNoted (o.store_path g.store) g (Ok tt) events → g.loss ≡ None
ok_fit o g events (CouldNot loss is why none) = absurd (ok_err (loss_told loss) why)
ok_fit o g events (HadNone can noted is none) = can
ok_fit o g events (HasAll may is one) = may.0
ok_fit o g events (LacksMemory may is one) = may.0
ok_fit o g events (LosesStore may is two) = may.0

pub store_keeps_in_order : {T P F K S L : Type 0} (o : Outside T P F K S L) → StoreKeepsInOrder o
store_keeps_in_order {S = S} o = record {
  finds = λ g stamp other result events past finds. finds_so o stamp g other result events past finds.0;
  takes = λ g now stamp got events past takes durable. takes_so o stamp g now got events past takes.0 takes.1 durable;
  withholds = λ g now stamp why events past takes durable. withholds_so o stamp g now why events past takes.0 takes.1 durable;
  keeps = λ g now stamp bytes events past keeps. keeps_so o stamp g now bytes events past keeps.0 keeps.1;
  fails = λ g now stamp bytes events past keeps. fails_so o stamp g now bytes events past keeps.0 keeps.1;
  takes_apart = λ g now stamp other apart result events past takes. apart_so o stamp g now other result events past apart takes.0 takes.1;
  keeps_apart = λ g now stamp other bytes apart is_done events past keeps. notes_apart o stamp g now other bytes is_done events past apart keeps.0 keeps.1;
  commits = λ g now place stamp told events past commits fit. commits_so o stamp g now (ap (λ (p : StoredPlace). p.store_path) place) told events past commits.0 commits.1 fit;
  lasts = λ g now stamp events past commits. lasts_so o stamp g now events past commits.0;
  breaks_off = λ g now stamp why events past commits. breaks_so o stamp g now why events past commits.0;
  commits_ok = λ g now events commits. ok_fit o g events commits.0;
  takes_fit = λ g now stamp result events takes fit. sym (ap (λ (x : StoredGames S). x.loss) takes.1) ∙ fit;
  stays = λ g stamp events past stays. over_held o stamp g past (behind past events) stays;
  takes_stay = λ g now stamp result events takes. ap (λ (x : StoredGames S). (store_games_facts o).place x) takes.1;
  keeps_stay = λ g now stamp bytes is_done events keeps. note_stays o g now stamp bytes is_done keeps.1;
  keeps_fit = λ g now stamp bytes is_done events keeps fit. (note_fit g now stamp bytes is_done keeps.1 fit).0;
  commits_fit = λ g now told events commits fit. commit_fit g now (o.store_path g.store) told events commits.0 commits.1 fit;
}
