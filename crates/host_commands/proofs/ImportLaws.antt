-- Games are looked at one after the other, and what comes is put into a store.
use Rattle.std.proofs.Common.{◌≡◌, ◌∙◌, ◌∷◌, ◌++◌, ◌+◌, [], ℕ, List, ap, drop, drop-cons, get_or, length, refl, subst, suc, sym, take, take-append-drop}
use Rattle.std.proofs.lemmas.List.{map-append, take_more}
use Rattle.std.proofs.lemmas.List.Concat.{flat_map-append}
use Rattle.std.specs.Cmp.Lexicographic.{slice_cmp}
use Rattle.std.specs.Global.{Global}
use Rattle.std.specs.List.{AllByRecursion, flat_map}
use Rattle.std.specs.List.Sorted.{IsStrictlySortedBy}
use Rattle.std.specs.Ordering.{nat_cmp}
use Rattle.std.specs.Prelude.{Result, Ok, Err, IfOk, OnOk, Vec, ◌<◌}
use Rattle.answer_parts.specs.Lines.{refusal_words}
use Rattle.answer_parts.specs.declared.answers.refusals.Refusal.{Refusal}
use Rattle.game_status.proofs.ListingLaws.{are_stamps}
use Rattle.game_status.specs.Listings.{AddsStamps, AreStampsIn, kept_ending}
use Rattle.host_commands.specs.Imports.{AllImported, AreListed, AllSeen, FolderIsNot, ImportsRecords, IsLook, ListsAndLooks, Look, LooksAndPuts, LooksAtAll, NoRoomFor, NoRoomForStamps, NotPut, OneFails, OneUnseen, PutsComing, all_look_events, entry_in, left_by, look_events, stamps_of}
use Rattle.host_commands.specs.Inside.Importing.{AddsSeen, AreArrivals, CannotListKept, ListsKept, LooksAtThese, NoNames, NoRoomForThem, SeesGame, imported_or, look_of}
use Rattle.host_commands.specs.declared.arriving.Seen.{Seen}
use Rattle.host_commands.specs.declared.importing.Arrivals.{Arrivals}
use Rattle.line_teller.specs.ToldLines.{refused_memory}
use Rattle.system_io.specs.declared.record_store.Entry.{Entry}
use Rattle.timeline.proofs.EventLaws.{adds_more, adds_none}
use Rattle.timeline.specs.Events.{Event, FolderListed}
use Rattle.timeline.specs.Outsides.{Adds, AddsSome, Outside}

no_more : {A : Type 0} (l : List A) → l ++ [] ≡ l
no_more [] = refl
no_more (x ∷ l) = ap (λ rest. x ∷ rest) (no_more l)

-- one more at the end
pushed : {A B : Type 0} (f : A → List B) (xs : List A) (x : A) → flat_map f (xs ++ x ∷ []) ≡ flat_map f xs ++ f x
pushed f xs x = flat_map-append f xs (x ∷ []) ∙ ap (λ l. flat_map f xs ++ l) (no_more (f x))

module _ {T P F K S L : Type 0} (o : Outside T P F K S L) (folder : List ℕ) (store : S) where
  all_looks : (looks : List Look) (look : Look) → AllByRecursion (IsLook o folder store) looks → IsLook o folder store look → AllByRecursion (IsLook o folder store) (looks ++ look ∷ [])
  all_looks [] look all is = (is, tt)
  all_looks (x ∷ looks) look all is = (all.0, all_looks looks look all.1 is)

  -- games with these stamps were looked at
  pub record WereSeen (stamps : List (List ℕ)) (a b : T) : Type 0 where
    pub looks : List Look
    pub all : AllByRecursion (IsLook o folder store) looks
    pub are : stamps_of looks ≡ stamps
    pub made : Adds o a b (all_look_events (o.store_path store) folder looks)

  -- and this comes of it
  pub record HasSeen (stamps : List (List ℕ)) (a b : T) (arrivals : Arrivals) : Type 0 where
    pub seen : WereSeen stamps a b
    pub arrived : AreArrivals seen.looks arrivals

  pub none_seen : (a : T) (arrivals : Arrivals) → arrivals.entries.items ≡ [] → arrivals.left.items ≡ [] → HasSeen [] a a arrivals
  none_seen a arrivals entries left = record {
    seen = record { looks = []; all = tt; are = refl; made = adds_none o a };
    arrived = record { entries = entries; left = left };
  }

  -- one more was
  one_more : (stamps : List (List ℕ)) (stamp : List ℕ) (a b c : T) (seen : Seen) → WereSeen stamps a b → AddsSome o b c (SeesGame o folder store stamp (Ok seen)) → WereSeen (stamps ++ stamp ∷ []) a c
  one_more stamps stamp a b c seen w p =
      let look = look_of stamp p.2.0 in
      let before : List Event = all_look_events (o.store_path store) folder w.looks in
      record {
        looks = w.looks ++ look ∷ [];
        all = all_looks w.looks look w.all p.2.1.1;
        are = map-append (λ (l : Look). l.stamp) w.looks (look ∷ []) ∙ ap (λ (l : List (List ℕ)). l ++ stamp ∷ []) w.are;
        made = subst (Adds o a c) (ap (λ (e : List Event). before ++ e) p.2.1.2 ∙ sym (pushed (look_events (o.store_path store) folder) w.looks look)) (adds_more o a b c before p.0 w.made p.1);
      }

  pub one_seen : (stamps : List (List ℕ)) (stamp : List ℕ) (a b c : T) (seen : Seen) (arrivals arrivals' : Arrivals) → HasSeen stamps a b arrivals → AddsSome o b c (SeesGame o folder store stamp (Ok seen))
      → AddsSeen stamp seen arrivals.entries.items arrivals.left.items arrivals'.entries.items arrivals'.left.items → HasSeen (stamps ++ stamp ∷ []) a c arrivals'
  unfolding one_more
  one_seen stamps stamp a b c seen arrivals arrivals' h p adds =
      let kept = p.2.0 in
      let look = look_of stamp kept in
      let added = adds kept p.2.1.0 in
      record {
        seen = one_more stamps stamp a b c seen h.seen p;
        arrived = record {
          entries = added.0 ∙ ap (λ (l : List Entry). l ++ entry_in kept) h.arrived.entries ∙ sym (pushed (λ (x : Look). entry_in x.kept) h.seen.looks look);
          left = added.1 ∙ ap (λ (l : List (List ℕ)). l ++ left_by stamp kept) h.arrived.left ∙ sym (pushed (λ (x : Look). left_by x.stamp x.kept) h.seen.looks look);
        };
      }

  -- one can't be looked at, or what was found can't be kept
  pub one_unseen : (stamps before after : List (List ℕ)) (stamp : List ℕ) (a b c : T) (refusal : Refusal) → stamps ≡ before ++ stamp ∷ after → WereSeen before a b → AddsSome o b c (SeesGame o folder store stamp (Err refusal)) → AddsSome o a c (LooksAtThese o folder store stamps (Err refusal))
  one_unseen stamps before after stamp a b c refusal parted w p = (
    all_look_events (o.store_path store) folder w.looks ++ p.0,
    adds_more o a b c (all_look_events (o.store_path store) folder w.looks) p.0 w.made p.1,
    OneFails w.looks (refusal_words refusal) w.all (record { stamp = stamp; after = after; last = p.0; are = parted ∙ ap (λ (l : List (List ℕ)). l ++ stamp ∷ after) (sym w.are); fails = p.2; all = refl }) refl,
  )

  pub no_room_for : (stamps before after : List (List ℕ)) (stamp : List ℕ) (a b c : T) (seen : Seen) (refusal : Refusal) → refusal_words refusal ≡ refused_memory → stamps ≡ (before ++ stamp ∷ []) ++ after → WereSeen before a b → AddsSome o b c (SeesGame o folder store stamp (Ok seen))
      → AddsSome o a c (LooksAtThese o folder store stamps (Err refusal))
  no_room_for stamps before after stamp a b c seen refusal words parted w p =
      let more = one_more before stamp a b c seen w p in
      (all_look_events (o.store_path store) folder more.looks, more.made, NoRoomFor more.looks more.all (after, parted ∙ ap (λ (l : List (List ℕ)). l ++ after) (sym more.are)) (ap Err words) refl)

  pub all_seen : (stamps before : List (List ℕ)) (a b : T) (arrivals : Arrivals) → before ≡ stamps → HasSeen before a b arrivals → AddsSome o a b (LooksAtThese o folder store stamps (Ok arrivals))
  all_seen stamps before a b arrivals same h =
      (all_look_events (o.store_path store) folder h.seen.looks, h.seen.made, (h.seen.looks, h.arrived, AllSeen h.seen.looks h.seen.all (h.seen.are ∙ same) refl refl))

-- the first so many of some stamps, and the next
pub next_stamp : (stamps : List (List ℕ)) (i : ℕ) (d : List ℕ) → i < length stamps → d ≡ get_or stamps i d → take (i + 1) stamps ≡ take i stamps ++ d ∷ []
next_stamp stamps i d lt is = take_more stamps i d lt ∙ ap (λ (l : List ℕ). take i stamps ++ l ∷ []) (sym is)

pub stamps_parted : (stamps : List (List ℕ)) (i : ℕ) (d : List ℕ) → i < length stamps → d ≡ get_or stamps i d → stamps ≡ take i stamps ++ d ∷ drop (suc i) stamps
stamps_parted stamps i d lt is = sym (take-append-drop i stamps) ∙ ap (λ (l : List (List ℕ)). take i stamps ++ l) (drop-cons stamps i d lt ∙ ap (λ (l : List ℕ). l ∷ drop (suc i) stamps) (sym is))

-- ---- all of it

module _ {T P F K S L : Type 0} (o : Outside T P F K S L) (folder : List ℕ) (old : S) where
  pub not_listed : (new : S) (a b : T) (refusal : Refusal) → AddsSome o a b (ListsKept o.disk folder (Err refusal)) → AddsSome o a b (ImportsRecords o folder old (imported_or new (Err refusal)))
  not_listed new a b refusal p = (p.0, p.1, why p.0 p.2)
    where
      why : (events : List Event) → CannotListKept o.disk folder (refusal_words refusal) events → ImportsRecords o folder old (Err (refusal_words refusal)) events
      why events (NoRoomForThem names has words) = NoRoomForStamps names has (ap Err words)
      why events (NoNames fault lacks words) = FolderIsNot fault lacks (ap Err words)

  -- with the listing before
  after_names : (a b c : T) (names : List (List ℕ)) (first rest : List Event) → first ≡ FolderListed folder (Ok names) ∷ [] → Adds o a b first → Adds o b c rest → Adds o a c (FolderListed folder (Ok names) ∷ rest)
  after_names a b c names first rest is p q = subst (λ (e : List Event). Adds o a c (e ++ rest)) is (adds_more o a b c first rest p q)

  -- its games were looked at
  looked : (stamps : Vec (List ℕ) Global) (seen : Result (List Look) (List ℕ)) (x y : List Event) (listed : ListsKept o.disk folder (Ok stamps) x) → LooksAtAll o folder old stamps.items seen y → ListsAndLooks o folder old seen (FolderListed folder (Ok listed.0) ∷ y)
  looked stamps seen x y listed looks = record { names = listed.0; stamps = stamps.items; looking = y; lists = listed.1; are = listed.2; looks = looks; all = refl }

  pub not_seen : (new : S) (a b c : T) (stamps : Vec (List ℕ) Global) (refusal : Refusal) → AddsSome o a b (ListsKept o.disk folder (Ok stamps)) → AddsSome o b c (LooksAtThese o folder old stamps.items (Err refusal)) → AddsSome o a c (ImportsRecords o folder old (imported_or new (Err refusal)))
  not_seen new a b c stamps refusal p q =
      let names = p.2.0 in
      (FolderListed folder (Ok names) ∷ q.0, after_names a b c names p.0 q.0 p.2.3 p.1 q.1, OneUnseen (refusal_words refusal) (looked stamps (Err (refusal_words refusal)) p.0 q.0 p.2 q.2) refl)

  -- and this came of putting what comes
  put_so : (a b c d : T) (stamps : Vec (List ℕ) Global) (arrivals : Arrivals) (put : Result S (List ℕ)) → AddsSome o a b (ListsKept o.disk folder (Ok stamps)) → (q : AddsSome o b c (LooksAtThese o folder old stamps.items (Ok arrivals)))
      → AddsSome o c d (PutsComing o old arrivals.entries.items put) → AddsSome o a d (LooksAndPuts o folder old q.2.0 put)
  put_so a b c d stamps arrivals put p q s =
      let names = p.2.0 in
      let seen = q.2.0 in
      let putting = subst (λ (es : List Entry). PutsComing o old es put s.0) q.2.1.entries s.2 in (
        FolderListed folder (Ok names) ∷ q.0 ++ s.0,
        after_names a b d names p.0 (q.0 ++ s.0) p.2.3 p.1 (adds_more o b c d q.0 s.0 q.1 s.1),
        record { before = FolderListed folder (Ok names) ∷ q.0; putting = s.0; looks = looked stamps (Ok seen) p.0 q.0 p.2 q.2.2; puts = putting; all = refl },
      )

  pub not_put : (new : S) (a b c d : T) (stamps : Vec (List ℕ) Global) (arrivals : Arrivals) (refusal : Refusal) → AddsSome o a b (ListsKept o.disk folder (Ok stamps)) → AddsSome o b c (LooksAtThese o folder old stamps.items (Ok arrivals))
      → AddsSome o c d (PutsComing o old arrivals.entries.items (Err (refusal_words refusal))) → AddsSome o a d (ImportsRecords o folder old (imported_or new (Err refusal)))
  not_put new a b c d stamps arrivals refusal p q s =
      let both = put_so a b c d stamps arrivals (Err (refusal_words refusal)) p q s in
      (both.0, both.1, NotPut q.2.0 (refusal_words refusal) both.2 refl)

  pub all_imported : (new : S) (a b c d : T) (stamps : Vec (List ℕ) Global) (arrivals : Arrivals) → AddsSome o a b (ListsKept o.disk folder (Ok stamps)) → AddsSome o b c (LooksAtThese o folder old stamps.items (Ok arrivals))
      → AddsSome o c d (PutsComing o old arrivals.entries.items (Ok new)) → AddsSome o a d (ImportsRecords o folder old (imported_or new (Ok arrivals.left)))
  all_imported new a b c d stamps arrivals p q s =
      let both = put_so a b c d stamps arrivals (Ok new) p q s in
      (both.0, both.1, AllImported q.2.0 new both.2 (ap (λ (left : List (List ℕ)). Ok (record { store = new; left = left })) q.2.1.left))

-- the stamps that names tell, in rising order
pub listed_so : {E : Type 0} (names old keys : List (List ℕ)) → old ≡ [] → AddsStamps names kept_ending old keys → (r : Result (Vec (List ℕ) Global) E) → IfOk r (λ all. all.items ≡ keys) → OnOk r (IsStrictlySortedBy (slice_cmp nat_cmp) keys) → IfOk r (λ stamps. AreListed names stamps.items)
listed_so names old keys empty adds (Ok all) is sorted = record {
  are = subst (AreStampsIn names kept_ending) (sym is) (are_stamps names kept_ending old keys empty adds);
  rising = subst (IsStrictlySortedBy (slice_cmp nat_cmp)) (sym is) sorted;
}
listed_so names old keys empty adds (Err e) is sorted = tt
