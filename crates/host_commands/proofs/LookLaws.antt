-- A game whose record is listed as a file is looked at.
use Rattle.std.proofs.Common.{◌≡◌, ◌∷◌, ◌++◌, [], ℕ, true, false, List, Option, Some, None, ap, inl, inr, refl, subst, sym, ◌≤◌, length}
use Rattle.std.specs.Borrow.{Bor}
use Rattle.std.specs.Prelude.{MatchOption, Result, Ok, Err, is_some, option_map}
use Rattle.answer_parts.specs.Lines.{refusal_words}
use Rattle.answer_parts.specs.declared.answers.refusals.Refusal.{Refusal}
use Rattle.arbiter_server.specs.GameFolders.{kept_path}
use Rattle.game_status.specs.Imports.{IsEntryOf, IsNoRecordOf, most_kept}
use Rattle.host_commands.specs.Imports.{FailsToLook, FileUnread, InFile, InNeither, InStore, NoRoomForFile, NoRoomToRead}
use Rattle.host_commands.specs.Inside.Importing.{HasRecord, IsUnread, NoRoomToDecode, ReadsInFolder, ReadsRecord, SeesGame}
use Rattle.host_commands.specs.declared.arriving.Seen.TheVariants as seen
use Rattle.system_io.specs.Records.{StoredRecord}
use Rattle.system_io.specs.declared.record_store.Entry.{Entry}
use Rattle.timeline.proofs.EventLaws.{adds_more}
use Rattle.timeline.specs.Events.{Event, FileRead, RecordSought, bytes_found}
use Rattle.timeline.specs.Outsides.{Adds, AddsSome, Outside}

module _ {T P F K S L : Type 0} (o : Outside T P F K S L) where
  -- what was read is a record of the game, or none
  pub record_found : (path stamp bytes : List ℕ) (a b : T) (found : Option Entry) → o.disk.holds path bytes → length bytes ≤ most_kept → MatchOption found (IsNoRecordOf stamp bytes) (IsEntryOf stamp bytes) → Adds o a b (FileRead path (Ok bytes) ∷ []) → AddsSome o a b (HasRecord o path stamp found)
  record_found path stamp bytes a b None holds short is p = (FileRead path (Ok bytes) ∷ [], p, (bytes, holds, is, short, refl))
  record_found path stamp bytes a b (Some e) holds short is p =
      let same : bytes ≡ e.record.items = sym is.1 in (
        FileRead path (Ok bytes) ∷ [],
        p,
        (subst (o.disk.holds path) same holds, subst (λ (x : List ℕ). IsEntryOf stamp x e) same is, subst (λ (x : List ℕ). length x ≤ most_kept) same short, ap (λ (x : List ℕ). FileRead path (Ok x) ∷ []) same),
      )

  pub in_folder : (folder stamp : List ℕ) (a b : T) (r : Result (Option Entry) Refusal) → AddsSome o a b (ReadsRecord o (kept_path folder stamp) stamp r) → AddsSome o a b (ReadsInFolder o folder stamp r)
  in_folder folder stamp a b (Ok found) p = p
  in_folder folder stamp a b (Err refusal) p = (p.0, p.1, inl p.2)

  module _ (folder : List ℕ) (store : S) (stamp : List ℕ) where
    abbrev Sought : Option (List ℕ) → Event
    Sought got = RecordSought (o.store_path store) stamp got

    abbrev stored : Option (List ℕ)
    stored = option_map (λ (r : StoredRecord). r.bytes) ((o.store store).has stamp)

    -- the store has a record
    pub in_store : (a b : T) (r : Option (Bor (List ℕ))) → is_some r ≡ true → bytes_found r ≡ stored → Adds o a b (Sought (bytes_found r) ∷ []) → AddsSome o a b (SeesGame o folder store stamp (Ok seen.InStore))
    in_store a b None some is p = absurd (let f : false ≡ true = some in cc)
    in_store a b (Some x) some is p = (Sought (Some x.now) ∷ [], p, (InStore x.now, ((x.now, refl), record { stored = is; holds = tt }, refl)))

    -- it has none
    pub not_there : (a b : T) (r : Option (Bor (List ℕ))) → is_some r ≡ false → bytes_found r ≡ stored → Adds o a b (Sought (bytes_found r) ∷ []) → (None ≡ stored) × Adds o a b (Sought None ∷ [])
    not_there a b None none is p = (is, p)
    not_there a b (Some x) none is p = absurd (let f : true ≡ false = none in cc)

    pub in_file : (a b c : T) (e : Entry) → None ≡ stored → Adds o a b (Sought None ∷ []) → AddsSome o b c (ReadsInFolder o folder stamp (Ok (Some e))) → AddsSome o a c (SeesGame o folder store stamp (Ok (seen.InFile e)))
    in_file a b c e none p q =
        (Sought None ∷ [] ++ q.0, adds_more o a b c (Sought None ∷ []) q.0 p q.1, (InFile e, (refl, record { stored = none; holds = (q.2.0, q.2.1, q.2.2) }, ap (λ (l : List Event). Sought None ∷ l) q.2.3)))

    pub in_neither : (a b c : T) → None ≡ stored → Adds o a b (Sought None ∷ []) → AddsSome o b c (ReadsInFolder o folder stamp (Ok None)) → AddsSome o a c (SeesGame o folder store stamp (Ok seen.InNeither))
    in_neither a b c none p q =
        let bytes = q.2.0 in
        (Sought None ∷ [] ++ q.0, adds_more o a b c (Sought None ∷ []) q.0 p q.1, (InNeither bytes, ((bytes, refl), record { stored = none; holds = (q.2.1, q.2.2, q.2.3) }, ap (λ (l : List Event). Sought None ∷ l) q.2.4)))

    pub unseen : (a b c : T) (refusal : Refusal) → Adds o a b (Sought None ∷ []) → AddsSome o b c (ReadsInFolder o folder stamp (Err refusal)) → AddsSome o a c (SeesGame o folder store stamp (Err refusal))
    unseen a b c refusal p q = (Sought None ∷ [] ++ q.0, adds_more o a b c (Sought None ∷ []) q.0 p q.1, why q.0 q.2)
      where
        more : (events rest : List Event) → events ≡ rest → Sought None ∷ [] ++ events ≡ Sought None ∷ rest
        more events rest is = ap (λ (l : List Event). Sought None ∷ l) is

        why : (events : List Event) → ReadsInFolder o folder stamp (Err refusal) events → FailsToLook o folder store stamp (refusal_words refusal) (Sought None ∷ [] ++ events)
        why events (inl (IsUnread fault cause words is)) = FileUnread fault cause words (more events _ is)
        why events (inl (NoRoomToDecode bytes words is)) = NoRoomToRead bytes words (more events _ is)
        why events (inr (words, is)) = NoRoomForFile words (more events _ is)
