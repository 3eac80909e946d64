-- Records that go over into a store, one by one; cited by private clauses alone.
use Rattle.std.specs.Prelude.{◌≡◌, ◌⊎◌, ◌++◌, ℕ, List, [], ◌∷◌, Option, Some, None, Result, Ok, Err, Vec, ◌≤◌, length}
use Rattle.std.specs.Global.{Global}
use Rattle.answer_parts.specs.Lines.{refusal_words}
use Rattle.answer_parts.specs.declared.answers.refusals.Refusal.{Refusal}
use Rattle.arbiter_server.specs.GameFolders.{kept_path}
use Rattle.game_status.specs.Imports.{IsEntryOf, IsNoRecordOf, most_kept}
use Rattle.line_teller.specs.ToldLines.{cut_words, refused_memory}
use Rattle.system_io.specs.Disks.{AtFile, DiskFacts, HasMore}
use Rattle.system_io.specs.declared.reading.ReadFault.{ReadFault}
use Rattle.system_io.specs.declared.reading.ReadFault.TheVariants as read
use Rattle.system_io.specs.declared.record_store.Entry.{Entry}
use Rattle.timeline.specs.Events.{Event, FileRead, FolderListed}
use Rattle.timeline.specs.Outsides.{AddsSome, Outside}
use Rattle.host_commands.specs.Imports.{AreListed, FailsToLook, Imported, IsLook, InFile, InNeither, InStore, Kept, Look, ImportsRecords, LooksAtAll, PutsComing, coming, entry_in, left_by, left_in, look_events, record_refusal}
use Rattle.host_commands.specs.Listings.{HasNames, LacksNames}
use Rattle.host_commands.specs.declared.arriving.Seen.{Seen}
use Rattle.host_commands.specs.declared.arriving.Seen.TheVariants as seen
use Rattle.host_commands.specs.declared.importing.Arrivals.{Arrivals}

module _ {T P F K S L : Type 0} (o : Outside T P F K S L) (path : List ℕ) where
  -- it is unreadable only where it can't be read, or has more bytes than a record's
  abbrev pub HasCauseAt : ReadFault → Type 0
  HasCauseAt why = why ≡ read.Unreadable → o.disk.fails (AtFile path) ⊎ HasMore o.disk path most_kept

  abbrev pub file_read : Result (List ℕ) ReadFault → List Event
  file_read bytes = FileRead path bytes ∷ []

  -- the file at a path is read for the record of a game, and why that fails, by the words of the refusal
  pub data CannotReadRecord (words : List ℕ) (events : List Event) : Type 0 where
    IsUnread : (why : ReadFault) → HasCauseAt why → words ≡ record_refusal why → events ≡ file_read (Err why) → CannotReadRecord words events
    NoRoomToDecode : (bytes : List ℕ) → words ≡ refused_memory → events ≡ file_read (Ok bytes) → CannotReadRecord words events

  -- it has this one, or none
  abbrev pub HasRecord : List ℕ → Option Entry → List Event → Type 0
  HasRecord stamp (Some e) events = o.disk.holds path e.record.items × IsEntryOf stamp e.record.items e × (length e.record.items ≤ most_kept) × (events ≡ file_read (Ok e.record.items))
  HasRecord stamp None events = (bytes : List ℕ) × o.disk.holds path bytes × IsNoRecordOf stamp bytes × (length bytes ≤ most_kept) × (events ≡ file_read (Ok bytes))

  abbrev pub ReadsRecord : List ℕ → Result (Option Entry) Refusal → List Event → Type 0
  ReadsRecord stamp (Ok found) events = HasRecord stamp found events
  ReadsRecord stamp (Err refusal) events = CannotReadRecord (refusal_words refusal) events

module _ {T P F K S L : Type 0} (o : Outside T P F K S L) (folder stamp : List ℕ) where
  -- so it isn't of a game's file, or memory for its path was refused
  abbrev pub LacksRecord : List ℕ → List Event → Type 0
  LacksRecord words events = CannotReadRecord o (kept_path folder stamp) words events ⊎ ((words ≡ refused_memory) × (events ≡ []))

  -- so it is
  abbrev pub ReadsInFolder : Result (Option Entry) Refusal → List Event → Type 0
  ReadsInFolder (Ok found) events = HasRecord o (kept_path folder stamp) stamp found events
  ReadsInFolder (Err refusal) events = LacksRecord (refusal_words refusal) events

-- what is found of a game, without the bytes of what doesn't go over
abbrev pub IsSeen : Seen → Kept → Type 0
IsSeen seen.InStore kept = (bytes : List ℕ) × (kept ≡ InStore bytes)
IsSeen (seen.InFile e) kept = kept ≡ InFile e
IsSeen seen.InNeither kept = (bytes : List ℕ) × (kept ≡ InNeither bytes)

abbrev pub look_of : List ℕ → Kept → Look
look_of stamp kept = record { stamp = stamp; kept = kept }

module _ {T P F K S L : Type 0} (o : Outside T P F K S L) (folder : List ℕ) (store : S) (stamp : List ℕ) where
  -- this is found of a game by these events
  abbrev pub IsSeenAs : Seen → Look → List Event → Type 0
  IsSeenAs seen look events = IsSeen seen look.kept × IsLook o folder store look × (events ≡ look_events (o.store_path store) folder look)

  -- a game is looked at, or can't be
  abbrev pub SeesGame : Result Seen Refusal → List Event → Type 0
  SeesGame (Ok seen) events = (kept : Kept) × IsSeenAs seen (look_of stamp kept) events
  SeesGame (Err refusal) events = FailsToLook o folder store stamp (refusal_words refusal) events

-- what is found of one more game is added
abbrev pub AddsSeen : List ℕ → Seen → List Entry → List (List ℕ) → List Entry → List (List ℕ) → Type 0
AddsSeen stamp seen entries left more left' = (kept : Kept) → IsSeen seen kept → (more ≡ entries ++ entry_in kept) × (left' ≡ left ++ left_by stamp kept)

module _ (disk : DiskFacts) (folder : List ℕ) where
  -- why the stamps of the records that a folder lists as files aren't known, by the words of the refusal
  pub data CannotListKept (words : List ℕ) (events : List Event) : Type 0 where
    NoRoomForThem : (names : List (List ℕ)) → HasNames disk folder names events → words ≡ refused_memory → CannotListKept words events
    NoNames : (fault : ReadFault) → LacksNames disk folder fault events → words ≡ cut_words fault → CannotListKept words events

  abbrev pub ListsKept : Result (Vec (List ℕ) Global) Refusal → List Event → Type 0
  ListsKept (Ok stamps) events = (names : List (List ℕ)) × disk.lists folder names × AreListed names stamps.items × (events ≡ FolderListed folder (Ok names) ∷ [])
  ListsKept (Err refusal) events = CannotListKept (refusal_words refusal) events

-- what goes over and what stays, of games that were looked at
pub record AreArrivals (looks : List Look) (a : Arrivals) : Type 0 where
  pub entries : a.entries.items ≡ coming looks
  pub left : a.left.items ≡ left_in looks

module _ {T P F K S L : Type 0} (o : Outside T P F K S L) (folder : List ℕ) (store : S) (stamps : List (List ℕ)) where
  -- all games are looked at, or one can't be
  abbrev pub LooksAtThese : Result Arrivals Refusal → List Event → Type 0
  LooksAtThese (Ok a) events = (looks : List Look) × AreArrivals looks a × LooksAtAll o folder store stamps (Ok looks) events
  LooksAtThese (Err refusal) events = LooksAtAll o folder store stamps (Err (refusal_words refusal)) events

-- the store as it is then, or the words of the refusal
abbrev pub put_or : {S A : Type 0} → S → Result A Refusal → Result S (List ℕ)
put_or new (Ok x) = Ok new
put_or new (Err refusal) = Err (refusal_words refusal)

abbrev pub imported_or : {S : Type 0} → S → Result (Vec (List ℕ) Global) Refusal → Result (Imported S) (List ℕ)
imported_or new (Ok left) = Ok (record { store = new; left = left.items })
imported_or new (Err refusal) = Err (refusal_words refusal)

-- from one moment to another a store, old and then new, gets these entries, and the records of this folder
abbrev pub PutsIn : {T P F K S L A : Type 0} → Outside T P F K S L → S → S → List Entry → T → T → Result A Refusal → Type 0
PutsIn o old new entries t t' result = AddsSome o t t' (PutsComing o old entries (put_or new result))

abbrev pub ImportsIn : {T P F K S L : Type 0} → Outside T P F K S L → List ℕ → S → S → T → T → Result (Vec (List ℕ) Global) Refusal → Type 0
ImportsIn o folder old new t t' result = AddsSome o t t' (ImportsRecords o folder old (imported_or new result))
