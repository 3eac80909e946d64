-- The store of a folder, and the records of files that go over into it (this project's own).
use Rattle.std.specs.Prelude.{◌≡◌, ◌⊎◌, ◌++◌, ℕ, true, false, List, [], ◌∷◌, Bool, Option, Some, None, Result, Ok, Err, codes, map, option_map, ◌≤◌, length}
use Rattle.std.specs.Cmp.Lexicographic.{slice_cmp}
use Rattle.std.specs.Fmt.{debug_str}
use Rattle.std.specs.List.{AllByRecursion, flat_map}
use Rattle.std.specs.List.Sorted.{IsStrictlySortedBy}
use Rattle.std.specs.Ordering.{nat_cmp}
use Rattle.arbiter_server.specs.GameFolders.{kept_path}
use Rattle.arbiter_server.specs.ServedLines.{refused_keeper, refused_store}
use Rattle.game_status.specs.Imports.{IsEntryOf, IsNoRecordOf, most_kept}
use Rattle.game_status.specs.Listings.{AreStampsIn, kept_ending}
use Rattle.line_teller.specs.ToldLines.{cut_words, refused_memory}
use Rattle.system_io.specs.Disks.{AtFile, DiskFacts, HasMore}
use Rattle.system_io.specs.Records.{AreSame, IsSettled, with_all}
use Rattle.system_io.specs.declared.reading.ReadFault.{ReadFault}
use Rattle.system_io.specs.declared.reading.ReadFault.TheVariants as read
use Rattle.system_io.specs.declared.record_store.Entry.{Entry}
use Rattle.system_io.specs.declared.record_store.StoreFault.{StoreFault}
use Rattle.system_io.specs.declared.record_store.StoreFault.TheVariants as store_fault
use Rattle.timeline.specs.Events.{Committed, Event, FileRead, FolderListed, Noted, RecordSought, StoreOpened, stamped}
use Rattle.timeline.specs.Outsides.{Outside}
use Rattle.host_commands.specs.Listings.{HasNames, LacksNames}

-- ---- the store is opened

abbrev pub store_refusal : StoreFault → List ℕ
store_refusal store_fault.Unreadable = refused_store
store_refusal store_fault.OutOfMemory = refused_memory

-- the store at a path is opened, in which a start finds what it has; or it can't be; or memory for the path was refused
module _ {T P F K S L : Type 0} (o : Outside T P F K S L) (path : List ℕ) where
  -- it is there, and all that it has is settled
  pub record IsStoreAt (store : S) : Type 0 where
    pub at : o.stores.is_at path store
    pub named : o.store_path store ≡ path
    pub settled : IsSettled (o.store store)

  abbrev pub store_opened : Result (Unit {0}) StoreFault → List Event
  store_opened done = StoreOpened path done ∷ []

  pub data OpensStore (result : Result S (List ℕ)) (events : List Event) : Type 0 where
    StoreIs : (store : S) → IsStoreAt store → result ≡ Ok store → events ≡ store_opened (Ok tt) → OpensStore result events
    StoreIsNot : (why : StoreFault) → o.stores.refuses path why → result ≡ Err (store_refusal why) → events ≡ store_opened (Err why) → OpensStore result events
    NoRoomForStore : result ≡ Err refused_memory → events ≡ [] → OpensStore result events

-- ---- one game whose record is listed as a file

pub data Kept : Type 0 where
  -- the store has this record of it
  InStore : (bytes : List ℕ) → Kept
  -- it has none, and the file has this one, which goes over
  InFile : (e : Entry) → Kept
  -- nor has the file, whose bytes these are: it stays
  InNeither : (bytes : List ℕ) → Kept

pub record Look : Type 0 where
  pub stamp : List ℕ
  pub kept : Kept

abbrev pub stored_bytes : Kept → Option (List ℕ)
stored_bytes (InStore bytes) = Some bytes
stored_bytes (InFile e) = None
stored_bytes (InNeither bytes) = None

-- the file is read only where the store has no record
abbrev pub file_events : List ℕ → Kept → List Event
file_events path (InStore bytes) = []
file_events path (InFile e) = FileRead path (Ok e.record.items) ∷ []
file_events path (InNeither bytes) = FileRead path (Ok bytes) ∷ []

-- the store is asked first
abbrev pub look_events : List ℕ → List ℕ → Look → List Event
look_events store folder look = RecordSought store look.stamp (stored_bytes look.kept) ∷ file_events (kept_path folder look.stamp) look.kept

-- what the file holds, in no more bytes than a record has
abbrev pub HoldsKept : DiskFacts → List ℕ → List ℕ → Kept → Type 0
HoldsKept disk folder stamp (InStore bytes) = Unit {0}
HoldsKept disk folder stamp (InFile e) = disk.holds (kept_path folder stamp) e.record.items × IsEntryOf stamp e.record.items e × (length e.record.items ≤ most_kept)
HoldsKept disk folder stamp (InNeither bytes) = disk.holds (kept_path folder stamp) bytes × IsNoRecordOf stamp bytes × (length bytes ≤ most_kept)

-- so it is of this folder and this store
pub record IsLook {T P F K S L : Type 0} (o : Outside T P F K S L) (folder : List ℕ) (store : S) (look : Look) : Type 0 where
  pub stored : stored_bytes look.kept ≡ option_map (λ r. r.bytes) ((o.store store).has look.stamp)
  pub holds : HoldsKept o.disk folder look.stamp look.kept

abbrev pub entry_in : Kept → List Entry
entry_in (InStore bytes) = []
entry_in (InFile e) = e ∷ []
entry_in (InNeither bytes) = []

abbrev pub left_by : List ℕ → Kept → List (List ℕ)
left_by stamp (InStore bytes) = []
left_by stamp (InFile e) = []
left_by stamp (InNeither bytes) = stamp ∷ []

-- the records that go over, and the games whose files stay
abbrev pub coming : List Look → List Entry
coming looks = flat_map (λ look. entry_in look.kept) looks

abbrev pub left_in : List Look → List (List ℕ)
left_in looks = flat_map (λ look. left_by look.stamp look.kept) looks

-- why a record isn't read, as it is refused
abbrev pub record_refusal : ReadFault → List ℕ
record_refusal read.Unreadable = refused_keeper
record_refusal read.OutOfMemory = refused_memory

module _ {T P F K S L : Type 0} (o : Outside T P F K S L) (folder : List ℕ) (store : S) (stamp : List ℕ) where
  -- the store was asked for its record and has none, and then its file was read
  abbrev pub sought_none : Event
  sought_none = RecordSought (o.store_path store) stamp None

  abbrev pub sought_and_read : Result (List ℕ) ReadFault → List Event
  sought_and_read bytes = sought_none ∷ FileRead (kept_path folder stamp) bytes ∷ []

  -- it is unreadable only where the file of its record can't be read, or has more bytes than a record's
  abbrev pub HasCause : ReadFault → Type 0
  HasCause why = why ≡ read.Unreadable → o.disk.fails (AtFile (kept_path folder stamp)) ⊎ HasMore o.disk (kept_path folder stamp) most_kept

  -- a game of which the store has no record can't be looked at
  pub data FailsToLook (words : List ℕ) (events : List Event) : Type 0 where
    FileUnread : (why : ReadFault) → HasCause why → words ≡ record_refusal why → events ≡ sought_and_read (Err why) → FailsToLook words events
    NoRoomToRead : (bytes : List ℕ) → words ≡ refused_memory → events ≡ sought_and_read (Ok bytes) → FailsToLook words events
    NoRoomForFile : words ≡ refused_memory → events ≡ sought_none ∷ [] → FailsToLook words events

-- ---- all of them

abbrev pub all_look_events : List ℕ → List ℕ → List Look → List Event
all_look_events store folder looks = flat_map (look_events store folder) looks

abbrev pub stamps_of : List Look → List (List ℕ)
stamps_of looks = map (λ look. look.stamp) looks

-- these games, in rising order of their stamps, are those whose records are listed as files
pub record AreListed (names stamps : List (List ℕ)) : Type 0 where
  pub are : AreStampsIn names kept_ending stamps
  pub rising : IsStrictlySortedBy (slice_cmp nat_cmp) stamps

module _ {T P F K S L : Type 0} (o : Outside T P F K S L) (folder : List ℕ) (store : S) where
  -- these were looked at
  abbrev pub Saw : List Look → Type 0
  Saw looks = AllByRecursion (IsLook o folder store) looks

  -- by these events
  abbrev pub saw_events : List Look → List Event
  saw_events looks = all_look_events (o.store_path store) folder looks

  module _ (stamps : List (List ℕ)) where
    -- these were the first of all
    abbrev pub AreFirst : List Look → Type 0
    AreFirst looks = (after : List (List ℕ)) × (stamps ≡ stamps_of looks ++ after)

    -- the game behind these can't be looked at
    pub record FailsBehind (looks : List Look) (words : List ℕ) (events : List Event) : Type 0 where
      pub stamp : List ℕ
      pub after : List (List ℕ)
      pub last : List Event
      pub are : stamps ≡ stamps_of looks ++ stamp ∷ after
      pub fails : FailsToLook o folder store stamp words last
      pub all : events ≡ saw_events looks ++ last

    -- games are looked at one after the other: all of them, or those before one that can't be
    pub data LooksAtAll (result : Result (List Look) (List ℕ)) (events : List Event) : Type 0 where
      AllSeen : (looks : List Look) → Saw looks → stamps_of looks ≡ stamps → result ≡ Ok looks → events ≡ saw_events looks → LooksAtAll result events
      OneFails : (looks : List Look) (words : List ℕ) → Saw looks → FailsBehind looks words events → result ≡ Err words → LooksAtAll result events
      NoRoomFor : (looks : List Look) → Saw looks → AreFirst looks → result ≡ Err refused_memory → events ≡ saw_events looks → LooksAtAll result events

module _ {T P F K S L : Type 0} (o : Outside T P F K S L) (old : S) (entries : List Entry) where
  -- they were committed, or none was
  abbrev pub put_event : Bool → Event
  put_event done = Committed (o.store_path old) (map stamped entries) done

  -- a store has them beside what it had
  pub record HasThemToo (new : S) : Type 0 where
    pub has : AreSame (o.store new).has (with_all (o.store old).has entries)
    pub settled : IsSettled (o.store new)
    pub path : o.store_path new ≡ o.store_path old

  -- what comes is put into the store, all at once, where anything does: the store as it is then; or that fails
  pub data PutsComing (result : Result S (List ℕ)) (events : List Event) : Type 0 where
    NoneComes : entries ≡ [] → result ≡ Ok old → events ≡ [] → PutsComing result events
    AllPut : (new : S) → HasThemToo new → result ≡ Ok new → events ≡ put_event true ∷ [] → PutsComing result events
    NonePut : (words : List ℕ) → (words ≡ refused_store) ⊎ (words ≡ refused_memory) → result ≡ Err words → events ≡ put_event false ∷ [] → PutsComing result events

-- a store in which records of files have been put, and the games whose files stay
pub record Imported (S : Type 0) : Type 0 where
  pub store : S
  pub left : List (List ℕ)

module _ {T P F K S L : Type 0} (o : Outside T P F K S L) (folder : List ℕ) (old : S) where
  -- the folder is listed, and the games whose records it lists as files are looked at
  pub record ListsAndLooks (seen : Result (List Look) (List ℕ)) (events : List Event) : Type 0 where
    pub names : List (List ℕ)
    pub stamps : List (List ℕ)
    pub looking : List Event
    pub lists : o.disk.lists folder names
    pub are : AreListed names stamps
    pub looks : LooksAtAll o folder old stamps seen looking
    pub all : events ≡ FolderListed folder (Ok names) ∷ looking

  -- and what comes of them is put into the store
  pub record LooksAndPuts (seen : List Look) (put : Result S (List ℕ)) (events : List Event) : Type 0 where
    pub before : List Event
    pub putting : List Event
    pub looks : ListsAndLooks (Ok seen) before
    pub puts : PutsComing o old (coming seen) put putting
    pub all : events ≡ before ++ putting

  abbrev pub imported : S → List Look → Imported S
  imported new seen = record { store = new; left = left_in seen }

  -- The folder is listed, each game whose record is listed as a file is looked at, and the records that the store hasn't are put there. Or
  -- that ends at the first fault.
  pub data ImportsRecords (result : Result (Imported S) (List ℕ)) (events : List Event) : Type 0 where
    FolderIsNot : (fault : ReadFault) → LacksNames o.disk folder fault events → result ≡ Err (cut_words fault) → ImportsRecords result events
    NoRoomForStamps : (names : List (List ℕ)) → HasNames o.disk folder names events → result ≡ Err refused_memory → ImportsRecords result events
    OneUnseen : (words : List ℕ) → ListsAndLooks (Err words) events → result ≡ Err words → ImportsRecords result events
    NotPut : (seen : List Look) (words : List ℕ) → LooksAndPuts seen (Err words) events → result ≡ Err words → ImportsRecords result events
    AllImported : (seen : List Look) (new : S) → LooksAndPuts seen (Ok new) events → result ≡ Ok (imported new seen) → ImportsRecords result events

-- ---- what stays is noted

-- the path, as Rust quotes it (where it is ASCII, else no more is said), and that no record is in the file
abbrev pub IsLeftLine : List ℕ → List ℕ → Type 0
IsLeftLine path line = (quoted : List ℕ) → debug_str path ≡ Some quoted → line ≡ quoted ++ codes ": no record of its game, which is refused"

pub data NotesLeft (path : List ℕ) (events : List Event) : Type 0 where
  LeftNoted : (line : List ℕ) → IsLeftLine path line → events ≡ Noted line ∷ [] → NotesLeft path events
  LeftNotNoted : events ≡ [] → NotesLeft path events

-- of the first of these games, and then of the others
abbrev pub NotesOne : List ℕ → List ℕ → (List Event → Type 0) → List Event → Type 0
NotesOne folder stamp Others events = (first rest : List Event) × NotesLeft (kept_path folder stamp) first × Others rest × (events ≡ first ++ rest)

-- of each of these games, in order
unfoldable pub NotesAllLeft : List ℕ → List (List ℕ) → List Event → Type 0
NotesAllLeft folder [] events = events ≡ []
NotesAllLeft folder (stamp ∷ stamps) events = NotesOne folder stamp (NotesAllLeft folder stamps) events
