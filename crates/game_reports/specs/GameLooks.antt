-- What is found of one game, and what is read for that, one event after another (this project's own).
use Rattle.std.specs.Prelude.{◌≡◌, ◌≤◌, ◌<◌, ◌⊎◌, ◌++◌, ℕ, List, [], ◌∷◌, length, Option, Some, None, option_map, Result, Ok, Err}
use Rattle.std.specs.List.{Contains}
use Rattle.arbiter_server.specs.GameFiles.{IsFirstGameFault, SpellsGame}
use Rattle.arbiter_server.specs.GameFolders.{game_path, kept_path, most_game_bytes}
use Rattle.arbiter_server.specs.declared.game_lines.GameFileFault.{GameFileFault}
use Rattle.game_status.specs.Entries.{game_told, most_kept}
use Rattle.game_status.specs.Inside.Decoding.{AreSides, IsNoSide}
use Rattle.game_status.specs.Statuses.{IsLookAtBoth}
use Rattle.game_status.specs.declared.entry.Entry.{Entry}
use Rattle.game_status.specs.declared.entry.EntryFault.{EntryFault}
use Rattle.game_status.specs.declared.entry.EntryFault.TheVariants.{BadGame, Keeper, NoGame}
use Rattle.game_status.specs.declared.side.Side.{Side}
use Rattle.game_status.specs.declared.status_lines.Look.{Look}
use Rattle.game_status.specs.declared.status_lines.Look.TheVariants as look
use Rattle.system_io.specs.Disks.{AtFile, DiskFacts, HasMore}
use Rattle.system_io.specs.declared.reading.ReadFault.{ReadFault}
use Rattle.system_io.specs.declared.reading.ReadFault.TheVariants.{OutOfMemory, Unreadable}
use Rattle.timeline.specs.Events.{Event, FileSought}
use Rattle.game_reports.specs.Folders.{KnownFolder, KnownFolders}
use Rattle.game_reports.specs.declared.looking.Lack.{Lack}
use Rattle.game_reports.specs.declared.looking.Lack.TheVariants.{AtFault, NoRoom}

-- ---- a file

-- a file of at most so many bytes, which need not be there, is looked for: its bytes, or why it can't be had; or memory for its path was refused
pub data Seeks (disk : DiskFacts) (path : List ℕ) (most : ℕ) (result : Result (List ℕ) ReadFault) (events : List Event) : Type 0 where
  IsThere : (bytes : List ℕ) → disk.holds path bytes → length bytes ≤ most → result ≡ Ok bytes → events ≡ FileSought path (Ok bytes) ∷ [] → Seeks disk path most result events
  IsNotThere : (fault : ReadFault) → (fault ≡ Unreadable → disk.fails (AtFile path) ⊎ HasMore disk path most) → result ≡ Err fault → events ≡ FileSought path (Err fault) ∷ [] → Seeks disk path most result events
  NoRoomForPath : result ≡ Err OutOfMemory → events ≡ [] → Seeks disk path most result events

-- ---- one folder

-- The bytes of a game's record. Those in the folder's store, for which no file is read, unless they are more than a record's, or memory for
-- them is refused; or else those of its file, which the folder lists; or none are kept.
pub data ReadsRecord (disk : DiskFacts) (f : KnownFolder) (stamp : List ℕ) (result : Result (Option (List ℕ)) ReadFault) (events : List Event) : Type 0 where
  InStore : (bytes : List ℕ) → f.records stamp ≡ Some bytes → length bytes ≤ most_kept → result ≡ Ok (Some bytes) → events ≡ [] → ReadsRecord disk f stamp result events
  NotFromStore : (bytes : List ℕ) (fault : ReadFault) → f.records stamp ≡ Some bytes → (fault ≡ Unreadable → most_kept < length bytes) → result ≡ Err fault → events ≡ [] → ReadsRecord disk f stamp result events
  InFile : (bytes : List ℕ) → f.records stamp ≡ None → Contains f.kept stamp → Seeks disk (kept_path f.path stamp) most_kept (Ok bytes) events → result ≡ Ok (Some bytes) → ReadsRecord disk f stamp result events
  NotFromFile : (fault : ReadFault) → f.records stamp ≡ None → Contains f.kept stamp → Seeks disk (kept_path f.path stamp) most_kept (Err fault) events → result ≡ Err fault → ReadsRecord disk f stamp result events
  NotKept : f.records stamp ≡ None → (Contains f.kept stamp → ⊥) → result ≡ Ok None → events ≡ [] → ReadsRecord disk f stamp result events

-- this is at fault where a file can't be read; or memory was refused
abbrev pub lack_of : EntryFault → ReadFault → Lack
lack_of at_fault Unreadable = AtFault at_fault
lack_of at_fault OutOfMemory = NoRoom

-- a game's file is looked for; and where it tells a game, its record is read
pub data ReadsEntry (disk : DiskFacts) (f : KnownFolder) (stamp : List ℕ) (result : Result Entry Lack) (events : List Event) : Type 0 where
  HasBoth : (text : List ℕ) (e : Entry) (before after : List Event) → Seeks disk (game_path f.path stamp) most_game_bytes (Ok text) before → SpellsGame text (game_told e.game) → ReadsRecord disk f stamp (Ok (option_map (λ v. v.items) e.kept)) after → result ≡ Ok e → events ≡ before ++ after → ReadsEntry disk f stamp result events
  NoFile : (fault : ReadFault) → Seeks disk (game_path f.path stamp) most_game_bytes (Err fault) events → result ≡ Err (lack_of NoGame fault) → ReadsEntry disk f stamp result events
  BadFile : (text : List ℕ) (fault : GameFileFault) → Seeks disk (game_path f.path stamp) most_game_bytes (Ok text) events → IsFirstGameFault text fault → result ≡ Err (AtFault (BadGame fault)) → ReadsEntry disk f stamp result events
  NoRecord : (text : List ℕ) (fault : ReadFault) (before after : List Event) → Seeks disk (game_path f.path stamp) most_game_bytes (Ok text) before → ReadsRecord disk f stamp (Err fault) after → result ≡ Err (lack_of Keeper fault) → events ≡ before ++ after → ReadsEntry disk f stamp result events

-- how far the folder has come with the game: what its record is, or why it is none of this game; or memory for it was refused
pub data ReadsSide (disk : DiskFacts) (f : KnownFolder) (stamp : List ℕ) (result : Result Side Lack) (events : List Event) : Type 0 where
  IsSide : (e : Entry) (side : Side) → ReadsEntry disk f stamp (Ok e) events → AreSides e stamp side → result ≡ Ok side → ReadsSide disk f stamp result events
  IsNone : (e : Entry) (fault : EntryFault) → ReadsEntry disk f stamp (Ok e) events → IsNoSide e stamp fault → result ≡ Err (AtFault fault) → ReadsSide disk f stamp result events
  NoRoomForSide : (e : Entry) → ReadsEntry disk f stamp (Ok e) events → result ≡ Err NoRoom → ReadsSide disk f stamp result events
  LacksEntry : (lack : Lack) → ReadsEntry disk f stamp (Err lack) events → result ≡ Err lack → ReadsSide disk f stamp result events

-- ---- one or two

-- beside what the first folder has, the second has a game and its record, or lacks them; nothing is found where memory was refused
pub data LooksBeside (disk : DiskFacts) (one : Side) (f : KnownFolder) (stamp : List ℕ) (found : Option Look) (events : List Event) : Type 0 where
  HasBeside : (other : Side) (l : Look) → ReadsSide disk f stamp (Ok other) events → IsLookAtBoth one other l → found ≡ Some l → LooksBeside disk one f stamp found events
  LacksBeside : (fault : EntryFault) → ReadsSide disk f stamp (Err (AtFault fault)) events → found ≡ Some (look.OtherAtFault fault) → LooksBeside disk one f stamp found events
  NoRoomBeside : ReadsSide disk f stamp (Err NoRoom) events → found ≡ None → LooksBeside disk one f stamp found events

-- what is found of a game: of the first folder first, and of the second, if there is one, where nothing is at fault in the first
pub data ReadsLook (disk : DiskFacts) (f : KnownFolders) (stamp : List ℕ) (found : Option Look) (events : List Event) : Type 0 where
  InOne : (side : Side) → f.other ≡ None → ReadsSide disk f.one stamp (Ok side) events → found ≡ Some (look.One side) → ReadsLook disk f stamp found events
  InBoth : (side : Side) (second : KnownFolder) (before after : List Event) → f.other ≡ Some second → ReadsSide disk f.one stamp (Ok side) before → LooksBeside disk side second stamp found after → events ≡ before ++ after → ReadsLook disk f stamp found events
  InNone : (fault : EntryFault) → ReadsSide disk f.one stamp (Err (AtFault fault)) events → found ≡ Some (look.AtFault fault) → ReadsLook disk f stamp found events
  NoRoomForOne : ReadsSide disk f.one stamp (Err NoRoom) events → found ≡ None → ReadsLook disk f stamp found events
