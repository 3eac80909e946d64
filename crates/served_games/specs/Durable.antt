-- What a start may find of a game's record, by all that happened before, over all runs (this project's own).
use Rattle.std.specs.Prelude.{◌≡◌, ◌≢◌, ◌⊎◌, ◌++◌, ℕ, Bool, true, false, List, [], ◌∷◌, Option, Some, None, Result, Ok, Err, cond}
use Rattle.std.specs.List.{AllByRecursion, Contains, flat_map}
use Rattle.std.specs.Str.{bytes_eq}
use Rattle.arbiter_core.specs.Delivers.{Moment}
use Rattle.arbiter_core.specs.Setups.{SetupView}
use Rattle.arbiter_server.specs.Games.{CommonView, Fresh, GameStatus, IsGameOf, Open, Shut, setup_of}
use Rattle.arbiter_server.specs.declared.fault.OpenGameError.{OpenGameError}
use Rattle.arbiter_server.specs.declared.fault.Uncommitted.{Uncommitted}
use Rattle.arbiter_server.specs.declared.games.GameConfig.{GameConfig}
use Rattle.system_io.specs.Records.{StoredRecord}
use Rattle.system_io.specs.declared.recipient.Recipient.{Recipient}
use Rattle.timeline.specs.Outsides.{Outside}
use Rattle.timeline.specs.Events.{Committed, Event, Found, Put, RecordSought}
use Rattle.game_folder.specs.Holdings.{GamesFacts}
use Rattle.game_folder.specs.Places.{InFile, InStore, KeptAt}
use Rattle.game_folder.specs.Drafts.{DraftView}
use Rattle.game_server.specs.Printing.{LineForm}
use Rattle.game_server.specs.Rounds.{Heard, HearsAll, heard_events}
use Rattle.game_server.specs.Runs.{InTurns, Turn, run_events}
use Rattle.game_server.specs.Seats.{common, open_at}
use Rattle.game_server.specs.declared.seat.Seat.{Seat}
use Rattle.game_server.specs.declared.server.Server.{Server}
use Rattle.served_games.specs.Lasting.{IsToldStill}
use Rattle.served_games.specs.PlaceKeepers.{Follows, IsThere, PlaceKeeper, found_keeper}
use Rattle.served_games.specs.ServedGames.{AreOverLeft, IsAt, OpenedGame, PlayedGame, acts_in, all_acts, game_at, heard_in_turns}

-- where two are the same it is so, and where they aren't it is otherwise
abbrev pub IfSame : List ℕ → List ℕ → Type 0 → Type 0 → Type 0
IfSame a b so otherwise = ((a ≡ b) × so) ⊎ ((a ≢ b) × otherwise)

-- the last record of this game among some, if there is one
abbrev pub last_among : List ℕ → Option (List ℕ) → List (List ℕ × StoredRecord) → Option (List ℕ)
last_among stamp last [] = last
last_among stamp last (r ∷ rs) = last_among stamp (cond (bytes_eq r.0 stamp) (Some r.1.bytes) last) rs

abbrev pub last_of : List ℕ → List (List ℕ × StoredRecord) → Option (List ℕ)
last_of stamp records = last_among stamp None records

-- a batch was committed: its last record of the game is found, if it has one
abbrev pub HasBatch : Option (List ℕ) → Option (List ℕ) → Type 0 → Type 0
HasBatch None found old = old
HasBatch (Some bytes) found old = found ≡ Some bytes

-- ---- one event

-- After one more event a start may find this, where it might find it before by so much. In the file at a path: what was put; after a put that
-- failed, that or what was there; after a start what it found.
abbrev pub MayFindInFile : List ℕ → Event → Option (List ℕ) → Type 0 → Type 0
MayFindInFile path (Put at bytes true) found old = IfSame at path (found ≡ Some bytes) old
MayFindInFile path (Put at bytes false) found old = IfSame at path ((found ≡ Some bytes) ⊎ old) old
MayFindInFile path (Found at (Ok got)) found old = IfSame at path (found ≡ got) old
MayFindInFile path e found old = old

-- in the store at a path, of the game with this stamp: the last record of a batch; after one that failed, that or what was there; and what was
-- looked for
abbrev pub MayFindInStore : List ℕ → List ℕ → Event → Option (List ℕ) → Type 0 → Type 0
MayFindInStore path stamp (Committed at records true) found old = IfSame at path (HasBatch (last_of stamp records) found old) old
MayFindInStore path stamp (Committed at records false) found old = IfSame at path (HasBatch (last_of stamp records) found old ⊎ old) old
MayFindInStore path stamp (RecordSought at its got) found old = IfSame at path (IfSame its stamp (found ≡ got) old) old
MayFindInStore path stamp e found old = old

abbrev pub MayFindAfter : KeptAt → List ℕ → Event → Option (List ℕ) → Type 0 → Type 0
MayFindAfter (InFile path) stamp e found old = MayFindInFile path e found old
MayFindAfter (InStore path) stamp e found old = MayFindInStore path stamp e found old

-- ---- all events

-- what happened, the latest first, after more of it
abbrev pub behind : List Event → List Event → List Event
behind past [] = past
behind past (e ∷ es) = behind (e ∷ past) es

-- behind these events, the latest first, a start may find this: anything, where none of them says
abbrev pub MayFind : KeptAt → List ℕ → List Event → Option (List ℕ) → Type 0
MayFind at stamp [] found = Unit {0}
MayFind at stamp (e ∷ past) found = MayFindAfter at stamp e found (MayFind at stamp past found)

-- an event finds what may be found behind those before it
abbrev pub FindsInFile : List ℕ → (Option (List ℕ) → Type 0) → Event → Type 0
FindsInFile path may (Found at (Ok got)) = at ≡ path → may got
FindsInFile path may e = Unit {0}

abbrev pub FindsInStore : List ℕ → List ℕ → (Option (List ℕ) → Type 0) → Event → Type 0
FindsInStore path stamp may (RecordSought at its got) = at ≡ path → its ≡ stamp → may got
FindsInStore path stamp may e = Unit {0}

abbrev pub FindsWhatMay : KeptAt → List ℕ → (Option (List ℕ) → Type 0) → Event → Type 0
FindsWhatMay (InFile path) stamp may e = FindsInFile path may e
FindsWhatMay (InStore path) stamp may e = FindsInStore path stamp may e

-- THE PREMISE (who else writes the file or the store, the disk): so does each of some events, behind what happened before
abbrev pub IsDurableAfter : KeptAt → List ℕ → List Event → List Event → Type 0
IsDurableAfter at stamp past [] = Unit {0}
IsDurableAfter at stamp past (e ∷ es) = FindsWhatMay at stamp (MayFind at stamp past) e × IsDurableAfter at stamp (e ∷ past) es

abbrev pub IsDurable : KeptAt → List ℕ → List Event → Type 0
IsDurable at stamp events = IsDurableAfter at stamp [] events

-- ---- records that are put at once

-- these events change nothing of what a start may find
abbrev pub StaysFound : KeptAt → List ℕ → List Event → List Event → Type 0
StaysFound at stamp past events = (found : Option (List ℕ)) → MayFind at stamp (behind past events) found → MayFind at stamp past found

-- a game is found there under this stamp, and by some tables it has this stamp
pub record IsToldAt {G : Type 0} (facts : GamesFacts G) (place : facts.Place) (stamp : List ℕ) : Type 0 where
  pub game : GameConfig
  pub events : List Event
  pub finds : facts.finds place stamp (Ok game) events
  pub manifest : List ℕ
  pub is : IsGameOf manifest stamp game.name.items game.start game.delay

-- What a game has to put is put where its record is kept, and is found there; so are all records that are kept in files. (In a store it is
-- noted, and found once that was committed.)
pub record KeepsAtOnce {G : Type 0} (facts : GamesFacts G) : Type 0 where
  pub finds : (place : facts.Place) (stamp other : List ℕ) (result : Result GameConfig OpenGameError) (events past : List Event)
      → facts.finds place other result events → StaysFound (facts.places place stamp) stamp past events
  -- what is taken may be found, and is found then
  pub takes : (place : facts.Place) (g now : G) → IsThere facts place g
      → (stamp : List ℕ) (got : Option (List ℕ)) (events past : List Event) → facts.takes g stamp (Ok got) events now
      → IsDurableAfter (facts.places place stamp) stamp past events
      → MayFind (facts.places place stamp) stamp past got × ((found : Option (List ℕ)) → MayFind (facts.places place stamp) stamp (behind past events) found → found ≡ got)
  pub withholds : (place : facts.Place) (g now : G) → IsThere facts place g
      → (stamp : List ℕ) (why : OpenGameError) (events past : List Event) → facts.takes g stamp (Err why) events now
      → StaysFound (facts.places place stamp) stamp past events
  pub keeps : (place : facts.Place) (g now : G) → IsThere facts place g → (stamp bytes : List ℕ) (events past : List Event) → facts.keeps g stamp bytes true events now
      → (found : Option (List ℕ)) → MayFind (facts.places place stamp) stamp (behind past events) found → found ≡ Some bytes
  pub fails : (place : facts.Place) (g now : G) → IsThere facts place g → (stamp bytes : List ℕ) (events past : List Event) → facts.keeps g stamp bytes false events now
      → (found : Option (List ℕ)) → MayFind (facts.places place stamp) stamp (behind past events) found → (found ≡ Some bytes) ⊎ MayFind (facts.places place stamp) stamp past found
  -- of two games that are found there each record is kept elsewhere
  pub takes_apart : (place : facts.Place) (g now : G) → IsThere facts place g → (stamp other : List ℕ) → IsToldAt facts place stamp
      → IsToldAt facts place other → bytes_eq other stamp ≡ false
      → (result : Result (Option (List ℕ)) OpenGameError) (events past : List Event)
      → facts.takes g other result events now → StaysFound (facts.places place stamp) stamp past events
  pub keeps_apart : (place : facts.Place) (g now : G) → IsThere facts place g → (stamp other bytes : List ℕ) → IsToldAt facts place stamp
      → IsToldAt facts place other → bytes_eq other stamp ≡ false → (is_done : Bool) (events past : List Event)
      → facts.keeps g other bytes is_done events now → StaysFound (facts.places place stamp) stamp past events
  pub commits : (place : facts.Place) (g now : G) → IsThere facts place g
      → (stamp : List ℕ) (told : Result (Unit {0}) Uncommitted) (events past : List Event) → facts.commits g told events now
      → StaysFound (facts.places place stamp) stamp past events

-- ---- a game in a run

-- the game is found there, and so is each game that is open
pub record AreToldAt {F G : Type 0} (facts : GamesFacts G) (stamp : List ℕ) (server : Server G F) : Type 0 where
  pub mine : IsToldAt facts (facts.place server.shared.games) stamp
  pub each : (other : List ℕ) (seat : Seat F) → open_at server other ≡ Some seat → IsToldAt facts (facts.place server.shared.games) other

-- Whatever a start may find behind these events is what the game keeps while it is open, or what it left; where it wasn't opened yet, what was
-- left before.
abbrev pub IsFoundIn : KeptAt → List ℕ → List Event → PlaceKeeper → GameStatus PlaceKeeper → Type 0
IsFoundIn at stamp past before Fresh = (found : Option (List ℕ)) → MayFind at stamp past found → Follows before (found_keeper found)
IsFoundIn at stamp past before (Shut left) = (found : Option (List ℕ)) → MayFind at stamp past found → Follows left (found_keeper found)
IsFoundIn at stamp past before (Open now) = (found : Option (List ℕ)) → MayFind at stamp past found → found ≡ now.keeper.kept

-- the game as it was left before, where it wasn't opened yet
abbrev pub left_before : PlaceKeeper → GameStatus PlaceKeeper → GameStatus PlaceKeeper
left_before before Fresh = Shut before
left_before before (Shut left) = Shut left
left_before before (Open at) = Open at

-- the acts of a game, each opening of which is over what was left; and what may be found behind these events
pub record FoundGame {G : Type 0} (facts : GamesFacts G) (place : facts.Place) (t : CommonView) (stamp : List ℕ) (before : PlaceKeeper) (was : GameStatus PlaceKeeper) (heard : List Heard) (now : Option (Moment DraftView)) (past : List Event) : Type 0 where
  pub played : PlayedGame facts place t stamp was heard now
  pub over : AreOverLeft (left_before before was) (all_acts played.each)
  pub found : IsFoundIn (facts.places place stamp) stamp past before played.life

-- THE LAW: where records are put at once and are durable, each opening of a game is over what it left, and whatever a start may find is that
abbrev pub GamesAreFound : {T P F K S L G : Type 0} → Outside T P F K S L → GamesFacts G → Type 0
GamesAreFound {F} {G} o facts =
    (form : LineForm) (texts : List (List ℕ)) (to : List Recipient) (old new : Server G F) (turns : List Turn) (stamp : List ℕ) (before : PlaceKeeper) (was : GameStatus PlaceKeeper) (past : List Event)
    → InTurns o facts form texts old turns new → AreToldAt facts stamp old → IsAt (game_at old stamp) was
    → IsDurableAfter (facts.places (facts.place old.shared.games) stamp) stamp past (run_events to turns)
    → IsFoundIn (facts.places (facts.place old.shared.games) stamp) stamp past before was
    → FoundGame facts (facts.place old.shared.games) (common old) stamp before was (heard_in_turns turns) (game_at new stamp) (behind past (run_events to turns))

-- ---- all runs

-- A run as far as it went: what happened before anything was opened; what was opened unasked, each game as by a datagram that didn't come and
-- whose reply goes to nobody; what happened before the first turn, as a request for moves; the turns, the datagrams that were heard behind
-- them, and what happened before it stopped. A put at which it stopped is one that failed; what was heard with it was not answered.
pub record ServedRun (G F : Type 0) : Type 0 where
  pub first : List Event
  pub old : Server G F
  pub unasked : List Heard
  pub begun : Server G F
  pub asked : List Event
  pub turns : List Turn
  pub to : List Recipient
  pub mid : Server G F
  pub heard : List Heard
  pub new : Server G F
  pub tail : List Event

abbrev pub heard_in_run : {G F : Type 0} → ServedRun G F → List Heard
heard_in_run r = heard_in_turns r.turns ++ r.heard

-- what was made of a datagram, but that it came
abbrev pub made_of : Heard → List Event
made_of h = h.events

-- what happened by its turns and datagrams
abbrev pub turned_of : {G F : Type 0} → ServedRun G F → List Event
turned_of r = run_events r.to r.turns ++ flat_map heard_events r.heard

-- what happened from the first opening to the last datagram
abbrev pub work_of : {G F : Type 0} → ServedRun G F → List Event
work_of r = flat_map made_of r.unasked ++ (r.asked ++ turned_of r)

abbrev pub events_of : {G F : Type 0} → ServedRun G F → List Event
events_of r = r.first ++ (work_of r ++ r.tail)

abbrev pub events_of_all : {G F : Type 0} → List (ServedRun G F) → List Event
events_of_all runs = flat_map events_of runs

module _ {T P F K S L G : Type 0} (o : Outside T P F K S L) (facts : GamesFacts G) (place : facts.Place) (stamp : List ℕ) (setup : SetupView) where
  abbrev at_place : KeptAt
  at_place = facts.places place stamp

  -- A run at this place, behind what happened before it. Its server begins with no game open. Premise: whatever game was found under the stamp,
  -- by events of this run, is this one; and before and between these, and when it stopped, nothing else happened to the game's record.
  pub record IsServedRun (past : List Event) (r : ServedRun G F) : Type 0 where
    pub there : facts.place r.old.shared.games ≡ place
    pub closed : (other : List ℕ) → open_at r.old other ≡ None
    pub one : (game : GameConfig) (events : List Event) → facts.finds place stamp (Ok game) events → AllByRecursion (Contains (work_of r)) events
        → setup_of (common r.old) game.name.items game.start game.delay ≡ setup
    pub form : LineForm
    pub texts : List (List ℕ)
    pub opens : HearsAll o facts r.old r.unasked r.begun
    pub in_turns : InTurns o facts form texts r.begun r.turns r.mid
    pub hears : HearsAll o facts r.mid r.heard r.new
    pub first_stays : StaysFound at_place stamp past r.first
    pub asked_stays : StaysFound at_place stamp (behind (behind past r.first) (flat_map made_of r.unasked)) r.asked
    pub tail_stays : StaysFound at_place stamp (behind (behind past r.first) (work_of r)) r.tail

  abbrev pub AreServedRuns : List Event → List (ServedRun G F) → Type 0
  AreServedRuns past [] = Unit {0}
  AreServedRuns past (r ∷ rs) = IsServedRun past r × AreServedRuns (behind past (events_of r)) rs

  -- the game's acts in a run, each opening of which is over what was left; and all that they told is in whatever a start may find behind these
  -- events
  pub record LastsBehind (past : List Event) (r : ServedRun G F) : Type 0 where
    pub game : OpenedGame facts place (common r.old) stamp r.unasked (game_at r.begun stamp) (heard_in_run r)
    pub over : AreOverLeft Fresh (acts_in game)
    pub lasts : (found : Option (List ℕ)) → MayFind at_place stamp past found → AllByRecursion (IsToldStill (found_keeper found)) (acts_in game)

-- THE LAW: Where records are put at once and are durable, whatever a start may find of a game behind any runs, wherever each of them stopped, is
-- a record in which all is that each answer told: as many moves as were acknowledged, the same ones, and the verdict at its ply. What was
-- found at first is known.
abbrev pub RunsLast : {T P F K S L G : Type 0} → Outside T P F K S L → GamesFacts G → Type 0
RunsLast {F} {G} o facts =
    (place : facts.Place) (stamp : List ℕ) (setup : SetupView) (past : List Event) (first : PlaceKeeper) (runs : List (ServedRun G F))
    → IsToldAt facts place stamp
    → ((found : Option (List ℕ)) → MayFind (facts.places place stamp) stamp past found → Follows first (found_keeper found))
    → AreServedRuns o facts place stamp setup past runs
    → IsDurableAfter (facts.places place stamp) stamp past (events_of_all runs)
    → AllByRecursion (LastsBehind o facts place stamp setup (behind past (events_of_all runs))) runs
