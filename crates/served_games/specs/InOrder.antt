-- Records that are noted first and committed later: what a taking may find, call by call (this project's own).
use Rattle.std.specs.Prelude.{◌++◌, ◌≡◌, ◌⊎◌, ℕ, Bool, true, false, List, Option, Some, None, Result, Ok, Err}
use Rattle.std.specs.List.{flat_map}
use Rattle.std.specs.Str.{bytes_eq}
use Rattle.arbiter_server.specs.declared.fault.OpenGameError.{OpenGameError}
use Rattle.arbiter_server.specs.declared.fault.Uncommitted.{Uncommitted}
use Rattle.arbiter_server.specs.declared.games.GameConfig.{GameConfig}
use Rattle.timeline.specs.Events.{Event}
use Rattle.timeline.specs.Outsides.{Outside}
use Rattle.game_folder.specs.Holdings.{GamesFacts}
use Rattle.game_folder.specs.Places.{InStore}
use Rattle.game_folder.specs.StoreGames.{StoredGames, last_noted, store_games_facts}
use Rattle.arbiter_core.specs.Delivers.{Moment}
use Rattle.arbiter_server.specs.Games.{CommonView, Fresh, GameStatus, Open, Shut}
use Rattle.system_io.specs.declared.recipient.Recipient.{Recipient}
use Rattle.game_folder.specs.Drafts.{DraftView}
use Rattle.game_server.specs.Printing.{LineForm}
use Rattle.game_server.specs.Rounds.{Heard, IsRound, Round, end_events, heard_events}
use Rattle.game_server.specs.Runs.{InTurns, Turn, run_events}
use Rattle.game_server.specs.Seats.{common}
use Rattle.game_server.specs.declared.server.Server.{Server}
use Rattle.served_games.specs.PlaceKeepers.{Follows, PlaceKeeper, found_keeper}
use Rattle.served_games.specs.ServedGames.{AreOverLeft, IsAt, PlayedGame, all_acts, game_at, heard_in_turns}
use Rattle.served_games.specs.Durable.{HasBatch, IsDurableAfter, MayFind, StaysFound, behind, left_before}

-- whatever may be found now might be found before
abbrev pub FindsNoMore : (Option (List ℕ) → Type 0) → (Option (List ℕ) → Type 0) → Type 0
FindsNoMore now before = (found : Option (List ℕ)) → now found → before found

-- By what games note, and what happened, a taking may find this of a game; and games are fit while more can be committed. So much each call
-- does to it.
pub record KeepsInOrder {G : Type 0} (facts : GamesFacts G) (IsFit : G → Type 0) (MayTake : G → List ℕ → List Event → Option (List ℕ) → Type 0) : Type 0 where
  -- a game is looked for
  pub finds : (g : G) (stamp other : List ℕ) (result : Result GameConfig OpenGameError) (events past : List Event) → facts.finds (facts.place g) other result events
      → FindsNoMore (MayTake g stamp (behind past events)) (MayTake g stamp past)
  -- where a record is taken the games are fit; what is taken might be found, and is found from then on
  pub takes : (g now : G) (stamp : List ℕ) (got : Option (List ℕ)) (events past : List Event) → facts.takes g stamp (Ok got) events now
      → IsDurableAfter (facts.places (facts.place g) stamp) stamp past events
      → IsFit g × MayTake g stamp past got × ((found : Option (List ℕ)) → MayTake now stamp (behind past events) found → found ≡ got)
  pub withholds : (g now : G) (stamp : List ℕ) (why : OpenGameError) (events past : List Event) → facts.takes g stamp (Err why) events now
      → IsDurableAfter (facts.places (facts.place g) stamp) stamp past events
      → FindsNoMore (MayTake now stamp (behind past events)) (MayTake g stamp past)
  -- what is put is found from then on, before anything is committed
  pub keeps : (g now : G) (stamp bytes : List ℕ) (events past : List Event) → facts.keeps g stamp bytes true events now
      → (found : Option (List ℕ)) → MayTake now stamp (behind past events) found → found ≡ Some bytes
  pub fails : (g now : G) (stamp bytes : List ℕ) (events past : List Event) → facts.keeps g stamp bytes false events now
      → FindsNoMore (MayTake now stamp (behind past events)) (MayTake g stamp past)
  -- calls for another game change nothing
  pub takes_apart : (g now : G) (stamp other : List ℕ) → bytes_eq other stamp ≡ false
      → (result : Result (Option (List ℕ)) OpenGameError) (events past : List Event) → facts.takes g other result events now
      → FindsNoMore (MayTake now stamp (behind past events)) (MayTake g stamp past)
  pub keeps_apart : (g now : G) (stamp other bytes : List ℕ) → bytes_eq other stamp ≡ false
      → (is_done : Bool) (events past : List Event) → facts.keeps g other bytes is_done events now
      → FindsNoMore (MayTake now stamp (behind past events)) (MayTake g stamp past)
  -- a commit changes nothing of what a taking finds, where more can be committed after it
  pub commits : (g now : G) → facts.place now ≡ facts.place g → (stamp : List ℕ) (told : Result (Unit {0}) Uncommitted) (events past : List Event)
      → facts.commits g told events now → IsFit now
      → FindsNoMore (MayTake now stamp (behind past events)) (MayTake g stamp past)
  -- behind one that succeeded a start finds what a taking did; behind one that failed, that, where more could be committed, or what a start found
  -- before
  pub lasts : (g now : G) (stamp : List ℕ) (events past : List Event) → facts.commits g (Ok tt) events now
      → FindsNoMore (MayFind (facts.places (facts.place g) stamp) stamp (behind past events)) (MayTake g stamp past)
  pub breaks_off : (g now : G) (stamp : List ℕ) (why : Uncommitted) (events past : List Event) → facts.commits g (Err why) events now
      → (found : Option (List ℕ)) → MayFind (facts.places (facts.place g) stamp) stamp (behind past events) found
      → (IsFit g × MayTake g stamp past found) ⊎ MayFind (facts.places (facts.place g) stamp) stamp past found
  -- what changes nothing of what a start finds changes nothing of what a taking does; and no call changes where games are
  pub stays : (g : G) (stamp : List ℕ) (events past : List Event) → StaysFound (facts.places (facts.place g) stamp) stamp past events
      → FindsNoMore (MayTake g stamp (behind past events)) (MayTake g stamp past)
  pub takes_stay : (g now : G) (stamp : List ℕ) (result : Result (Option (List ℕ)) OpenGameError) (events : List Event) → facts.takes g stamp result events now → facts.place now ≡ facts.place g
  pub keeps_stay : (g now : G) (stamp bytes : List ℕ) (is_done : Bool) (events : List Event) → facts.keeps g stamp bytes is_done events now → facts.place now ≡ facts.place g
  -- where a commit succeeds more could be committed; and no call makes games fit that weren't
  pub commits_ok : (g now : G) (events : List Event) → facts.commits g (Ok tt) events now → IsFit g
  pub takes_fit : (g now : G) (stamp : List ℕ) (result : Result (Option (List ℕ)) OpenGameError) (events : List Event) → facts.takes g stamp result events now → IsFit now → IsFit g
  pub keeps_fit : (g now : G) (stamp bytes : List ℕ) (is_done : Bool) (events : List Event) → facts.keeps g stamp bytes is_done events now → IsFit now → IsFit g
  pub commits_fit : (g now : G) (told : Result (Unit {0}) Uncommitted) (events : List Event) → facts.commits g told events now → IsFit now → IsFit g

-- of games in a store: what is noted last of a game, or what a start may find of it in the store
abbrev pub MayTakeStored : {T P F K S L : Type 0} → Outside T P F K S L → StoredGames S → List ℕ → List Event → Option (List ℕ) → Type 0
MayTakeStored o g stamp past found = HasBatch (last_noted g.noted stamp) found (MayFind (InStore (o.store_path g.store)) stamp past found)

abbrev pub CanCommit : {S : Type 0} → StoredGames S → Type 0
CanCommit g = g.loss ≡ None

-- THE LAW: so it is of games whose records are noted, and committed to a store
abbrev pub StoreKeepsInOrder : {T P F K S L : Type 0} → Outside T P F K S L → Type 0
StoreKeepsInOrder o = KeepsInOrder (store_games_facts o) CanCommit (MayTakeStored o)

-- ---- a game in a run

-- Whatever may be found is what the game keeps while it is open, or what it left; where it wasn't opened yet, what was left before.
abbrev pub FindsItsOwn : (Option (List ℕ) → Type 0) → PlaceKeeper → GameStatus PlaceKeeper → Type 0
FindsItsOwn may before Fresh = (found : Option (List ℕ)) → may found → Follows before (found_keeper found)
FindsItsOwn may before (Shut left) = (found : Option (List ℕ)) → may found → Follows left (found_keeper found)
FindsItsOwn may before (Open now) = (found : Option (List ℕ)) → may found → found ≡ now.keeper.kept

-- the acts of a game, each opening of which is over what was left; and what may be found after them, while more can be committed
pub record TakenGame {G : Type 0} (facts : GamesFacts G) (place : facts.Place) (t : CommonView) (stamp : List ℕ) (before : PlaceKeeper) (was : GameStatus PlaceKeeper) (heard : List Heard) (now : Option (Moment DraftView)) (fit : Type 0) (may : Option (List ℕ) → Type 0) : Type 0 where
  pub played : PlayedGame facts place t stamp was heard now
  pub over : AreOverLeft (left_before before was) (all_acts played.each)
  pub found : fit → FindsItsOwn may before played.life

-- THE LAW: In a run each opening of a game is over what it left, and while more can be committed, whatever a taking may find is that.
abbrev pub GamesAreTaken : {T P F K S L G : Type 0} → Outside T P F K S L → GamesFacts G → (G → Type 0) → (G → List ℕ → List Event → Option (List ℕ) → Type 0) → Type 0
GamesAreTaken {F} {G} o facts IsFit MayTake =
    (form : LineForm) (texts : List (List ℕ)) (to : List Recipient) (old new : Server G F) (turns : List Turn) (stamp : List ℕ) (before : PlaceKeeper) (was : GameStatus PlaceKeeper) (past : List Event)
    → InTurns o facts form texts old turns new → IsAt (game_at old stamp) was
    → IsDurableAfter (facts.places (facts.place old.shared.games) stamp) stamp past (run_events to turns)
    → FindsItsOwn (MayTake old.shared.games stamp past) before was
    → TakenGame facts (facts.place old.shared.games) (common old) stamp before was (heard_in_turns turns) (game_at new stamp) (IsFit new.shared.games) (MayTake new.shared.games stamp (behind past (run_events to turns)))

-- of games in a store: so each opening in a run is over what was left, where the store is durable
abbrev pub StoreGamesAreTaken : {T P F K S L : Type 0} → Outside T P F K S L → Type 0
StoreGamesAreTaken o = GamesAreTaken o (store_games_facts o) CanCommit (MayTakeStored o)

-- what happened in a round up to its commit
abbrev pub events_to_commit : Round → List Event
events_to_commit r = (flat_map heard_events r.heard ++ end_events r.end) ++ r.commits

-- THE LAW: Behind a round whose commit succeeded, before its answers go out, whatever a start may find of a game is what it keeps while it is open,
-- or what it left.
abbrev pub CommitsAreFound : {T P F K S L G : Type 0} → Outside T P F K S L → GamesFacts G → (G → List ℕ → List Event → Option (List ℕ) → Type 0) → Type 0
CommitsAreFound {F} {G} o facts MayTake =
    (form : LineForm) (texts : List (List ℕ)) (to : List Recipient) (old mid new : Server G F) (turns : List Turn) (r : Round) (stamp : List ℕ) (before : PlaceKeeper) (was : GameStatus PlaceKeeper) (past : List Event)
    → InTurns o facts form texts old turns mid → IsRound o facts mid r new → r.committed ≡ Ok tt → IsAt (game_at old stamp) was
    → IsDurableAfter (facts.places (facts.place old.shared.games) stamp) stamp past (run_events to turns ++ events_to_commit r)
    → FindsItsOwn (MayTake old.shared.games stamp past) before was
    → TakenGame facts (facts.place old.shared.games) (common old) stamp before was (heard_in_turns turns ++ r.heard) (game_at new stamp) (Unit {0}) (MayFind (facts.places (facts.place old.shared.games) stamp) stamp (behind past (run_events to turns ++ events_to_commit r)))

-- so it is of games in a store, where that is durable
abbrev pub StoreCommitsAreFound : {T P F K S L : Type 0} → Outside T P F K S L → Type 0
StoreCommitsAreFound o = CommitsAreFound o (store_games_facts o) (MayTakeStored o)
