-- What a game told over a store, over all runs of a server, and wherever each of them stopped (this project's own).
--
-- Behind a commit that was broken off a start finds the whole batch or what was there before, and only what is found later tells which. So of each
-- run the acts of some of its first turns count (`Front`), among them each turn of whose answers any went out: a turn that doesn't count is one
-- whose answers didn't.
use Rattle.std.specs.Prelude.{◌≡◌, ◌++◌, ℕ, Bool, true, false, List, [], ◌∷◌, map, Option, None, Ok}
use Rattle.std.specs.List.{AllByRecursion, Contains}
use Rattle.arbiter_core.specs.Delivers.{Moment}
use Rattle.arbiter_core.specs.Setups.{SetupView}
use Rattle.arbiter_server.specs.Games.{Fresh, GameStatus, Open, Shut, setup_of}
use Rattle.arbiter_server.specs.declared.games.GameConfig.{GameConfig}
use Rattle.system_io.specs.Records.{StoredRecord}
use Rattle.timeline.specs.Events.{Committed, Event, RecordSought, stamped}
use Rattle.timeline.specs.Outsides.{Outside}
use Rattle.game_folder.specs.Drafts.{DraftView}
use Rattle.game_folder.specs.Holdings.{SendsNothing}
use Rattle.game_folder.specs.Places.{InStore}
use Rattle.game_folder.specs.StoreGames.{MayCommit, StoredGames, StoredPlace, store_games_facts}
use Rattle.game_server.specs.Printing.{LineForm}
use Rattle.game_server.specs.Rounds.{Heard, HearsAll}
use Rattle.game_server.specs.Runs.{Answers as AnswersRound, Deed, HearsNone, InTurns, Turn}
use Rattle.game_server.specs.Seats.{common, open_at}
use Rattle.served_games.specs.Durable.{IsDurableAfter, MayFind, ServedRun, behind, events_of_all, heard_in_run, last_of, work_of}
use Rattle.served_games.specs.Lasting.{IsOfOne, IsToldStill}
use Rattle.served_games.specs.PlaceKeepers.{Follows, PlaceKeeper, found_keeper}
use Rattle.served_games.specs.ServedGames.{AreOverLeft, OpenedGame, acts_in, game_at, heard_in_turns}

-- ---- which turns of a run count

-- the answers of a turn went out: what its games noted was committed
abbrev pub WasSent : Deed → Type 0
WasSent (AnswersRound round) = round.committed ≡ Ok tt
WasSent HearsNone = ⊥

-- those of none of these did
abbrev pub NoneSent : List Turn → Type 0
NoneSent turns = AllByRecursion (λ t. WasSent t.deed → ⊥) turns

-- what games noted came to a commit, which was done or not; or they noted nothing
pub data ComesToCommit {S : Type 0} (path : List ℕ) (games : StoredGames S) (tail : List Event) : Type 0 where
  IsBegun : (early late : List Event) (records : List (List ℕ × StoredRecord)) (is_done : Bool) → tail ≡ early ++ Committed path records is_done ∷ late → ComesToCommit path games tail
  HasNothing : games.noted ≡ [] → ComesToCommit path games tail

-- Of a run this counts: nothing; or what was opened unasked, and its first turns; or all that was heard, where that came to a commit. No answers to
-- another datagram went out.
pub data Front {S F : Type 0} (path : List ℕ) (r : ServedRun (StoredGames S) F) : Type 0 where
  NoTurns : NoneSent r.turns → SendsNothing r.tail → Front path r
  FirstTurns : (first later : List Turn) → r.turns ≡ first ++ later → NoneSent later → SendsNothing r.tail → Front path r
  AllHeard : ComesToCommit path r.new.shared.games r.tail → Front path r

module _ {S F : Type 0} (path stamp : List ℕ) (r : ServedRun (StoredGames S) F) where
  abbrev pub unasked_of : Front path r → List Heard
  unasked_of (NoTurns none sends) = []
  unasked_of (FirstTurns first later are none sends) = r.unasked
  unasked_of (AllHeard comes) = r.unasked

  abbrev pub begun_of : Front path r → Option (Moment DraftView)
  begun_of (NoTurns none sends) = None
  begun_of (FirstTurns first later are none sends) = game_at r.begun stamp
  begun_of (AllHeard comes) = game_at r.begun stamp

  abbrev pub heard_of : Front path r → List Heard
  heard_of (NoTurns none sends) = []
  heard_of (FirstTurns first later are none sends) = heard_in_turns first
  heard_of (AllHeard comes) = heard_in_run r

-- ---- a run

-- no record of the game is committed to the store
abbrev pub CommitsNone : List ℕ → List ℕ → Event → Type 0
CommitsNone path stamp (Committed at records is_done) = at ≡ path → last_of stamp records ≡ None
CommitsNone path stamp e = Unit {0}

abbrev pub NoneCommitted : List ℕ → List ℕ → List Event → Type 0
NoneCommitted path stamp events = AllByRecursion (CommitsNone path stamp) events

-- How a run began: no record of the game was committed; or one was, or not, where a look had found none, as where `host` imports those of files.
pub data BeginsBy (path stamp : List ℕ) (first : List Event) : Type 0 where
  NoImport : NoneCommitted path stamp first → BeginsBy path stamp first
  Imports : (early mid late : List Event) (records : List (List ℕ × StoredRecord)) (is_done : Bool) → NoneCommitted path stamp early → NoneCommitted path stamp mid → NoneCommitted path stamp late
      → first ≡ early ++ RecordSought path stamp None ∷ (mid ++ Committed path records is_done ∷ late) → BeginsBy path stamp first

-- Where a run stopped: before a commit of what was noted; in one, which is as one that failed, or behind one that failed; behind one that succeeded;
-- or where nothing was to be committed. Nothing is sent before a commit that succeeded, or behind one that failed.
pub data StopsAt {S : Type 0} (path stamp : List ℕ) (games : StoredGames S) (tail : List Event) : Type 0 where
  BeforeCommit : NoneCommitted path stamp tail → SendsNothing tail → StopsAt path stamp games tail
  InCommit : (early late : List Event) → MayCommit games → NoneCommitted path stamp early → NoneCommitted path stamp late
      → tail ≡ early ++ Committed path (map stamped games.noted) false ∷ late → SendsNothing tail → StopsAt path stamp games tail
  BehindCommit : (early late : List Event) → MayCommit games → NoneCommitted path stamp early → NoneCommitted path stamp late
      → tail ≡ early ++ Committed path (map stamped games.noted) true ∷ late → StopsAt path stamp games tail
  NothingNoted : games.loss ≡ None → games.noted ≡ [] → NoneCommitted path stamp tail → StopsAt path stamp games tail

-- a start may find this of a game that was left so; as long as it wasn't opened, what was left before
abbrev pub IsLeftSo : PlaceKeeper → GameStatus PlaceKeeper → Option (List ℕ) → Type 0
IsLeftSo before Fresh found = Follows before (found_keeper found)
IsLeftSo before (Shut left) found = Follows left (found_keeper found)
IsLeftSo before (Open now) found = found ≡ now.keeper.kept

-- a run begins over what was found before it; or over a record that was imported where none was found
pub data BeginsOver (path stamp : List ℕ) (first : List Event) (was begins : Option (List ℕ)) : Type 0 where
  AsFound : begins ≡ was → BeginsOver path stamp first was begins
  OverImport : (early late : List Event) (records : List (List ℕ × StoredRecord)) (is_done : Bool) → first ≡ early ++ Committed path records is_done ∷ late → was ≡ None → begins ≡ last_of stamp records → BeginsOver path stamp first was begins

module _ {T P F K S L : Type 0} (o : Outside T P F K S L) (place : StoredPlace) (stamp : List ℕ) (setup : SetupView) where
  -- A run over the store at this place. Its server begins with no game open and nothing noted. Premise: whatever game was found under the stamp,
  -- by events of this run, is this one; and but by its turns, and an import where none was found, no record of it was committed.
  pub record IsRunOver (r : ServedRun (StoredGames S) F) : Type 0 where
    pub folder : r.old.shared.games.folder ≡ place.folder
    pub store : o.store_path r.old.shared.games.store ≡ place.store_path
    pub none_noted : r.old.shared.games.noted ≡ []
    pub closed : (other : List ℕ) → open_at r.old other ≡ None
    pub one : (game : GameConfig) (events : List Event) → (store_games_facts o).finds place stamp (Ok game) events → AllByRecursion (Contains (work_of r)) events
        → setup_of (common r.old) game.name.items game.start game.delay ≡ setup
    pub form : LineForm
    pub texts : List (List ℕ)
    pub opens : HearsAll o (store_games_facts o) r.old r.unasked r.begun
    pub in_turns : InTurns o (store_games_facts o) form texts r.begun r.turns r.mid
    pub hears : HearsAll o (store_games_facts o) r.mid r.heard r.new
    pub imports : BeginsBy place.store_path stamp r.first
    pub asked_none : NoneCommitted place.store_path stamp r.asked
    pub stops : StopsAt place.store_path stamp r.new.shared.games r.tail

  -- ---- what is found behind runs

  -- the game's acts in what counts of a run
  abbrev pub GameIn : (r : ServedRun (StoredGames S) F) → Front place.store_path r → Type 0
  GameIn r front =
      OpenedGame (store_games_facts o) place (common r.old) stamp (unasked_of place.store_path stamp r front) (begun_of place.store_path stamp r front) (heard_of place.store_path stamp r front)

  -- all that the answers told that count is in what is found
  pub record IsKeptOf (found : Option (List ℕ)) (r : ServedRun (StoredGames S) F) : Type 0 where
    pub front : Front place.store_path r
    pub game : GameIn r front
    pub over : AreOverLeft Fresh (acts_in game)
    pub told : AllByRecursion (IsToldStill (found_keeper found)) (acts_in game)

  -- over what was found before, the acts that count lead to what is found
  pub record LeadsTo (was found : Option (List ℕ)) (r : ServedRun (StoredGames S) F) : Type 0 where
    pub begins : Option (List ℕ)
    pub from : BeginsOver place.store_path stamp r.first was begins
    pub front : Front place.store_path r
    pub game : GameIn r front
    pub over : AreOverLeft (Shut (found_keeper begins)) (acts_in game)
    pub one : AllByRecursion (IsOfOne setup) (acts_in game)
    pub left : IsLeftSo (found_keeper begins) game.life found

  -- so do those of runs, each over what was found behind the one before it
  abbrev pub LeadOn : Option (List ℕ) → List (ServedRun (StoredGames S) F) → Option (List ℕ) → Type 0
  LeadOn was [] found = found ≡ was
  LeadOn was (r ∷ rs) found = (mid : Option (List ℕ)) × LeadsTo was mid r × LeadOn mid rs found

  -- all runs lead there from something that might be found at first
  abbrev pub LeadFrom : List Event → List (ServedRun (StoredGames S) F) → Option (List ℕ) → Type 0
  LeadFrom past runs found = (first : Option (List ℕ)) × MayFind (InStore place.store_path) stamp past first × LeadOn first runs found

-- THE LAW: Where a store is durable, whatever a start may find of a game behind any runs, wherever each of them stopped, is a record in which all
-- is that each answer told that went out: as many moves as were acknowledged, the same ones, and the verdict at its ply.
abbrev pub StoreRunsAreTold : {T P F K S L : Type 0} → Outside T P F K S L → Type 0
StoreRunsAreTold {F} {S = S} o =
    (place : StoredPlace) (stamp : List ℕ) (setup : SetupView) (past : List Event) (runs : List (ServedRun (StoredGames S) F)) (found : Option (List ℕ))
    → AllByRecursion (IsRunOver o place stamp setup) runs
    → IsDurableAfter (InStore place.store_path) stamp past (events_of_all runs)
    → MayFind (InStore place.store_path) stamp (behind past (events_of_all runs)) found
    → AllByRecursion (IsKeptOf o place stamp setup found) runs

-- THE LAW: And it is what the acts that count lead to, of one run after another, each opening of which is over what was left.
abbrev pub StoreRunsAreLed : {T P F K S L : Type 0} → Outside T P F K S L → Type 0
StoreRunsAreLed {F} {S = S} o =
    (place : StoredPlace) (stamp : List ℕ) (setup : SetupView) (past : List Event) (runs : List (ServedRun (StoredGames S) F)) (found : Option (List ℕ))
    → AllByRecursion (IsRunOver o place stamp setup) runs
    → IsDurableAfter (InStore place.store_path) stamp past (events_of_all runs)
    → MayFind (InStore place.store_path) stamp (behind past (events_of_all runs)) found
    → LeadFrom o place stamp setup past runs found
