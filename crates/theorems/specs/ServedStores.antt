-- Two servers of one game woven together, each over a store of its own, or one over a store and one over files (this project's own): what
-- `Interleavings` asks of the outside, by what starts find in the stores and the files.
--
-- In the worlds, a turn whose commit failed or was cut by a stop is a list of deliveries that didn't happen: none of its answers went out, and the
-- next start finds the store without it. Or, where the whole batch is there all the same, it is a turn that happened whole, and its answers were
-- lost. So of each run over a store the acts of its first turns happened (`Front` of served_games), among them each turn whose answers went out.
-- Of a run over files all happened. Left out is the answer by which a game was opened unasked (`Served.antt`).
--
-- What stays a premise: what `IsRunOver` and `IsServedRun` of served_games say of each run; that the game found under the stamp is this one, and
-- nothing of it is found at first, or imported; that the store, or the file, is durable; and that no move or request of the game is made up (`NoneIsForged`).
use Rattle.std.specs.Prelude.{◌≡◌, ◌++◌, ℕ, List, [], ◌∷◌, Option, Some, None}
use Rattle.std.specs.List.{AllByRecursion}
use Rattle.arbiter_core.specs.Setups.{SetupView}
use Rattle.move_msg.specs.declared.arbiter_id.ArbiterId.{ArbiterId}
use Rattle.move_msg.specs.declared.arbiter_id.ArbiterId.TheVariants.{A, B}
use Rattle.move_msg.specs.declared.message.Message.{Message}
use Rattle.arbiter_server.specs.Acts.{Action, game_of}
use Rattle.arbiter_server.specs.Folders.{Keepers}
use Rattle.arbiter_server.specs.Games.{CommonView, Fresh, Shut}
use Rattle.relay_world.specs.Worlds.{Judged}
use Rattle.timeline.specs.Events.{Event}
use Rattle.timeline.specs.Outsides.{Outside}
use Rattle.game_folder.specs.Drafts.{DraftView}
use Rattle.game_folder.specs.Holdings.{GamesFacts}
use Rattle.game_folder.specs.Places.{InStore}
use Rattle.game_folder.specs.StoreGames.{StoredGames, StoredPlace, store_games_facts}
use Rattle.arbiter_core.specs.Delivers.{Moment}
use Rattle.game_server.specs.Rounds.{Heard}
use Rattle.game_server.specs.Seats.{common}
use Rattle.served_games.specs.Durable.{AreServedRuns, IsDurableAfter, IsToldAt, MayFind, ServedRun, behind, events_of_all, heard_in_run}
use Rattle.served_games.specs.Lasting.{left_by}
use Rattle.served_games.specs.PlaceKeepers.{Follows, PlaceKeeper, found_keeper, place_keepers}
use Rattle.served_games.specs.ServedGames.{AreOverLeft, OpenedGame, all_acts, game_at, life_through}
use Rattle.served_games.specs.StoreRuns.{Front, GameIn, IsRunOver, NoneCommitted}
use Rattle.theorems.specs.Interleavings.{AtA, AtB, HostEvent, Asks, Does, Ends, IfAnswers, IsRunOfHost, Step, deeds_a, deeds_b, first_run, later_runs}
use Rattle.theorems.specs.Nets.{IsNoForgery}
use Rattle.theorems.specs.Served.{IsRunAt, unanswered}
use Rattle.theorems.specs.ServedWeaves.{BothHeld, ComeToNet, Held, IsOpenNow, LeavesKept, OpensGame, first_both, held_after, sent_in}

-- ---- the acts that happened at one server

-- the acts of a game, without the answer by which it was opened unasked
abbrev pub happened : {G : Type 0} {facts : GamesFacts G} {place : facts.Place} {t : CommonView} {stamp : List ℕ} {unasked : List Heard} {begun : Option (Moment DraftView)} {heard : List Heard} → OpenedGame facts place t stamp unasked begun heard → List (Action PlaceKeeper)
happened p = unanswered (all_acts p.first) ++ all_acts p.each

-- acts of a run, all of this game: each opening is over what was left, the first one over this, and what an arbiter that runs put is kept
pub record AreOver (game : Judged) (before : PlaceKeeper) (acts : List (Action PlaceKeeper)) : Type 0 where
  pub own : AllByRecursion (λ act. game_of act ≡ Some game.stamp) acts
  pub over : AreOverLeft (Shut before) acts
  pub game_is : AllByRecursion (OpensGame game) acts
  pub kept : AllByRecursion LeavesKept acts

-- so are those of each run in turn, over what the one before it left
abbrev pub AreOverInTurn : Judged → PlaceKeeper → List (List (Action PlaceKeeper)) → PlaceKeeper → Type 0
AreOverInTurn game before [] last = last ≡ before
AreOverInTurn game before (acts ∷ more) last = AreOver game before acts × AreOverInTurn game (left_by before (life_through Fresh acts)) more last

-- From nothing at first these acts of a server's runs lead to what is found.
pub record HasLed {G : Type 0} (facts : GamesFacts G) (place : facts.Place) (game : Judged) (who : ArbiterId) (runs : List (List (Action PlaceKeeper))) (found : Option (List ℕ)) : Type 0 where
  pub hosted : AllByRecursion (IsRunOfHost (place_keepers facts place) game who) runs
  pub last : PlaceKeeper
  pub in_turn : AreOverInTurn game (found_keeper None) runs last
  pub follows : Follows last (found_keeper found)

-- ---- a server over a store

-- The runs of a server of the game over a store, and what a start may find behind them. (The last one may still go on: a start that comes now
-- finds what it finds where the run stopped now. A server that never ran has one run, without turns.)
pub record StoreServer {T P F K S L : Type 0} (o : Outside T P F K S L) (game : Judged) (who : ArbiterId) : Type 0 where
  pub place : StoredPlace
  pub setup : SetupView
  -- premise (who writes the folder of games): the game that was found under the stamp is this one
  pub start : setup.start ≡ game.rules.start
  pub delay : setup.delay ≡ game.rules.delay
  pub runs : List (ServedRun (StoredGames S) F)
  pub of : AllByRecursion (IsRunAt game who) runs
  pub are : AllByRecursion (IsRunOver o place game.stamp setup) runs
  -- premise (who writes the folder of games): no record of the game is imported from its file
  pub imports : AllByRecursion (λ r. NoneCommitted place.store_path game.stamp r.first) runs
  pub past : List Event
  -- premise (who else writes the store, the disk): an earlier start looked for the game there and found nothing, and the store is durable
  pub none : (found : Option (List ℕ)) → MayFind (InStore place.store_path) game.stamp past found → found ≡ None
  pub durable : IsDurableAfter (InStore place.store_path) game.stamp past (events_of_all runs)
  pub found : Option (List ℕ)
  pub finds : MayFind (InStore place.store_path) game.stamp (behind past (events_of_all runs)) found

-- what counts of a run, and the acts that happened in it
pub record StoreActs {T P F K S L : Type 0} (o : Outside T P F K S L) (place : StoredPlace) (stamp : List ℕ) (setup : SetupView) (r : ServedRun (StoredGames S) F) (acts : List (Action PlaceKeeper)) : Type 0 where
  pub front : Front place.store_path r
  pub its : GameIn o place stamp setup r front
  pub acts_are : acts ≡ happened its

-- two lists in step
abbrev pub InStep : {X Y : Type 0} → (X → Y → Type 0) → List X → List Y → Type 0
InStep P [] [] = Unit {0}
InStep P [] (y ∷ ys) = ⊥
InStep P (x ∷ xs) [] = ⊥
InStep P (x ∷ xs) (y ∷ ys) = P x y × InStep P xs ys

pub record StoreHappened {T P F K S L : Type 0} (o : Outside T P F K S L) (game : Judged) (who : ArbiterId) (at : StoreServer o game who) : Type 0 where
  pub acts : List (List (Action PlaceKeeper))
  pub of_runs : InStep (StoreActs o at.place game.stamp at.setup) at.runs acts
  pub led : HasLed (store_games_facts o) at.place game who acts at.found

-- ---- a server over files

-- the runs of a server of the game whose records are put at once
pub record FileServer {T P F K S L G : Type 0} (o : Outside T P F K S L) (facts : GamesFacts G) (game : Judged) (who : ArbiterId) : Type 0 where
  pub place : facts.Place
  pub setup : SetupView
  pub start : setup.start ≡ game.rules.start
  pub delay : setup.delay ≡ game.rules.delay
  pub told : IsToldAt facts place game.stamp
  pub runs : List (ServedRun G F)
  pub of : AllByRecursion (IsRunAt game who) runs
  pub past : List Event
  -- premise (who else writes the file, the disk): nothing of the game is found at first, and the file is durable
  pub none : (found : Option (List ℕ)) → MayFind (facts.places place game.stamp) game.stamp past found → found ≡ None
  pub are : AreServedRuns o facts place game.stamp setup past runs
  pub durable : IsDurableAfter (facts.places place game.stamp) game.stamp past (events_of_all runs)
  pub found : Option (List ℕ)
  pub finds : MayFind (facts.places place game.stamp) game.stamp (behind past (events_of_all runs)) found

-- the acts that happened in a run
pub record FileActs {G F : Type 0} (facts : GamesFacts G) (place : facts.Place) (stamp : List ℕ) (r : ServedRun G F) (acts : List (Action PlaceKeeper)) : Type 0 where
  pub its : OpenedGame facts place (common r.old) stamp r.unasked (game_at r.begun stamp) (heard_in_run r)
  pub acts_are : acts ≡ happened its

pub record FileHappened {T P F K S L G : Type 0} (o : Outside T P F K S L) (facts : GamesFacts G) (game : Judged) (who : ArbiterId) (at : FileServer o facts game who) : Type 0 where
  pub acts : List (List (Action PlaceKeeper))
  pub of_runs : InStep (FileActs facts at.place game.stamp) at.runs acts
  pub led : HasLed facts at.place game who acts at.found

-- ---- both servers

-- the acts of each run
abbrev pub runs_in : {K : Type 0} → List (HostEvent K) → List (List (Action K))
runs_in deeds = first_run deeds ∷ later_runs deeds

-- premise (the network, whoever has the keys): a move or a request of the game came only if it was sent before, by the source or by one of the
-- two; among what was sent is each answer that went out by then, and some that were lost. A server requests moves of a game that is open.
abbrev pub IsUnforged : Judged → List Message → Held → HostEvent PlaceKeeper → Type 0
IsUnforged game log h (Does act) = IfAnswers (λ e. IsNoForgery game log e.datagram) act
IsUnforged game log h Asks = IsOpenNow h.life
IsUnforged game log h Ends = Unit {0}

-- so it is of each step, which lead from one state of the two to another
abbrev pub NoneIsForged : Judged → BothHeld → List (Step PlaceKeeper PlaceKeeper) → BothHeld → Type 0
NoneIsForged game old [] new = new ≡ old
NoneIsForged game old (AtA deed ∷ steps) new =
    IsUnforged game old.log old.a deed × NoneIsForged game (record { a = held_after game.stamp old.a deed; b = old.b; log = old.log ++ sent_in game.stamp old.a deed }) steps new
NoneIsForged game old (AtB deed ∷ steps) new =
    IsUnforged game old.log old.b deed × NoneIsForged game (record { a = old.a; b = held_after game.stamp old.b deed; log = old.log ++ sent_in game.stamp old.b deed }) steps new

-- In whichever order these acts at the two came, the two come to a net as the theorem of two hosts asks, in which this is kept, and of which the
-- log has what these acts send.
abbrev pub AreWovenInAnyOrder : Keepers PlaceKeeper → Keepers PlaceKeeper → Judged → List (List (Action PlaceKeeper)) → List (List (Action PlaceKeeper)) → Option (List ℕ) → Option (List ℕ) → Type 0
AreWovenInAnyOrder a b game runs its_runs found its_found =
    (steps : List (Step PlaceKeeper PlaceKeeper)) (end : BothHeld) → runs_in (deeds_a steps) ≡ runs → runs_in (deeds_b steps) ≡ its_runs
    → NoneIsForged game (first_both game) steps end
    → ComeToNet a b game steps found its_found end.log

-- THE LAW: Of two servers of one game, each over a store, some first acts of each run happened, among them all whose answers went out, and so woven
-- the two come to a net in which what a start may find in each store is kept.
abbrev pub StoresAreWoven : {T P F K S L T' P' F' K' S' L' : Type 0} → Outside T P F K S L → Outside T' P' F' K' S' L' → Type 0
StoresAreWoven o o' =
    (game : Judged) (at_a : StoreServer o game A) (at_b : StoreServer o' game B)
    → (acts : StoreHappened o game A at_a) × ((its : StoreHappened o' game B at_b)
    × AreWovenInAnyOrder (place_keepers (store_games_facts o) at_a.place) (place_keepers (store_games_facts o') at_b.place) game acts.acts its.acts at_a.found at_b.found)

-- THE LAW: So do a server over a store and one whose records are put in files at once, whichever of the two arbiters each of them is.
abbrev pub StoreBesideFiles : {T P F K S L T' P' F' K' S' L' G : Type 0} → Outside T P F K S L → Outside T' P' F' K' S' L' → GamesFacts G → Type 0
StoreBesideFiles o o' facts =
    (game : Judged)
    → ((at_a : StoreServer o game A) (at_b : FileServer o' facts game B)
    → (acts : StoreHappened o game A at_a) × ((its : FileHappened o' facts game B at_b)
    × AreWovenInAnyOrder (place_keepers (store_games_facts o) at_a.place) (place_keepers facts at_b.place) game acts.acts its.acts at_a.found at_b.found))
    × ((at_a : FileServer o' facts game A) (at_b : StoreServer o game B)
    → (acts : FileHappened o' facts game A at_a) × ((its : StoreHappened o game B at_b)
    × AreWovenInAnyOrder (place_keepers facts at_a.place) (place_keepers (store_games_facts o) at_b.place) game acts.acts its.acts at_a.found at_b.found))
