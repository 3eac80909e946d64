-- What a game's arbiters told, over all runs of a server and wherever each of them stopped (this project's own). It is one law for records
-- in files and for records in a store.
use Rattle.std.specs.Prelude.{◌≡◌, ℕ, List, [], ◌∷◌, Some, None}
use Rattle.std.specs.List.{AllByRecursion}
use Rattle.arbiter_core.specs.Answering.{Answer, Puts, Refuses as RefusesWith, Sends}
use Rattle.arbiter_core.specs.Delivers.{Exchange, Moment, answer_at}
use Rattle.arbiter_core.specs.Recording.{Recorded}
use Rattle.arbiter_core.specs.Setups.{SetupView}
use Rattle.arbiter_core.specs.Views.{View, spelled_as}
use Rattle.arbiter_server.specs.Acts.{Action, Unread, Strange, Refuses, Opens, Answers, Closes}
use Rattle.arbiter_server.specs.Games.{CommonView, Fresh, GameStatus, Goes, IsNotOpen, Open, Shut}
use Rattle.arbiter_server.specs.Lives.{GoesOn, IsItsRecord, StillHolds}
use Rattle.arbiter_server.specs.Serving.{outputs_of}
use Rattle.move_msg.specs.Records.{WritesRecord}
use Rattle.game_folder.specs.Holdings.{GamesFacts}
use Rattle.served_games.specs.PlaceKeepers.{Follows, PlaceKeeper, has_failed, place_keepers}
use Rattle.served_games.specs.ServedGames.{AreOverLeft}

-- ---- what is still there

-- A start finds a record of the game that goes on from what the arbiter had recorded when it gave this answer, and in it what each message of
-- the answer told: as many moves as were acknowledged, the same ones, and the verdict at its ply.
pub record IsStillKept (next : PlaceKeeper) (e : Exchange PlaceKeeper) : Type 0 where
  pub bytes : List ℕ
  pub there : next.kept ≡ Some bytes
  pub kept : Recorded
  pub is : IsItsRecord e.after.arbiter bytes kept
  pub goes_on : GoesOn e.after.arbiter.kept kept
  pub holds : AllByRecursion (StillHolds e.after.arbiter.kept kept) (outputs_of e.told)

-- of an act, if it is an answer
abbrev pub IsToldStill : PlaceKeeper → Action PlaceKeeper → Type 0
IsToldStill next (Unread datagram fault) = Unit {0}
IsToldStill next (Strange stamp datagram tried why) = Unit {0}
IsToldStill next (Refuses stamp datagram o fault) = Unit {0}
IsToldStill next (Opens stamp o arbiter) = Unit {0}
IsToldStill next (Answers stamp e) = IsStillKept next e
IsToldStill next (Closes stamp left) = Unit {0}

-- an opening is of this setup
abbrev pub IsOfOne : SetupView → Action PlaceKeeper → Type 0
IsOfOne setup (Unread datagram fault) = Unit {0}
IsOfOne setup (Strange stamp datagram tried why) = Unit {0}
IsOfOne setup (Refuses stamp datagram o fault) = o.setup ≡ setup
IsOfOne setup (Opens stamp o arbiter) = o.setup ≡ setup
IsOfOne setup (Answers stamp e) = Unit {0}
IsOfOne setup (Closes stamp left) = Unit {0}

-- ---- where a run leaves the game

-- what is left of its record, where this was left before the run
abbrev pub left_by : PlaceKeeper → GameStatus PlaceKeeper → PlaceKeeper
left_by before Fresh = before
left_by before (Shut left) = left
left_by before (Open at) = at.keeper

-- an arbiter was to put these bytes
abbrev pub IsToBePut : View → Answer → List ℕ → Type 0
IsToBePut v (RefusesWith fault) bytes = ⊥
IsToBePut v (Sends outputs window) bytes = ⊥
IsToBePut v (Puts next outputs window) bytes = WritesRecord bytes (spelled_as v.me.stamp v.setup.delay next)

-- where the process stopped: between two calls; in a put of the game's arbiter, or of a first record over nothing, which is as one that failed
pub data StopsLeaving (before : PlaceKeeper) (life : GameStatus PlaceKeeper) (left : PlaceKeeper) : Type 0 where
  Between : left ≡ left_by before life → StopsLeaving before life left
  AtPut : (at : Moment PlaceKeeper) (datagram bytes : List ℕ) → life ≡ Open at → IsToBePut at.arbiter (answer_at at.arbiter datagram) bytes → left ≡ has_failed at.keeper bytes → StopsLeaving before life left
  AtFirst : (over : PlaceKeeper) (bytes : List ℕ) → IsNotOpen life → Follows (left_by before life) over → over.kept ≡ None → left ≡ has_failed over bytes → StopsLeaving before life left

-- ---- the runs

-- the acts of a game in a run whose answers count, and what the run left of its record
pub record PlaceRun : Type 0 where
  pub acts : List (Action PlaceKeeper)
  pub left : PlaceKeeper

module _ {G : Type 0} (facts : GamesFacts G) (place : facts.Place) (stamp : List ℕ) (setup : SetupView) where
  -- A run over what was left before. Premise: the game that was found under the stamp is this one, and each opening is over what was left.
  pub record RanOver (before : PlaceKeeper) (r : PlaceRun) : Type 0 where
    pub common : CommonView
    pub life : GameStatus PlaceKeeper
    pub goes : Goes (place_keepers facts place) common stamp Fresh r.acts life
    pub one : AllByRecursion (IsOfOne setup) r.acts
    pub over : AreOverLeft (Shut before) r.acts
    pub stops : StopsLeaving before life r.left

  -- runs, each over what the one before it left
  abbrev pub RanInTurn : PlaceKeeper → List PlaceRun → PlaceKeeper → Type 0
  RanInTurn first [] last = last ≡ first
  RanInTurn first (r ∷ rs) last = RanOver first r × RanInTurn r.left rs last

  -- THE LAW: after any runs, wherever each of them stopped, whatever a start finds of a game is a record in which all is that each answer told
  abbrev pub WhatWasToldLasts : Type 0
  WhatWasToldLasts =
      (first last next : PlaceKeeper) (runs : List PlaceRun) → RanInTurn first runs last → Follows last next → AllByRecursion (λ r. AllByRecursion (IsToldStill next) r.acts) runs

-- so it is of each game at each place
abbrev pub EachLasts : {G : Type 0} → GamesFacts G → Type 0
EachLasts facts = (place : facts.Place) (stamp : List ℕ) (setup : SetupView) → WhatWasToldLasts facts place stamp setup
