-- A game's record as the timeline has it, as a keeper (this project's own).
use Rattle.std.specs.Prelude.{◌≡◌, ◌⊎◌, ℕ, Bool, suc, List, Option, Some, None, Result, Ok, Err}
use Rattle.arbiter_core.specs.Keeping.{KeeperFacts}
use Rattle.arbiter_core.specs.Opens.{IsOpening}
use Rattle.arbiter_core.specs.Views.{View}
use Rattle.arbiter_core.specs.declared.keeper.Keep.TheVariants.{Good, FailsOld}
use Rattle.arbiter_server.specs.Folders.{Keepers}
use Rattle.arbiter_server.specs.Games.{CommonView, IsGameOf, setup_of}
use Rattle.arbiter_server.specs.declared.fault.OpenGameError.{OpenGameError}
use Rattle.arbiter_server.specs.declared.fault.OpenGameError.TheVariants.{OutOfMemory}
use Rattle.arbiter_server.specs.declared.fault.Uncommitted.{Uncommitted}
use Rattle.arbiter_server.specs.declared.games.GameConfig.{GameConfig}
use Rattle.timeline.specs.Events.{Event}
use Rattle.game_folder.specs.Holdings.{GamesFacts}

pub record PlaceKeeper : Type 0 where
  -- what is kept, by what was put, found or noted
  pub kept : Option (List ℕ)
  -- the bytes of the last put, if it failed
  pub unkept : Option (List ℕ)
  -- how often a put failed
  pub faults : ℕ

-- a start found this
abbrev pub found_keeper : Option (List ℕ) → PlaceKeeper
found_keeper got = record { kept = got; unkept = None; faults = 0 }

-- these bytes were put, or noted
abbrev pub has_put : PlaceKeeper → List ℕ → PlaceKeeper
has_put k bytes = record { kept = Some bytes; unkept = None; faults = k.faults }

-- a put of these bytes failed
abbrev pub has_failed : PlaceKeeper → List ℕ → PlaceKeeper
has_failed k bytes = record { kept = k.kept; unkept = Some bytes; faults = suc k.faults }

-- a put is good, or it fails and what was kept stays so; a get neither fails nor changes anything
abbrev pub place_facts : KeeperFacts PlaceKeeper
place_facts = record {
  kept = λ k. k.kept;
  faults = λ k. k.faults;
  may_be = λ k keep. (keep ≡ Good) ⊎ (keep ≡ FailsOld);
  get_may_fail = λ k. ⊥;
  leaves = λ k bytes n. (n ≡ has_put k bytes) ⊎ (n ≡ has_failed k bytes);
  reads = λ k fault n. n ≡ k;
}

-- the next opening finds what was left; or, where the last put failed, its bytes
abbrev pub Follows : PlaceKeeper → PlaceKeeper → Type 0
Follows left next = (next.kept ≡ left.kept) ⊎ ((bytes : List ℕ) × (left.unkept ≡ Some bytes) × (next.kept ≡ Some bytes))

-- games are at a place, or are what calls have made of such
pub data IsThere {G : Type 0} (facts : GamesFacts G) (place : facts.Place) : G → Type 0 where
  AtPlace : {now : G} → facts.place now ≡ place → IsThere facts place now
  BehindTake : {now : G} (old : G) (stamp : List ℕ) (result : Result (Option (List ℕ)) OpenGameError) (events : List Event) → IsThere facts place old → facts.takes old stamp result events now → IsThere facts place now
  BehindPut : {now : G} (old : G) (stamp bytes : List ℕ) (is_done : Bool) (events : List Event) → IsThere facts place old → facts.keeps old stamp bytes is_done events now → IsThere facts place now

module _ {G : Type 0} (facts : GamesFacts G) (place : facts.Place) where
  -- for this reason the record of the game with this stamp can't be had there
  pub record Withholds (stamp : List ℕ) (why : OpenGameError) : Type 0 where
    pub games : G
    pub there : facts.place games ≡ place
    pub events : List Event
    pub after : G
    pub takes : facts.takes games stamp (Err why) events after

  -- Over its record an arbiter of the game was opened, and what that had to put was kept. But memory was refused to keep the game open.
  pub record IsNotHeld (stamp : List ℕ) (why : OpenGameError) : Type 0 where
    pub memory : why ≡ OutOfMemory
    pub common : CommonView
    pub game : GameConfig
    pub looked : List Event
    pub finds : facts.finds place stamp (Ok game) looked
    pub is : IsGameOf common.manifest stamp game.name.items game.start game.delay
    pub games : G
    pub there : facts.place games ≡ place
    pub got : Option (List ℕ)
    pub taken : List Event
    pub after : G
    pub takes : facts.takes games stamp (Ok got) taken after
    pub now : PlaceKeeper
    pub arbiter : View
    pub opening : IsOpening place_facts (setup_of common game.name.items game.start game.delay) (found_keeper got) now (Ok arbiter)

  -- why no arbiter of the game is open there
  pub data LacksArbiter (stamp : List ℕ) (why : OpenGameError) : Type 0 where
    IsNotFound : (events : List Event) → facts.finds place stamp (Err why) events → LacksArbiter stamp why
    IsWithheld : Withholds stamp why → LacksArbiter stamp why
    NotHeld : IsNotHeld stamp why → LacksArbiter stamp why

  -- what was noted there wasn't committed
  pub record FailsToCommit : Type 0 where
    pub games : G
    pub there : facts.place games ≡ place
    pub why : Uncommitted
    pub events : List Event
    pub after : G
    pub fails : facts.commits games (Err why) events after

  -- what is known of games at a place
  abbrev pub place_keepers : Keepers PlaceKeeper
  place_keepers = record {
    facts = place_facts;
    tells = λ stamp game. (events : List Event) × facts.finds place stamp (Ok game) events;
    refuses = LacksArbiter;
    withholds = Withholds;
    is_of = λ stamp k. k.unkept ≡ None;
    follows = Follows;
    may_fail = FailsToCommit;
  }
