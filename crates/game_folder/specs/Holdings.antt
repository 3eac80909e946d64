-- What places of games know and keep, over one timeline (this project's own).
use Rattle.std.specs.Prelude.{◌≡◌, ◌⊎◌, ℕ, Bool, List, [], Option, Some, None, Result, Ok, Err, IfOk, IsOk, OnErr, OnOk}
use Rattle.std.specs.List.{AllByRecursion}
use Rattle.std.specs.declared.net.socket_addr.SocketAddr.{SocketAddr}
use Rattle.arbiter_server.specs.declared.fault.OpenGameError.{OpenGameError}
use Rattle.arbiter_server.specs.declared.fault.Uncommitted.{Uncommitted}
use Rattle.arbiter_server.specs.declared.games.GameConfig.{GameConfig}
use Rattle.timeline.specs.Events.{Event, Sent, is_done}
use Rattle.timeline.specs.Outsides.{AddsSome, Outside}
use Rattle.game_folder.specs.Drafts.{settled}
use Rattle.game_folder.specs.Places.{Held, InFile, InStore, KeptAt, Places, WasKept}
use Rattle.game_folder.specs.declared.games.KeptGame.{KeptGame}

-- what is known of places of games of a type
pub record GamesFacts (G : Type 0) : Type 1 where
  -- what of it no call changes
  pub Place : Type 0
  pub place : G → Place
  -- where the record of each game is kept
  pub places : Place → Places
  -- these bytes were noted, and are to be committed; where no more can be committed, any
  pub noted : G → Held
  -- by these events the game with this stamp is looked for, with what comes of it
  pub finds : Place → List ℕ → Result GameConfig OpenGameError → List Event → Type 0
  -- by these its record is taken: what is kept of it by then, or why it can't be had; and this is known then
  pub takes : G → List ℕ → Result (Option (List ℕ)) OpenGameError → List Event → G → Type 0
  -- by these bytes are kept of it, or that fails
  pub keeps : G → List ℕ → List ℕ → Bool → List Event → G → Type 0
  -- by these what was noted is committed, or isn't for this reason
  pub commits : G → Result (Unit {0}) Uncommitted → List Event → G → Type 0

-- no datagram is sent
abbrev pub SendsNothing : List Event → Type 0
SendsNothing events = AllByRecursion (λ e. (to : SocketAddr) (bytes : List ℕ) → e ≡ Sent to bytes → ⊥) events

-- a game's record is kept there: in this file, or in a store
abbrev pub IsKeptIn : {T P F K S L : Type 0} → Outside T P F K S L → KeptAt → Option F → Type 0
IsKeptIn o at (Some file) = at ≡ InFile (o.path file)
IsKeptIn o at None = (path : List ℕ) × (at ≡ InStore path)

-- what a call gave, without its value
abbrev pub without_value : {A E : Type 0} → Result A E → Result (Unit {0}) E
without_value (Ok a) = Ok tt
without_value (Err e) = Err e

-- what is kept of a game, or why that can't be had
abbrev pub kept_of : {F : Type 0} → Result (KeptGame F) OpenGameError → Result (Option (List ℕ)) OpenGameError
kept_of (Ok game) = Ok game.draft.kept
kept_of (Err why) = Err why

module _ {G : Type 0} (facts : GamesFacts G) where
  -- these bytes were kept of the game with this stamp so far, or are to be committed
  abbrev pub known : G → List Event → Held
  known g before stamp bytes = facts.noted g stamp bytes ⊎ WasKept (facts.places (facts.place g) stamp) before stamp bytes

  -- what is kept of it is known
  abbrev pub IsKnown : G → List Event → List ℕ → Option (List ℕ) → Type 0
  IsKnown g before stamp kept = (bytes : List ℕ) → kept ≡ Some bytes → known g before stamp bytes

  -- what was noted stays so
  abbrev pub StaysNoted : G → G → Type 0
  StaysNoted old new = (stamp bytes : List ℕ) → facts.noted old stamp bytes → facts.noted new stamp bytes

  -- nothing is sent, and it is where it was
  pub record IsQuiet (old new : G) (events : List Event) : Type 0 where
    pub quiet : SendsNothing events
    pub place : facts.place new ≡ facts.place old

  -- a game is looked for
  pub record FindsGame (g : G) (stamp : List ℕ) (result : Result GameConfig OpenGameError) (events : List Event) : Type 0 where
    pub quiet : SendsNothing events
    pub found : facts.finds (facts.place g) stamp result events

  -- its record was taken
  pub record IsTaken {T P F K S L : Type 0} (o : Outside T P F K S L) (g : G) (stamp : List ℕ) (events : List Event) (game : KeptGame F) : Type 0 where
    pub of : game.stamp ≡ stamp
    pub within : IsKeptIn o (facts.places (facts.place g) stamp) game.file
    pub clean : game.draft.to_put ≡ None
    pub known : IsKnown g events stamp game.draft.kept

  pub record TakesGame {T P F K S L : Type 0} (o : Outside T P F K S L) (old new : G) (stamp : List ℕ) (result : Result (KeptGame F) OpenGameError) (events : List Event) : Type 0 where
    pub still : IsQuiet old new events
    pub noted : StaysNoted old new
    pub taken : facts.takes old stamp (kept_of result) events new
    pub ok : IfOk result (IsTaken o new stamp events)

  -- what a game has to put is kept, or that fails
  pub record KeepsGame {T P F K S L A E : Type 0} (o : Outside T P F K S L) (old new : G) (before after : KeptGame F) (result : Result A E) (events : List Event) : Type 0 where
    pub still : IsQuiet old new events
    pub noted : StaysNoted old new
    pub of : after.stamp ≡ before.stamp
    pub within : IsKeptIn o (facts.places (facts.place new) after.stamp) after.file
    pub draft : after.draft ≡ settled before.draft
    pub none : before.draft.to_put ≡ None → (events ≡ []) × (new ≡ old) × IsOk result
    pub some : (bytes : List ℕ) → before.draft.to_put ≡ Some bytes → facts.keeps old before.stamp bytes (is_done result) events new
    pub known : (bytes : List ℕ) → before.draft.to_put ≡ Some bytes → OnOk result (known new events before.stamp bytes)

  -- so it is from one moment to another
  abbrev pub KeepsIn : {T P F K S L A E : Type 0} → Outside T P F K S L → G → G → KeptGame F → KeptGame F → T → T → Result A E → Type 0
  KeepsIn o old new before after t t' result = AddsSome o t t' (KeepsGame o old new before after result)

  -- what was noted is committed, or that fails; then it stays noted, and nothing is announced
  pub record CommitsGames {A : Type 0} (old new : G) (result : Result A Uncommitted) (events : List Event) : Type 0 where
    pub still : IsQuiet old new events
    pub done : facts.commits old (without_value result) events new
    pub kept : OnOk result ((stamp bytes : List ℕ) → facts.noted old stamp bytes → WasKept (facts.places (facts.place old) stamp) events stamp bytes)
    pub left : OnErr result (StaysNoted old new)
