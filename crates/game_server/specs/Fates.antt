-- What becomes of a datagram at a server of many games (this project's own).
use Rattle.std.specs.Prelude.{◌≡◌, ◌++◌, ℕ, Bool, true, false, List, [], cond, codes, Option, Some, None, Result, Ok, Err}
use Rattle.arbiter_core.specs.Delivers.{Exchange, Moment, ReturnsAnswer, Told, answer_to_any, exchange, moment}
use Rattle.arbiter_core.specs.Opens.{IsOpening}
use Rattle.arbiter_core.specs.Setups.{SetupView}
use Rattle.arbiter_core.specs.Views.{View}
use Rattle.arbiter_core.specs.declared.fault.DeliverFault.TheVariants.{NotAMessage}
use Rattle.arbiter_core.specs.declared.fault.OpenFault.{OpenFault}
use Rattle.arbiter_server.specs.Acts.{opens_game}
use Rattle.arbiter_server.specs.Games.{CommonView, IsGameOf, setup_of}
use Rattle.arbiter_server.specs.ServedLines.{refused_datagram, refused_keeper}
use Rattle.arbiter_server.specs.Serving.{line_of, outputs_of}
use Rattle.arbiter_server.specs.Told.{stamped, unopened_by, unopened_words}
use Rattle.arbiter_server.specs.declared.fault.OpenGameError.{OpenGameError}
use Rattle.arbiter_server.specs.declared.fault.OpenGameError.TheVariants as unopened
use Rattle.arbiter_server.specs.declared.games.GameConfig.{GameConfig}
use Rattle.move_msg.specs.Heard.{heard_in}
use Rattle.move_msg.specs.Messages.{stamp_in}
use Rattle.move_msg.specs.declared.message.Message.{Message}
use Rattle.move_msg.specs.declared.message.MessageFault.{MessageFault}
use Rattle.timeline.specs.Events.{Event}
use Rattle.game_folder.specs.Drafts.{DraftView, draft_facts, settled}
use Rattle.game_folder.specs.Holdings.{GamesFacts}

-- nothing is to be put of what a start found
abbrev pub found_draft : Option (List ℕ) → DraftView
found_draft got = record { kept = got; to_put = None }

-- ---- what is answered

-- the record that was to be put was not
abbrev pub is_unput : Option (List ℕ) → Bool → Told → Bool
is_unput to_put done (Err fault) = false
is_unput None done (Ok outputs) = false
is_unput (Some bytes) true (Ok outputs) = false
is_unput (Some bytes) false (Ok outputs) = true

pub data Fate : Type 0 where
  -- the bytes are no message
  Unread : (fault : MessageFault) → Fate
  -- the game with this stamp isn't open
  Unopened : (stamp : List ℕ) (why : OpenGameError) → Fate
  -- its arbiter answered, and what it had to put was kept or not
  Answered : (stamp : List ℕ) (e : Exchange DraftView) (is_kept : Bool) → Fate

-- what was to be put wasn't kept
abbrev pub is_lost_at : Exchange DraftView → Bool → Bool
is_lost_at e is_kept = is_unput e.after.keeper.to_put is_kept e.told

abbrev pub fate_line : Fate → List ℕ
fate_line (Unread fault) = codes "- " ++ refused_datagram (NotAMessage fault)
fate_line (Unopened stamp why) = stamped stamp (unopened_words why)
fate_line (Answered stamp e is_kept) = stamped stamp (cond (is_lost_at e is_kept) refused_keeper (line_of e))

-- a record that isn't kept is not announced
abbrev pub fate_outputs : Fate → List Message
fate_outputs (Unread fault) = []
fate_outputs (Unopened stamp why) = []
fate_outputs (Answered stamp e is_kept) = cond (is_lost_at e is_kept) [] (outputs_of e.told)

-- where its game is afterwards, if it stays open; one whose record isn't kept is closed
abbrev pub fate_leaves : Fate → Option (Moment DraftView)
fate_leaves (Unread fault) = None
fate_leaves (Unopened stamp why) = None
fate_leaves (Answered stamp e is_kept) = cond (is_lost_at e is_kept) None (Some (moment e.after.arbiter (settled e.after.keeper)))

-- ---- an arbiter answers

module _ {G : Type 0} (facts : GamesFacts G) where
  -- what is to be put is kept by these events, if anything; and the games are so then
  abbrev pub KeptIfAny : G → List ℕ → Option (List ℕ) → List Event → G → Type 0
  KeptIfAny old stamp None events new = (events ≡ []) × (new ≡ old)
  KeptIfAny old stamp (Some bytes) events new = facts.keeps old stamp bytes true events new

  -- what an answer has to put is kept by these events, or that fails; a refusal puts nothing
  abbrev pub KeepsAnswer : G → List ℕ → Told → Option (List ℕ) → Bool → List Event → G → Type 0
  KeepsAnswer old stamp (Err fault) to_put is_kept events new = (events ≡ []) × (new ≡ old)
  KeepsAnswer old stamp (Ok outputs) None is_kept events new = (events ≡ []) × (new ≡ old)
  KeepsAnswer old stamp (Ok outputs) (Some bytes) is_kept events new = facts.keeps old stamp bytes is_kept events new

  pub record AnswersBy (old : G) (stamp : List ℕ) (at : Moment DraftView) (m : Message) (told : Told) (after : Moment DraftView) (is_kept : Bool) (events : List Event) (new : G) : Type 0 where
    pub answers : ReturnsAnswer draft_facts at (answer_to_any at.arbiter m) told after
    pub kept : KeepsAnswer old stamp told after.keeper.to_put is_kept events new

-- ---- a game is opened

-- Over a draft of what was found an arbiter is opened, and what it has to put is kept. Or it is refused; or that isn't kept; or memory is
-- refused to keep the game open.
module _ {G : Type 0} (facts : GamesFacts G) (old : G) (stamp : List ℕ) (setup : SetupView) (draft : DraftView) where
  pub data OpensSeat (events : List Event) (told : Result (Moment DraftView) OpenGameError) (new : G) : Type 0 where
    SeatRefused : (after : DraftView) (fault : OpenFault) → IsOpening draft_facts setup draft after (Err fault) → events ≡ [] → new ≡ old → told ≡ Err (unopened_by fault) → OpensSeat events told new
    SeatUnkept : (after : DraftView) (v : View) (bytes : List ℕ) → IsOpening draft_facts setup draft after (Ok v) → after.to_put ≡ Some bytes → facts.keeps old stamp bytes false events new → told ≡ Err unopened.Keeper → OpensSeat events told new
    SeatNotHeld : (after : DraftView) (v : View) → IsOpening draft_facts setup draft after (Ok v) → KeptIfAny facts old stamp after.to_put events new → told ≡ Err unopened.OutOfMemory → OpensSeat events told new
    SeatOpened : (after : DraftView) (v : View) → IsOpening draft_facts setup draft after (Ok v) → KeptIfAny facts old stamp after.to_put events new → told ≡ Ok (moment v (settled after)) → OpensSeat events told new

-- its record is taken by these events, and it is opened over that
pub data TakesAndOpens {G : Type 0} (facts : GamesFacts G) (t : CommonView) (old : G) (stamp : List ℕ) (game : GameConfig) (events : List Event) (told : Result (Moment DraftView) OpenGameError) (new : G) : Type 0 where
  TakesNone : (why : OpenGameError) → facts.takes old stamp (Err why) events new → told ≡ Err why → TakesAndOpens facts t old stamp game events told new
  TakesOne : (first rest : List Event) (got : Option (List ℕ)) (mid : G) → facts.takes old stamp (Ok got) first mid → OpensSeat facts mid stamp (setup_of t game.name.items game.start game.delay) (found_draft got) rest told new → events ≡ first ++ rest
      → TakesAndOpens facts t old stamp game events told new

module _ {G : Type 0} (facts : GamesFacts G) (t : CommonView) where
  -- the game of a message is looked for and opened, or it isn't for this reason
  pub data OpensFor (old : G) (m : Message) (events : List Event) (told : Result (Moment DraftView) OpenGameError) (new : G) : Type 0 where
    OpensNone : opens_game m ≡ false → events ≡ [] → new ≡ old → told ≡ Err unopened.NotOpen → OpensFor old m events told new
    NotFound : (why : OpenGameError) → opens_game m ≡ true → facts.finds (facts.place old) (stamp_in m) (Err why) events → new ≡ old → told ≡ Err why → OpensFor old m events told new
    IsOther : (game : GameConfig) → opens_game m ≡ true → facts.finds (facts.place old) (stamp_in m) (Ok game) events
        → (IsGameOf t.manifest (stamp_in m) game.name.items game.start game.delay → ⊥) → new ≡ old → told ≡ Err unopened.OtherGame → OpensFor old m events told new
    IsFound : (game : GameConfig) (first rest : List Event) → opens_game m ≡ true → facts.finds (facts.place old) (stamp_in m) (Ok game) first
        → IsGameOf t.manifest (stamp_in m) game.name.items game.start game.delay → TakesAndOpens facts t old (stamp_in m) game rest told new → events ≡ first ++ rest → OpensFor old m events told new

  -- ---- a datagram

  -- the game that a message is of is open, or it is opened by these events
  abbrev pub HasGame : G → Message → Option (Moment DraftView) → List Event → Moment DraftView → G → Type 0
  HasGame old m (Some at) events now new = (now ≡ at) × (events ≡ []) × (new ≡ old)
  HasGame old m None events now new = OpensFor old m events (Ok now) new

  -- A datagram has this fate, where its game was there before; and the games are so then.
  pub data GoesTo (old : G) (datagram : List ℕ) (was : Option (Moment DraftView)) (events : List Event) (fate : Fate) (new : G) : Type 0 where
    IsUnread : (fault : MessageFault) → heard_in datagram ≡ Err fault → events ≡ [] → new ≡ old → fate ≡ Unread fault → GoesTo old datagram was events fate new
    IsUnopened : (m : Message) (why : OpenGameError) → heard_in datagram ≡ Ok m → was ≡ None → OpensFor old m events (Err why) new → fate ≡ Unopened (stamp_in m) why → GoesTo old datagram was events fate new
    IsAnswered : (m : Message) (first rest : List Event) (at after : Moment DraftView) (told : Told) (is_kept : Bool) (mid : G) → heard_in datagram ≡ Ok m → HasGame old m was first at mid
        → AnswersBy facts mid (stamp_in m) at m told after is_kept rest new → events ≡ first ++ rest → fate ≡ Answered (stamp_in m) (exchange datagram told after) is_kept → GoesTo old datagram was events fate new
