-- A run of a server of games over one timeline (game_server), as one of a host (this project's own): so two of them come under the theorem of
-- two hosts. One that opens its game unasked, and may request moves first (`listen`, `--fetch`), is such a run too.
--
-- What a run does of a game are its acts, by `OpenedGame` of served_games. Of these one is left out: the answer by which the game was opened
-- unasked. Nobody sent that request, the answer changes nothing, and its reply goes to nobody. A request of the game's own is `Asks` of
-- `Interleavings.antt`.
use Rattle.std.specs.Prelude.{◌≡◌, ◌++◌, ℕ, List, [], ◌∷◌, Option, None, Result, Ok, Err}
use Rattle.std.specs.List.{AllByRecursion}
use Rattle.arbiter_core.specs.Setups.{SetupView}
use Rattle.arbiter_server.specs.Acts.{Action, Unread, Strange, Refuses, Opens, Answers, Closes}
use Rattle.arbiter_server.specs.Folders.{Keepers}
use Rattle.arbiter_server.specs.Games.{CommonView, Fresh, GameStatus, Open, Shut}
use Rattle.move_msg.specs.Heard.{heard_in}
use Rattle.move_msg.specs.declared.arbiter_id.ArbiterId.{ArbiterId}
use Rattle.move_msg.specs.declared.message.Message.{Message}
use Rattle.move_msg.specs.declared.message.Message.TheVariants.{Move, Ack, Verdict, Fetch}
use Rattle.move_msg.specs.declared.message.MessageFault.{MessageFault}
use Rattle.relay_world.specs.Worlds.{Judged}
use Rattle.system_io.specs.declared.output.WriteFault.{WriteFault}
use Rattle.system_io.specs.declared.recipient.Recipient.{Recipient}
use Rattle.timeline.specs.Events.{Event}
use Rattle.timeline.specs.Outsides.{Outside}
use Rattle.game_folder.specs.Holdings.{GamesFacts}
use Rattle.game_server.specs.Printing.{LineForm}
use Rattle.game_server.specs.Rounds.{Heard, HearsAll}
use Rattle.game_server.specs.Runs.{InTurns, Serves, Turn, with_last}
use Rattle.game_server.specs.Seats.{common, open_at}
use Rattle.game_server.specs.Sending.{request}
use Rattle.game_server.specs.Starting.{request_at}
use Rattle.game_server.specs.declared.server.Server.{Server}
use Rattle.served_games.specs.Durable.{AreServedRuns, IsDurableAfter, IsToldAt, MayFind, ServedRun, events_of_all, heard_in_run}
use Rattle.served_games.specs.PlaceKeepers.{Follows, PlaceKeeper, found_keeper, place_keepers}
use Rattle.served_games.specs.ServedGames.{AreOverLeft, OpenedGame, acts_in, all_acts, game_at, heard_in_turns}
use Rattle.served_games.specs.Unasked.{Begins}
use Rattle.theorems.specs.Interleavings.{IsHostOf, IsRunOfHost}

-- ---- acts

-- acts without the answers among them
abbrev pub unanswered : {K : Type 0} → List (Action K) → List (Action K)
unanswered [] = []
unanswered (Unread datagram fault ∷ acts) = Unread datagram fault ∷ unanswered acts
unanswered (Strange stamp datagram tried why ∷ acts) = Strange stamp datagram tried why ∷ unanswered acts
unanswered (Refuses stamp datagram over fault ∷ acts) = Refuses stamp datagram over fault ∷ unanswered acts
unanswered (Opens stamp over arbiter ∷ acts) = Opens stamp over arbiter ∷ unanswered acts
unanswered (Answers stamp exchange ∷ acts) = unanswered acts
unanswered (Closes stamp left ∷ acts) = Closes stamp left ∷ unanswered acts

-- ---- how a run begins

-- a request for moves, or no message
abbrev pub IsRequest : Result Message MessageFault → Type 0
IsRequest (Ok (Move stamp sender number m)) = ⊥
IsRequest (Ok (Ack stamp who count)) = ⊥
IsRequest (Ok (Verdict stamp who ply verdict)) = ⊥
IsRequest (Ok (Fetch stamp who number wanted)) = Unit {0}
IsRequest (Err fault) = Unit {0}

-- each game that was opened unasked was so as by a request
abbrev pub AreRequests : List Heard → Type 0
AreRequests unasked = AllByRecursion (λ h. IsRequest (heard_in h.datagram)) unasked

-- ---- a run as one of a host

-- what the arbiter requests, where the game is open and it has a request
abbrev pub requested_in : GameStatus PlaceKeeper → Option Message
requested_in Fresh = None
requested_in (Shut left) = None
requested_in (Open at) = request at.arbiter

module _ {F G : Type 0} (facts : GamesFacts G) (place : facts.Place) (t : CommonView) (game : Judged) (who : ArbiterId) (unasked : List Heard) (begun : Server G F) (heard : List Heard) where
  -- Of a game a run does this: its acts at what was opened unasked, after which the server is so, and at what was heard. What the server
  -- requests of the game then is what its arbiter requests. The acts are those of a run of a host, where each opening is over what was left.
  pub record GoesAsHost : Type 0 where
    pub its : OpenedGame facts place t game.stamp unasked (game_at begun game.stamp) heard
    pub asks : request_at begun game.stamp ≡ requested_in its.mid
    pub run : AreOverLeft Fresh (acts_in its) → IsRunOfHost (place_keepers facts place) game who (unanswered (all_acts its.first) ++ all_acts its.each)

  -- and so each opening is
  pub record IsHostedRun : Type 0 where
    pub goes : GoesAsHost
    pub over : AreOverLeft Fresh (acts_in goes.its)

-- THE LAW: So is each run of a server that serves (`Serves`), of each game, at each place of games.
abbrev pub ServedAreHosted : {T P F K S L G : Type 0} → Outside T P F K S L → GamesFacts G → Type 0
ServedAreHosted {T} {F} {G} o facts =
    (game : Judged) (who : ArbiterId) (first old new : Server G F) (unasked : List Heard) (most n : ℕ) (form : LineForm) (texts : List (List ℕ)) (to : List Recipient) (before after : T) (result : Result ℕ WriteFault)
    → ((stamp : List ℕ) → open_at first stamp ≡ None)
    → IsHostOf game who (common first)
    → Begins o facts first unasked old
    → (run : Serves o facts most form texts n to old new before after result)
    → GoesAsHost facts (facts.place first.shared.games) (common first) game who unasked old (heard_in_turns (with_last run.turns run.last))

-- THE LAW: And so is each run as far as it went, wherever it stopped: its turns, and the datagrams that were heard behind them.
abbrev pub ServedFrontsAreHosted : {T P F K S L G : Type 0} → Outside T P F K S L → GamesFacts G → Type 0
ServedFrontsAreHosted {F} {G} o facts =
    (game : Judged) (who : ArbiterId) (first old mid new : Server G F) (unasked heard : List Heard) (turns : List Turn) (form : LineForm) (texts : List (List ℕ))
    → ((stamp : List ℕ) → open_at first stamp ≡ None)
    → IsHostOf game who (common first)
    → Begins o facts first unasked old
    → InTurns o facts form texts old turns mid
    → HearsAll o facts mid heard new
    → GoesAsHost facts (facts.place first.shared.games) (common first) game who unasked old (heard_in_turns turns ++ heard)

-- a run as far as it went, of a host
pub record IsRunAt {F G : Type 0} (game : Judged) (who : ArbiterId) (r : ServedRun G F) : Type 0 where
  pub of : IsHostOf game who (common r.old)
  pub requests : AreRequests r.unasked

-- THE LAW: Of records that are put at once and are durable, each run is one of a host, wherever it stopped: each opening is over what was left.
-- What was found at first is known.
abbrev pub ServedRunsAreHosted : {T P F K S L G : Type 0} → Outside T P F K S L → GamesFacts G → Type 0
ServedRunsAreHosted {F} {G} o facts =
    (game : Judged) (who : ArbiterId) (place : facts.Place) (setup : SetupView) (past : List Event) (first : PlaceKeeper) (runs : List (ServedRun G F))
    → IsToldAt facts place game.stamp
    → ((found : Option (List ℕ)) → MayFind (facts.places place game.stamp) game.stamp past found → Follows first (found_keeper found))
    → AreServedRuns o facts place game.stamp setup past runs
    → AllByRecursion (IsRunAt game who) runs
    → IsDurableAfter (facts.places place game.stamp) game.stamp past (events_of_all runs)
    → AllByRecursion (λ r. IsHostedRun facts place (common r.old) game who r.unasked r.begun (heard_in_run r)) runs

-- ---- two of them

-- so it is of what two servers know, each at a place
abbrev pub OfTwoPlaces : {G H : Type 0} → GamesFacts G → GamesFacts H → (Keepers PlaceKeeper → Keepers PlaceKeeper → Type 0) → Type 0
OfTwoPlaces facts others Law = (place : facts.Place) (its : others.Place) → Law (place_keepers facts place) (place_keepers others its)
