-- Two hosts and a game that both have, woven together: what each of them does, in the order of time (this project's own). A weave
-- is an interleaving of what both do.
--
-- Of each run of a host its contract is known: its acts of the game go on from one another by the steps of an arbiter (`IsRunOfHost`), as those
-- of a server do (`served_are_hosted`), wherever it stopped. This gives the setup of each opening, what opening and delivering leave, from
-- where each delivery starts, and that a game that is opened wasn't open. What no contract can give is a premise, and stands here:
-- - `IsHostOf`: which hosts these are.
-- - `Finds`, `AnswersDatagram` and `Stops`: the game that was found under the stamp is this one, no message of it is made up, and keepers keep.
-- - `GivesOwn` and `GivesIf`: a datagram that no arbiter gets, a closing, and an act of another game leave what is found.
--
-- A real run meets them. Let the keepers of a game at a host be over one file, to which nobody else writes, and let its sites be as
-- `changed` has them, with what is in that file after each act. Then `kept` and `is_found` hold by what reading and replacing a file
-- do (`Premises.antt` of system_io), mostly by `inl refl`. `came` holds where datagrams come from the source and from the two, and
-- `start` and `delay` where no other game of the same stamp was entered.
use Rattle.std.specs.Prelude.{◌≡◌, ◌⊎◌, ℕ, Bool, true, false, cond, List, [], ◌∷◌, ◌≤◌, Option, Some, None, Ok, Err, IfSome, slice_get}
use Rattle.std.specs.List.{AllByRecursion}
use Rattle.move_msg.specs.declared.arbiter_id.ArbiterId.{ArbiterId}
use Rattle.move_msg.specs.declared.arbiter_id.ArbiterId.TheVariants.{A, B}
use Rattle.move_msg.specs.declared.message.Message.{Message}
use Rattle.move_msg.specs.declared.message.Message.TheVariants.{Ack}
use Rattle.move_msg.specs.declared.stamp.Stamp.{Stamp}
use Rattle.move_msg.specs.Senders.{who_number}
use Rattle.arbiter_core.specs.Keeping.{KeeperFacts}
use Rattle.arbiter_core.specs.Recording.{Recorded, move_count}
use Rattle.arbiter_core.specs.Setups.{SetupView, rules_at}
use Rattle.arbiter_core.specs.Views.{View}
use Rattle.arbiter_core.specs.Delivers.{Exchange, IsWritten, Moment, answer_at}
use Rattle.arbiter_core.specs.Opens.{OpenResult, first_record}
use Rattle.arbiter_server.specs.Folders.{Keepers}
use Rattle.arbiter_server.specs.Acts.{Action, Unread, Strange, Refuses, Opens, Answers, Closes, Opening, acts_of, game_of, is_stamp}
use Rattle.arbiter_server.specs.Games.{CommonView, Fresh, Goes, GameStatus, Open, Shut}
use Rattle.relay_world.specs.Worlds.{Judged}
use Rattle.relay_world.specs.Headline.{IsFrontOf}
use Rattle.theorems.specs.Nets.{Asking, FoundAnswered, FoundOpened, IsNoForgery, IsOfWorld, IsSetupOf, IsToBePut, SystemState, Site, arbiter_in, changed, first_net, sent_with, site_of}

-- ---- what happens, in the order of time

-- what a host does
pub data HostEvent (K : Type 0) : Type 0 where
  -- an act, of any game
  Does : (act : Action K) → HostEvent K
  -- the arbiter of the game, which is open, requests moves of the other, as one that opens it unasked may do
  Asks : HostEvent K
  -- its run ends, by itself or because its process is stopped; the next run begins with no game open
  Ends : HostEvent K

-- the host of A does it, or that of B, each over keepers of its own type
pub data Step (K L : Type 0) : Type 0 where
  AtA : (deed : HostEvent K) → Step K L
  AtB : (deed : HostEvent L) → Step K L

-- what each of them does
abbrev pub deeds_a : {K L : Type 0} → List (Step K L) → List (HostEvent K)
deeds_a [] = []
deeds_a (AtA deed ∷ steps) = deed ∷ deeds_a steps
deeds_a (AtB deed ∷ steps) = deeds_a steps

abbrev pub deeds_b : {K L : Type 0} → List (Step K L) → List (HostEvent L)
deeds_b [] = []
deeds_b (AtA deed ∷ steps) = deeds_b steps
deeds_b (AtB deed ∷ steps) = deed ∷ deeds_b steps

-- the acts of the first run, those of each later one, and those of the last one
abbrev pub first_run : {K : Type 0} → List (HostEvent K) → List (Action K)
first_run [] = []
first_run (Does act ∷ deeds) = act ∷ first_run deeds
first_run (Asks ∷ deeds) = first_run deeds
first_run (Ends ∷ deeds) = []

abbrev pub later_runs : {K : Type 0} → List (HostEvent K) → List (List (Action K))
later_runs [] = []
later_runs (Does act ∷ deeds) = later_runs deeds
later_runs (Asks ∷ deeds) = later_runs deeds
later_runs (Ends ∷ deeds) = first_run deeds ∷ later_runs deeds

abbrev pub last_among : {K : Type 0} → List (Action K) → List (List (Action K)) → List (Action K)
last_among run [] = run
last_among run (next ∷ later) = last_among next later

abbrev pub last_run : {K : Type 0} → List (HostEvent K) → List (Action K)
last_run deeds = last_among (first_run deeds) (later_runs deeds)

-- ---- what the contract of a host gives

-- The host is that of this arbiter, and judges by tables with the meaning of the game's. Its manifest is in the stamp.
pub record IsHostOf (game : Judged) (who : ArbiterId) (t : CommonView) : Type 0 where
  pub tables : t.set.tables ≡ game.rules.tables
  pub number : t.number ≡ who_number who

-- These acts are what a run of it has done so far: those of the game go on from one another by its steps, to some life. Of a run of a server
-- its contract gives this, wherever it stopped (`ServedAreHosted`, `ServedFrontsAreHosted`).
pub record IsRunOfHost {K : Type 0} (s : Keepers K) (game : Judged) (who : ArbiterId) (acts : List (Action K)) : Type 0 where
  pub common : CommonView
  pub of : IsHostOf game who common
  pub life : GameStatus K
  pub goes : Goes s common game.stamp Fresh (acts_of game.stamp acts) life

-- so it is of each run
abbrev pub AreRunsOf : {K : Type 0} → Keepers K → Judged → ArbiterId → List (HostEvent K) → Type 0
AreRunsOf s game who deeds = AllByRecursion (IsRunOfHost s game who) (first_run deeds ∷ later_runs deeds)

-- ---- what the outside gives

-- what a start finds at a site, and no arbiter
abbrev pub closed_with : Option (List ℕ) → Site
closed_with found = record { kept = found; arbiter = None }

abbrev pub open_with : Option (List ℕ) → Option View → Site
open_with found arbiter = record { kept = found; arbiter = arbiter }

-- An arbiter of the game is opened, or refused.
pub record Finds {K : Type 0} (facts : KeeperFacts K) (game : Judged) (old : SystemState) (who : ArbiterId) (o : Opening K) (told : OpenResult) (new : SystemState) : Type 0 where
  -- premise: the game that was found under the stamp is this one, and no other of the same stamp
  pub start : o.setup.start ≡ game.rules.start
  pub delay : o.setup.delay ≡ game.rules.delay
  -- premise: the keeper keeps what is found there
  pub kept : facts.kept o.before ≡ (site_of old who).kept
  -- premise: the next opening finds what this keeper keeps then; or, where its put failed, the first record
  pub found : Option (List ℕ)
  pub is_found : FoundOpened facts game o.setup (site_of old who).kept o.now told found
  pub net : new ≡ changed old who (open_with found (arbiter_in told)) []

-- an arbiter, unless it is down: its host closes it then
abbrev pub if_up : View → Option View
if_up v = cond v.is_down None (Some v)

-- The arbiter of the game answers a datagram.
pub record AnswersDatagram {K : Type 0} (facts : KeeperFacts K) (game : Judged) (old : SystemState) (who : ArbiterId) (e : Exchange K) (new : SystemState) : Type 0 where
  -- premise: a message of the game was sent before, by the source or by one of the two
  pub came : IsNoForgery game old.log e.datagram
  -- premise: the next opening finds what this keeper keeps then; or, where its put failed, the record that was to be put
  pub found : Option (List ℕ)
  pub is_found : IfSome (site_of old who).arbiter (λ v. FoundAnswered facts v e found)
  pub net : new ≡ changed old who (open_with found (if_up e.after.arbiter)) (sent_with e.told)

-- the process was stopped while its arbiter put the record that it was to answer this datagram with, and this is found
pub record IsSiteCutAtPut (game : Judged) (log : List Message) (old : Site) (found : Option (List ℕ)) : Type 0 where
  pub arbiter : View
  pub stands : old.arbiter ≡ Some arbiter
  pub datagram : List ℕ
  pub came : IsNoForgery game log datagram
  pub put : IsToBePut arbiter (answer_at arbiter datagram) found

-- the process was stopped while the first record of the game was put over nothing, and this is found
pub record IsCutAtFirst (game : Judged) (who : ArbiterId) (old : Site) (found : Option (List ℕ)) : Type 0 where
  pub setup : SetupView
  pub is_setup : IsSetupOf game who setup
  pub none : old.kept ≡ None
  pub put : IsWritten game.stamp setup.delay (first_record (rules_at setup)) found

-- The run of a host ends.
pub record Stops (game : Judged) (old : SystemState) (who : ArbiterId) (new : SystemState) : Type 0 where
  -- premise: the next opening finds what was found; or, where the process was stopped within a put, what was to be put
  pub found : Option (List ℕ)
  pub is_found : (found ≡ (site_of old who).kept) ⊎ (IsSiteCutAtPut game old.log (site_of old who) found ⊎ IsCutAtFirst game who (site_of old who) found)
  pub net : new ≡ changed old who (closed_with found) []

-- an act of the game; premise: a datagram that no arbiter gets changes nothing (so it is of an acknowledgement and a verdict of a game
-- that isn't open), and a closing leaves what is found
abbrev pub GivesOwn : {K : Type 0} → KeeperFacts K → Judged → SystemState → ArbiterId → Action K → SystemState → Type 0
GivesOwn facts game old who (Unread datagram fault) new = new ≡ old
GivesOwn facts game old who (Strange stamp datagram tried why) new = new ≡ old
GivesOwn facts game old who (Refuses stamp datagram o fault) new = Finds facts game old who o (Err fault) new
GivesOwn facts game old who (Opens stamp o arbiter) new = Finds facts game old who o (Ok arbiter) new
GivesOwn facts game old who (Answers stamp e) new = AnswersDatagram facts game old who e new
GivesOwn facts game old who (Closes stamp left) new = new ≡ changed old who (closed_with (site_of old who).kept) []

-- an act of the game; premise: an act of another one changes nothing of this one
abbrev pub GivesIf : {K : Type 0} → Bool → KeeperFacts K → Judged → SystemState → ArbiterId → Action K → SystemState → Type 0
GivesIf true facts game old who act new = GivesOwn facts game old who act new
GivesIf false facts game old who act new = new ≡ old

-- one deed: what the outside gives for it, and where it leads
abbrev pub GivesFor : {K : Type 0} → KeeperFacts K → Judged → SystemState → ArbiterId → HostEvent K → SystemState → Type 0
GivesFor facts game old who (Does act) new = GivesIf (is_stamp game.stamp (game_of act)) facts game old who act new
GivesFor facts game old who Asks new = (v : View) × Asking old who v new
GivesFor facts game old who Ends new = Stops game old who new

-- all steps in turn
abbrev pub Interleaving : {K L : Type 0} → KeeperFacts K → KeeperFacts L → Judged → SystemState → List (Step K L) → SystemState → Type 0
Interleaving a b game old [] new = new ≡ old
Interleaving a b game old (AtA deed ∷ steps) new = (mid : SystemState) × GivesFor a game old A deed mid × Interleaving a b game mid steps new
Interleaving a b game old (AtB deed ∷ steps) new = (mid : SystemState) × GivesFor b game old B deed mid × Interleaving a b game mid steps new

-- ---- what holds

-- a site is as its host has it: an arbiter that is open runs, and what a start would find is what its keeper keeps
abbrev pub IsSiteOfLife : {K : Type 0} → KeeperFacts K → GameStatus K → Site → Type 0
IsSiteOfLife facts Fresh site = site.arbiter ≡ None
IsSiteOfLife facts (Shut left) site = site.arbiter ≡ None
IsSiteOfLife facts (Open at) site = (site.arbiter ≡ Some at.arbiter) × (at.arbiter.is_down ≡ false) × (site.kept ≡ facts.kept at.keeper)

-- so it is wherever the last run of its host has led the game
abbrev pub StandsAt : {K : Type 0} → Keepers K → Judged → List (HostEvent K) → Site → Type 0
StandsAt {K = K} s game deeds site =
    (common : CommonView) (life : GameStatus K) → Goes s common game.stamp Fresh (acts_of game.stamp (last_run deeds)) life → IsSiteOfLife s.facts life site

-- what is found at both hosts, and all that was sent, is what a world of the game keeps and has sent, and that world is true to
-- the game; and each site is where its host has led
pub record AreOfWorld {K L : Type 0} (a : Keepers K) (b : Keepers L) (game : Judged) (steps : List (Step K L)) (net : SystemState) : Type 0 where
  pub world : IsOfWorld game net
  pub at_a : StandsAt a game (deeds_a steps) net.a
  pub at_b : StandsAt b game (deeds_b steps) net.b

-- two hosts come there: by runs as their contracts have them, woven in any order, and by what the outside gives at each step
pub record AreWoven {K L : Type 0} (a : Keepers K) (b : Keepers L) (game : Judged) (steps : List (Step K L)) (net : SystemState) : Type 0 where
  pub runs_a : AreRunsOf a game A (deeds_a steps)
  pub runs_b : AreRunsOf b game B (deeds_b steps)
  pub weaves : Interleaving a.facts b.facts game (first_net game) steps net

-- Wherever two hosts come, a schedule leads to what is found there.
abbrev pub HostsAreWorlds : {K L : Type 0} → Keepers K → Keepers L → Type 0
HostsAreWorlds {K = K} {L = L} a b = (game : Judged) (steps : List (Step K L)) (net : SystemState) → AreWoven a b game steps net → AreOfWorld a b game steps net

-- a record is found of the game's first moves, so many at least; or nothing, where these are none
abbrev pub HasMoves : Judged → ℕ → Option (List ℕ) → Type 0
HasMoves game n None = n ≡ 0
HasMoves game n (Some bytes) = (kept : Recorded) × IsWritten game.stamp game.rules.delay kept (Some bytes) × IsFrontOf game.rules game.moves kept × (n ≤ move_count kept)

-- As many moves as a host ever acknowledged are found there, then and later: all that was ever sent stays in the log.
abbrev pub AcksAreFound : {K L : Type 0} → Keepers K → Keepers L → Type 0
AcksAreFound {K = K} {L = L} a b =
    (game : Judged) (steps : List (Step K L)) (net : SystemState) → AreWoven a b game steps net
    → (i : ℕ) (stamp : Stamp) (who : ArbiterId) (n : ℕ) → slice_get net.log i ≡ Some (Ack stamp who n) → HasMoves game n (site_of net who).kept

-- Wherever the last run has led a game that is open, the record of its arbiter is the first moves of the game, with the first verdict
-- exactly at its ply. The line of each answer tells the count and the verdict of this record (`line_for` of arbiter_server).
abbrev pub TellsTheTruth : {K : Type 0} → Keepers K → Judged → List (HostEvent K) → Type 0
TellsTheTruth {K = K} s game deeds =
    (common : CommonView) (at : Moment K) → Goes s common game.stamp Fresh (acts_of game.stamp (last_run deeds)) (Open at) → IsFrontOf game.rules game.moves at.arbiter.kept

-- What two hosts tell of a game is so.
abbrev pub HostsTellTheTruth : {K L : Type 0} → Keepers K → Keepers L → Type 0
HostsTellTheTruth {K = K} {L = L} a b =
    (game : Judged) (steps : List (Step K L)) (net : SystemState) → AreWoven a b game steps net → TellsTheTruth a game (deeds_a steps) × TellsTheTruth b game (deeds_b steps)

-- ---- of one act

-- what is said of an answer holds of an act, if it is one
abbrev pub IfAnswers : {K : Type 0} → (Exchange K → Type 0) → Action K → Type 0
IfAnswers P (Unread datagram fault) = Unit {0}
IfAnswers P (Strange stamp datagram tried why) = Unit {0}
IfAnswers P (Refuses stamp datagram o fault) = Unit {0}
IfAnswers P (Opens stamp o arbiter) = Unit {0}
IfAnswers P (Answers stamp e) = P e
IfAnswers P (Closes stamp left) = Unit {0}

-- the messages that are sent for the game
abbrev pub sent_by_act : {K : Type 0} → Action K → List Message
sent_by_act (Unread datagram fault) = []
sent_by_act (Strange stamp datagram tried why) = []
sent_by_act (Refuses stamp datagram o fault) = []
sent_by_act (Opens stamp o arbiter) = []
sent_by_act (Answers stamp e) = sent_with e.told
sent_by_act (Closes stamp left) = []
