-- Two arbiters over keepers, and every message that was ever sent: their own steps, as the contracts of `open` and `deliver`
-- have them (this project's own, docs/RULES.md).
use Rattle.std.specs.Prelude.{◌≡◌, ◌⊎◌, ℕ, false, List, [], ◌∷◌, ◌++◌, slice_get, Option, Some, None, Ok, Err}
use Rattle.move_msg.specs.declared.arbiter_id.ArbiterId.{ArbiterId}
use Rattle.move_msg.specs.declared.arbiter_id.ArbiterId.TheVariants.{A, B}
use Rattle.move_msg.specs.declared.arbiter_id.Sender.TheVariants.{Source}
use Rattle.move_msg.specs.declared.message.Message.{Message}
use Rattle.move_msg.specs.declared.message.Message.TheVariants.{Move, Ack, Verdict, Fetch}
use Rattle.arbiter_core.specs.declared.fault.DeliverFault.TheVariants as deliver
use Rattle.arbiter_core.specs.declared.fault.OpenFault.TheVariants as opening
use Rattle.arbiter_core.specs.Keeping.{KeeperFacts}
use Rattle.arbiter_core.specs.Setups.{SetupView, IsIdentity, rules_at}
use Rattle.arbiter_core.specs.Views.{View}
use Rattle.arbiter_core.specs.Answering.{Answer, Refuses, Sends, Puts, request_of, sent_by}
use Rattle.arbiter_core.specs.Delivers.{Delivers, Exchange, IsWritten, Told as Answered, answer_at, heard, moment}
use Rattle.arbiter_core.specs.Opens.{OpenResult as Opened, Opens, first_record}
use Rattle.relay_world.specs.declared.event.Event.{Event}
use Rattle.relay_world.specs.Worlds.{Judged, first_world, identity, listed, world_after_all}
use Rattle.relay_world.specs.Headline.{IsFaithful, IsFrontOf}
use Rattle.relay_world.specs.Runs.{KeptIs}

-- where one of the two runs: what its next opening finds, and the arbiter while it is open
pub record Site : Type 0 where
  pub kept : Option (List ℕ)
  pub arbiter : Option View

pub record SystemState : Type 0 where
  pub a : Site
  pub b : Site
  -- every message that was ever sent, in order
  pub log : List Message

abbrev pub site_of : SystemState → ArbiterId → Site
site_of net A = net.a
site_of net B = net.b

-- one site changes, and it sends these messages
abbrev pub changed : SystemState → ArbiterId → Site → List Message → SystemState
changed net A site outputs = record { a = site; b = net.b; log = net.log ++ outputs }
changed net B site outputs = record { a = net.a; b = site; log = net.log ++ outputs }

-- nothing is kept, both are closed, and the source has sent the moves of the game
abbrev pub first_net : Judged → SystemState
first_net game = record { a = record { kept = None; arbiter = None }; b = record { kept = None; arbiter = None }; log = sent_by game.stamp Source 0 game.moves }

-- ---- the steps

pub data NetStep (K : Type 0) : Type 0 where
  -- an arbiter is opened, or refused: the keeper before and after it, and what was told
  OpensOne : (who : ArbiterId) (before now : K) (told : Opened) → NetStep K
  -- an arbiter that runs answers a datagram
  AnswersOne : (who : ArbiterId) (arbiter : View) (before : K) (exchange : Exchange K) → NetStep K
  -- an arbiter that runs asks for moves
  AsksOne : (who : ArbiterId) (arbiter : View) → NetStep K
  -- an arbiter is closed, or its process ends
  ClosesOne : (who : ArbiterId) → NetStep K

-- a setup of one of the two arbiters of the game
pub record IsSetupOf (game : Judged) (who : ArbiterId) (setup : SetupView) : Type 0 where
  pub rules : rules_at setup ≡ game.rules
  pub identity : IsIdentity setup (identity game who)

abbrev pub arbiter_in : Opened → Option View
arbiter_in (Ok v) = Some v
arbiter_in (Err fault) = None

-- after an opening a start finds what the keeper keeps; or the keeper failed over nothing kept, and it finds the first record
abbrev pub FoundOpened : {K : Type 0} → KeeperFacts K → Judged → SetupView → Option (List ℕ) → K → Opened → Option (List ℕ) → Type 0
FoundOpened facts game setup old now told found =
    (found ≡ facts.kept now)
    ⊎ ((told ≡ Err opening.KeeperFailed) × (old ≡ None) × IsWritten game.stamp game.rules.delay (first_record (rules_at setup)) found)

-- the keeper keeps what is found there, and what is told is what opening an arbiter of the game leaves
pub record IsOpeningAtSite {K : Type 0} (facts : KeeperFacts K) (game : Judged) (who : ArbiterId) (old : Site) (before now : K) (told : Opened) (new : Site) : Type 0 where
  pub setup : SetupView
  pub is_setup : IsSetupOf game who setup
  pub kept : facts.kept before ≡ old.kept
  pub opens : Opens facts setup (identity game who) before now told
  pub arbiter : new.arbiter ≡ arbiter_in told
  pub found : FoundOpened facts game setup old.kept now told new.kept

abbrev pub sent_with : Answered → List Message
sent_with (Ok outputs) = outputs
sent_with (Err fault) = []

-- it brings a move or asks for some; an acknowledgement and a verdict change nothing at an arbiter, whoever sends them
abbrev pub IsHeeded : Message → Type 0
IsHeeded (Move stamp sender number m) = Unit {0}
IsHeeded (Ack stamp who count) = ⊥
IsHeeded (Verdict stamp who ply verdict) = ⊥
IsHeeded (Fetch stamp who number wanted) = Unit {0}

-- A datagram comes: a message of the game that is heeded was sent before, by the source or by one of the two. Other bytes are noise.
abbrev pub IsNoForgery : Judged → List Message → List ℕ → Type 0
IsNoForgery game log datagram = (m : Message) → heard game.stamp datagram ≡ Ok m → IsHeeded m → (i : ℕ) × (slice_get log i ≡ Some m)

-- these bytes are written of the record that was to be put
abbrev pub IsToBePut : View → Answer → Option (List ℕ) → Type 0
IsToBePut v (Refuses fault) found = ⊥
IsToBePut v (Sends outputs window) found = ⊥
IsToBePut v (Puts next outputs window) found = IsWritten v.me.stamp v.setup.delay next found

-- after a delivery a start finds what the keeper keeps; or the keeper failed, and it finds the record that was to be put
abbrev pub FoundAnswered : {K : Type 0} → KeeperFacts K → View → Exchange K → Option (List ℕ) → Type 0
FoundAnswered facts v e found =
    (found ≡ facts.kept e.after.keeper) ⊎ ((e.told ≡ Err deliver.KeeperFailed) × IsToBePut v (answer_at v e.datagram) found)

-- the arbiter runs, its keeper keeps what is found there, and it answers as `deliver` does
pub record IsAnswerAtSite {K : Type 0} (facts : KeeperFacts K) (game : Judged) (log : List Message) (old : Site) (v : View) (before : K) (e : Exchange K) (new : Site) : Type 0 where
  pub stands : old.arbiter ≡ Some v
  pub runs : v.is_down ≡ false
  pub kept : facts.kept before ≡ old.kept
  pub came : IsNoForgery game log e.datagram
  pub delivers : Delivers facts (moment v before) e
  pub arbiter : new.arbiter ≡ Some e.after.arbiter
  pub found : FoundAnswered facts v e new.kept

pub record OpeningInNet {K : Type 0} (facts : KeeperFacts K) (game : Judged) (old : SystemState) (who : ArbiterId) (before now : K) (told : Opened) (new : SystemState) : Type 0 where
  pub site : Site
  pub is : IsOpeningAtSite facts game who (site_of old who) before now told site
  pub net : new ≡ changed old who site []

pub record Answering {K : Type 0} (facts : KeeperFacts K) (game : Judged) (old : SystemState) (who : ArbiterId) (v : View) (before : K) (e : Exchange K) (new : SystemState) : Type 0 where
  pub site : Site
  pub is : IsAnswerAtSite facts game old.log (site_of old who) v before e site
  pub net : new ≡ changed old who site (sent_with e.told)

pub record Asking (old : SystemState) (who : ArbiterId) (v : View) (new : SystemState) : Type 0 where
  pub stands : (site_of old who).arbiter ≡ Some v
  pub runs : v.is_down ≡ false
  pub net : new ≡ changed old who (site_of old who) (listed (request_of v.me v.kept))

-- one step
abbrev pub GoesByStep : {K : Type 0} → KeeperFacts K → Judged → SystemState → NetStep K → SystemState → Type 0
GoesByStep facts game old (OpensOne who before now told) new = OpeningInNet facts game old who before now told new
GoesByStep facts game old (AnswersOne who v before e) new = Answering facts game old who v before e new
GoesByStep facts game old (AsksOne who v) new = Asking old who v new
GoesByStep facts game old (ClosesOne who) new = new ≡ changed old who (record { kept = (site_of old who).kept; arbiter = None }) []

-- steps in turn
abbrev pub GoesBySteps : {K : Type 0} → KeeperFacts K → Judged → SystemState → List (NetStep K) → SystemState → Type 0
GoesBySteps facts game old [] new = new ≡ old
GoesBySteps facts game old (act ∷ acts) new = (mid : SystemState) × GoesByStep facts game old act mid × GoesBySteps facts game mid acts new

-- ---- what holds

-- There is a schedule after which the world keeps what is found at both, and has sent what was sent; and that world is true to
-- the game.
pub record IsOfWorld (game : Judged) (net : SystemState) : Type 0 where
  pub events : List Event
  pub a : KeptIs game.stamp game.rules.delay net.a.kept (world_after_all game (first_world game) events).a.kept
  pub b : KeptIs game.stamp game.rules.delay net.b.kept (world_after_all game (first_world game) events).b.kept
  pub log : net.log ≡ (world_after_all game (first_world game) events).log
  pub faithful : IsFaithful game (world_after_all game (first_world game) events)

-- Wherever two arbiters of one game come by their own steps over keepers of a type, a schedule leads to what is found there.
abbrev pub ArbitersAreWorlds : {K : Type 0} → KeeperFacts K → Type 0
ArbitersAreWorlds {K = K} facts =
    (game : Judged) (acts : List (NetStep K)) (net : SystemState) → GoesBySteps facts game (first_net game) acts net → IsOfWorld game net

-- What one of them tells while it runs is so: its record, of which each of its lines and messages tells, is the first moves of the game,
-- with the first verdict exactly at its ply.
abbrev pub ArbitersTellTheTruth : {K : Type 0} → KeeperFacts K → Type 0
ArbitersTellTheTruth {K = K} facts =
    (game : Judged) (acts : List (NetStep K)) (net : SystemState) → GoesBySteps facts game (first_net game) acts net
    → (who : ArbiterId) (v : View) → (site_of net who).arbiter ≡ Some v → v.is_down ≡ false → IsFrontOf game.rules game.moves v.kept
