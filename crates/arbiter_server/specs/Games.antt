-- What a game goes through at a host (this project's own).
use Rattle.std.specs.NonZero.{non_zero_usize_get}
use Rattle.std.specs.Prelude.{◌≡◌, ℕ, Bool, true, false, List, [], ◌∷◌, cond, Ok, Err}
use Rattle.board_core.specs.declared.parts.Parts.{Parts}
use Rattle.fen_text.specs.Written.{fen_of}
use Rattle.judge_core.specs.Tables.{Holding}
use Rattle.move_msg.specs.Senders.{who_number}
use Rattle.move_msg.specs.Stamps.{IsGameName, stamp_of}
use Rattle.arbiter_core.specs.Opens.{IsOpening, OpenResult}
use Rattle.arbiter_core.specs.Delivers.{Delivers, Exchange, Moment, moment}
use Rattle.arbiter_core.specs.Setups.{SetupView}
use Rattle.arbiter_server.specs.declared.config.ServerConfig.{ServerConfig}
use Rattle.arbiter_server.specs.declared.fault.OpenGameError.{OpenGameError}
use Rattle.arbiter_server.specs.declared.fault.OpenGameError.TheVariants.{NotOpen, OtherGame}
use Rattle.arbiter_server.specs.declared.games.GameConfig.{GameConfig}
use Rattle.arbiter_server.specs.Folders.{Keepers}
use Rattle.arbiter_server.specs.Acts.{Action, Unread, Strange, Refuses, Opens, Answers, Closes, Opening, opens_for}

-- what all games of a host have in common
pub record CommonView : Type 0 where
  pub manifest : List ℕ
  pub number : ℕ
  pub set : Holding
  -- how many are open at once, at most
  pub at_once : ℕ
  -- how many datagrams are answered together, at most
  pub together : ℕ

abbrev pub common_with : ServerConfig → Holding → CommonView
common_with c set = record { manifest = c.manifest.now; number = who_number c.me; set = set; at_once = non_zero_usize_get c.at_once; together = non_zero_usize_get c.together }

abbrev pub setup_of : CommonView → List ℕ → Parts → ℕ → SetupView
setup_of t name start delay = record { name = name; start = start; manifest = t.manifest; me = t.number; delay = delay; set = t.set }

-- by tables with this manifest a game of this name, start and delay has this stamp
pub record IsGameOf (manifest stamp name : List ℕ) (start : Parts) (delay : ℕ) : Type 0 where
  pub is_name : IsGameName name
  pub stamped : stamp ≡ stamp_of name (fen_of start) manifest delay

-- it is the setup of the game with this stamp
pub record IsSetupOfStamp (t : CommonView) (stamp : List ℕ) (setup : SetupView) : Type 0 where
  pub common : setup ≡ setup_of t setup.name setup.start setup.delay
  pub game : IsGameOf t.manifest stamp setup.name setup.start setup.delay

-- why there is no keeper of a game: the folder refuses it so, or what it tells of it is no game or another one
pub data LacksKeeper {K : Type 0} (s : Keepers K) (manifest stamp : List ℕ) (why : OpenGameError) : Type 0 where
  IsRefused : s.refuses stamp why → LacksKeeper s manifest stamp why
  IsAnother : (game : GameConfig) → s.tells stamp game → (IsGameOf manifest stamp game.name.items game.start game.delay → ⊥) → why ≡ OtherGame → LacksKeeper s manifest stamp why

-- the folder tells a game that has this stamp
pub record TellsGame {K : Type 0} (s : Keepers K) (manifest stamp : List ℕ) : Type 0 where
  pub game : GameConfig
  pub told : s.tells stamp game
  pub is : IsGameOf manifest stamp game.name.items game.start game.delay

-- why a message of a game that isn't open gets no arbiter: it opens none; or it would, and there is no keeper of the game, or, where its
-- file was opened, which the folder tells, none over that
abbrev pub IsStrange : {K : Type 0} → Keepers K → List ℕ → List ℕ → Bool → Bool → OpenGameError → Type 0
IsStrange s manifest stamp false tried why = (why ≡ NotOpen) × (tried ≡ false)
IsStrange s manifest stamp true false why = LacksKeeper s manifest stamp why
IsStrange s manifest stamp true true why = s.withholds stamp why × TellsGame s manifest stamp

-- where the arbiter of a game is
pub data GameStatus (K : Type 0) : Type 0 where
  -- it was never opened
  Fresh : GameStatus K
  -- it is closed, and its keeper left so
  Shut : (left : K) → GameStatus K
  -- it is open
  Open : (at : Moment K) → GameStatus K

abbrev pub IsNotOpen : {K : Type 0} → GameStatus K → Type 0
IsNotOpen Fresh = Unit {0}
IsNotOpen (Shut left) = Unit {0}
IsNotOpen (Open at) = ⊥

-- a keeper over which it may be opened: one of this game, and over what was left
abbrev pub IsOver : {K : Type 0} → Keepers K → List ℕ → GameStatus K → K → Type 0
IsOver s stamp Fresh keeper = s.is_of stamp keeper
IsOver s stamp (Shut left) keeper = s.is_of stamp keeper × s.follows left keeper
IsOver s stamp (Open at) keeper = ⊥

abbrev pub life_after : {K : Type 0} → K → OpenResult → GameStatus K
life_after now (Ok arbiter) = Open (moment arbiter now)
life_after now (Err fault) = Shut now

-- under the stamp the folder tells a game of this name, start and delay
pub record IsToldAs {K : Type 0} (s : Keepers K) (stamp : List ℕ) (setup : SetupView) : Type 0 where
  pub game : GameConfig
  pub told : s.tells stamp game
  pub name : setup.name ≡ game.name.items
  pub start : setup.start ≡ game.start
  pub delay : setup.delay ≡ game.delay

pub record OpensTo {K : Type 0} (s : Keepers K) (t : CommonView) (stamp : List ℕ) (old : GameStatus K) (o : Opening K) (told : OpenResult) (new : GameStatus K) : Type 0 where
  pub over : IsOver s stamp old o.before
  pub tells : IsToldAs s stamp o.setup
  pub game : IsSetupOfStamp t stamp o.setup
  pub opening : IsOpening s.facts o.setup o.before o.now told
  pub new_is : new ≡ life_after o.now told

-- an arbiter whose keeper failed is closed at once
abbrev pub life_at : {K : Type 0} → Moment K → GameStatus K
life_at at = cond at.arbiter.is_down (Shut at.keeper) (Open at)

-- a delivery begins where the one before it, or the opening, left the arbiter and its keeper
abbrev pub AnswersTo : {K : Type 0} → Keepers K → GameStatus K → Exchange K → GameStatus K → Type 0
AnswersTo s Fresh e new = ⊥
AnswersTo s (Shut left) e new = ⊥
AnswersTo s (Open at) e new = Delivers s.facts at e × (new ≡ life_at e.after)

-- closing an arbiter does nothing to its keeper
abbrev pub ClosesTo : {K : Type 0} → GameStatus K → K → GameStatus K → Type 0
ClosesTo Fresh left new = ⊥
ClosesTo (Shut before) left new = ⊥
ClosesTo (Open at) left new = (left ≡ at.keeper) × (new ≡ Shut left)

-- one act of a game
abbrev pub GoesByAct : {K : Type 0} → Keepers K → CommonView → List ℕ → GameStatus K → Action K → GameStatus K → Type 0
GoesByAct s t stamp old (Unread datagram fault) new = ⊥
GoesByAct s t stamp old (Strange of datagram tried why) new = IsNotOpen old × IsStrange s t.manifest stamp (opens_for datagram) tried why × (new ≡ old)
GoesByAct s t stamp old (Refuses of datagram o fault) new = OpensTo s t stamp old o (Err fault) new
GoesByAct s t stamp old (Opens of o arbiter) new = OpensTo s t stamp old o (Ok arbiter) new
GoesByAct s t stamp old (Answers of e) new = AnswersTo s old e new
GoesByAct s t stamp old (Closes of left) new = ClosesTo old left new

-- acts of a game in turn
abbrev pub Goes : {K : Type 0} → Keepers K → CommonView → List ℕ → GameStatus K → List (Action K) → GameStatus K → Type 0
Goes s t stamp old [] new = new ≡ old
Goes {K = K} s t stamp old (act ∷ acts) new = (mid : GameStatus K) × GoesByAct s t stamp old act mid × Goes s t stamp mid acts new
