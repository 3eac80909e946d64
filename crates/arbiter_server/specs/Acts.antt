-- What a host does, act by act (this project's own).
use Rattle.std.specs.Prelude.{◌++◌, ℕ, Bool, true, false, List, [], ◌∷◌, Option, Some, None, Result, Ok, Err, codes}
use Rattle.std.specs.List.{filter, flat_map}
use Rattle.std.specs.Str.{bytes_eq}
use Rattle.move_msg.specs.declared.message.Message.{Message}
use Rattle.move_msg.specs.declared.message.Message.TheVariants.{Move, Ack, Verdict, Fetch}
use Rattle.move_msg.specs.declared.message.MessageFault.{MessageFault}
use Rattle.move_msg.specs.Messages.{stamp_in}
use Rattle.move_msg.specs.Heard.{heard_in}
use Rattle.arbiter_core.specs.declared.fault.OpenFault.{OpenFault}
use Rattle.arbiter_core.specs.declared.fault.DeliverFault.TheVariants.{NotAMessage}
use Rattle.arbiter_core.specs.Delivers.{Exchange}
use Rattle.arbiter_core.specs.Setups.{SetupView}
use Rattle.arbiter_core.specs.Views.{View}
use Rattle.arbiter_server.specs.ServedLines.{refused_datagram}
use Rattle.arbiter_server.specs.Serving.{line_of, outputs_of}
use Rattle.arbiter_server.specs.declared.fault.OpenGameError.{OpenGameError}
use Rattle.arbiter_server.specs.Told.{stamped, unopened_by, unopened_words}

-- an arbiter of this setup is opened over a keeper, which is so before and after it
pub record Opening (K : Type 0) : Type 0 where
  pub setup : SetupView
  pub before : K
  pub now : K

-- a stamp is named by its bytes
pub data Action (K : Type 0) : Type 0 where
  -- bytes came that are no message
  Unread : (datagram : List ℕ) (fault : MessageFault) → Action K
  -- a message came of a game that isn't open: it opens none, or there is no keeper of the game; `tried` is whether one was asked for over
  -- its file
  Strange : (stamp : List ℕ) (datagram : List ℕ) (tried : Bool) (why : OpenGameError) → Action K
  -- a message came of a game that isn't open, and over its keeper no arbiter can be opened
  Refuses : (stamp : List ℕ) (datagram : List ℕ) (over : Opening K) (fault : OpenFault) → Action K
  -- the arbiter of a game was opened
  Opens : (stamp : List ℕ) (over : Opening K) (arbiter : View) → Action K
  -- a message came of a game that is open, and its arbiter answered
  Answers : (stamp : List ℕ) (exchange : Exchange K) → Action K
  -- the arbiter of a game was closed, and its keeper left so
  Closes : (stamp : List ℕ) (left : K) → Action K

-- ---- whose it is

-- the game that an act is of
abbrev pub game_of : {K : Type 0} → Action K → Option (List ℕ)
game_of (Unread datagram fault) = None
game_of (Strange stamp datagram tried why) = Some stamp
game_of (Refuses stamp datagram over fault) = Some stamp
game_of (Opens stamp over arbiter) = Some stamp
game_of (Answers stamp exchange) = Some stamp
game_of (Closes stamp left) = Some stamp

abbrev pub is_stamp : List ℕ → Option (List ℕ) → Bool
is_stamp stamp None = false
is_stamp stamp (Some other) = bytes_eq other stamp

-- the acts of a game
abbrev pub acts_of : {K : Type 0} → List ℕ → List (Action K) → List (Action K)
acts_of stamp acts = filter (λ act. is_stamp stamp (game_of act)) acts

-- the game that a datagram's message is of, if it is one
abbrev pub stamp_by : Result Message MessageFault → Option (List ℕ)
stamp_by (Ok message) = Some (stamp_in message)
stamp_by (Err fault) = None

abbrev pub stamp_for : List ℕ → Option (List ℕ)
stamp_for datagram = stamp_by (heard_in datagram)

-- ---- for which messages games are opened

-- a move and a request for moves: an acknowledgement and a verdict change no record, and nothing is sent for them
abbrev pub opens_game : Message → Bool
opens_game (Move stamp sender number m) = true
opens_game (Ack stamp who count) = false
opens_game (Verdict stamp who ply verdict) = false
opens_game (Fetch stamp who number wanted) = true

abbrev pub opens_by : Result Message MessageFault → Bool
opens_by (Ok message) = opens_game message
opens_by (Err fault) = false

-- a datagram of such a message
abbrev pub opens_for : List ℕ → Bool
opens_for datagram = opens_by (heard_in datagram)

-- ---- what is answered

-- a datagram that came, the messages that are sent then, and the line that is told
pub record DatagramReply : Type 0 where
  pub datagram : List ℕ
  pub outputs : List Message
  pub line : List ℕ

abbrev pub unread : List ℕ → MessageFault → DatagramReply
unread datagram fault = record { datagram = datagram; outputs = []; line = codes "- " ++ refused_datagram (NotAMessage fault) }

abbrev pub unopened : List ℕ → List ℕ → OpenGameError → DatagramReply
unopened stamp datagram why = record { datagram = datagram; outputs = []; line = stamped stamp (unopened_words why) }

abbrev pub exchange_reply : {K : Type 0} → List ℕ → Exchange K → DatagramReply
exchange_reply stamp e = record { datagram = e.datagram; outputs = outputs_of e.told; line = stamped stamp (line_of e) }

-- the reply that an act is, if a datagram came with it
abbrev pub replies_of : {K : Type 0} → Action K → List DatagramReply
replies_of (Unread datagram fault) = unread datagram fault ∷ []
replies_of (Strange stamp datagram tried why) = unopened stamp datagram why ∷ []
replies_of (Refuses stamp datagram over fault) = unopened stamp datagram (unopened_by fault) ∷ []
replies_of (Opens stamp over arbiter) = []
replies_of (Answers stamp exchange) = exchange_reply stamp exchange ∷ []
replies_of (Closes stamp left) = []

abbrev pub all_replies : {K : Type 0} → List (Action K) → List DatagramReply
all_replies acts = flat_map replies_of acts
