-- Two arbiters and all that was ever sent, step by step (this project's own, docs/RULES.md).
use Rattle.std.specs.Prelude.{◌≡◌, ℕ, cond, List, [], ◌∷◌, ◌++◌, slice_get, Option, Some, None, Result, is_ok}
use Rattle.std.specs.List.{AllByRecursion}
use Rattle.board_core.specs.declared.moves.Move.{Move as Moves}
use Rattle.judge_core.specs.Games.{Rules}
use Rattle.move_msg.specs.declared.stamp.Stamp.{Stamp}
use Rattle.move_msg.specs.declared.arbiter_id.ArbiterId.{ArbiterId}
use Rattle.move_msg.specs.declared.arbiter_id.ArbiterId.TheVariants.{A, B}
use Rattle.move_msg.specs.declared.arbiter_id.Sender.TheVariants.{Source}
use Rattle.move_msg.specs.declared.message.Message.{Message}
use Rattle.move_msg.specs.Messages.{stamp_in}
use Rattle.arbiter_core.specs.declared.fault.DeliverFault.{DeliverFault}
use Rattle.arbiter_core.specs.declared.keeper.Keep.{Keep}
use Rattle.arbiter_core.specs.declared.keeper.Keep.TheVariants.{Good, FailsOld, FailsNew}
use Rattle.arbiter_core.specs.Recording.{Recorded, ReorderBuffer, record_at}
use Rattle.arbiter_core.specs.Answering.{Identity, nothing_waits, request_of, sent_by, Answer, Refuses, Sends, Puts, answer_to, answer_heard}
use Rattle.arbiter_core.specs.Delivers.{heard}
use Rattle.relay_world.specs.declared.event.Event.{Event}
use Rattle.relay_world.specs.declared.event.Event.TheVariants.{Deliver, Noise, Restart, Ask}

-- how an arbiter is
pub data SideLife : Type 0 where
  Closed : SideLife
  Down : SideLife
  -- with the moves that wait; its record is the one that is kept
  Running : (window : ReorderBuffer) → SideLife

-- one arbiter and what its keeper keeps
pub record Side : Type 0 where
  pub kept : Option Recorded
  pub life : SideLife

pub record World : Type 0 where
  pub a : Side
  pub b : Side
  -- every message that was ever sent, in order
  pub log : List Message

-- A game as it is judged: its rules, its stamp and the moves that the source sends.
pub record Judged : Type 0 where
  pub rules : Rules
  pub stamp : Stamp
  pub moves : List Moves

abbrev pub identity : Judged → ArbiterId → Identity
identity game who = record { stamp = game.stamp; who = who }

abbrev pub side_in : World → ArbiterId → Side
side_in world A = world.a
side_in world B = world.b

-- one side changes, and it sends these messages
abbrev pub with_side : World → ArbiterId → Side × List Message → World
with_side world A (side, outputs) = record { a = side; b = world.b; log = world.log ++ outputs }
with_side world B (side, outputs) = record { a = world.a; b = side; log = world.log ++ outputs }

-- a put of the next record: it lands, or it fails and the old or the new record is kept
abbrev pub put : Keep → Option Recorded → Recorded → List Message → ReorderBuffer → Side × List Message
put Good old next outputs window = (record { kept = Some next; life = Running window }, outputs)
put FailsOld old next outputs window = (record { kept = old; life = Down }, [])
put FailsNew old next outputs window = (record { kept = Some next; life = Down }, [])

-- what an answer does to a running arbiter
abbrev pub answered : Keep → Recorded → ReorderBuffer → Answer → Side × List Message
answered keep old window (Refuses fault) = (record { kept = Some old; life = Running window }, [])
answered keep old window (Sends outputs later) = (record { kept = Some old; life = Running later }, outputs)
answered keep old window (Puts next outputs later) = put keep (Some old) next outputs later

-- A side hears something that has this answer where it runs. A closed one and one that is down hear nothing.
abbrev pub hears_at : Keep → Option Recorded → SideLife → (Recorded → ReorderBuffer → Answer) → Side × List Message
hears_at keep (Some old) (Running window) respond = answered keep old window (respond old window)
hears_at keep kept life respond = (record { kept = kept; life = life }, [])

abbrev pub hears : Keep → Side → (Recorded → ReorderBuffer → Answer) → Side × List Message
hears keep side respond = hears_at keep side.kept side.life respond

-- what a running arbiter answers to a datagram
abbrev pub answer_to_datagram : Rules → Identity → List ℕ → Recorded → ReorderBuffer → Answer
answer_to_datagram rules me datagram old window = answer_heard rules me old window (heard me.stamp datagram)

-- an open over nothing kept whose put fails leaves the arbiter closed
abbrev pub opened_side : Keep → Recorded → Side
opened_side Good first = record { kept = Some first; life = Running nothing_waits }
opened_side FailsOld first = record { kept = None; life = Closed }
opened_side FailsNew first = record { kept = Some first; life = Closed }

-- closed, and opened again over what is kept
abbrev pub restarted : Rules → Keep → Option Recorded → Side
restarted rules keep (Some old) = record { kept = Some old; life = Running nothing_waits }
restarted rules keep None = opened_side keep (record_at rules [] 0)

abbrev pub delivered : Judged → World → ArbiterId → Keep → Option Message → World
delivered game world who keep None = world
delivered game world who keep (Some message) =
    with_side world who (hears keep (side_in world who) (λ old window. answer_to game.rules (identity game who) old window message))

abbrev pub listed : Option Message → List Message
listed None = []
listed (Some message) = message ∷ []

-- what an arbiter asks for, which runs
abbrev pub wants : Identity → Option Recorded → SideLife → List Message
wants me (Some old) (Running window) = listed (request_of me old)
wants me (Some old) Closed = []
wants me (Some old) Down = []
wants me None life = []

-- noise that is a message of the game does nothing
abbrev pub noised : Judged → World → ArbiterId → Keep → Result Message DeliverFault → World
noised game world who keep said =
    cond (is_ok said) world
    (with_side world who (hears keep (side_in world who) (λ old window. answer_heard game.rules (identity game who) old window said)))

-- one step: the world after the event
unfoldable pub happens : Judged → World → Event → World
happens game world (Deliver who index keep) = delivered game world who keep (slice_get world.log index)
happens game world (Noise who bytes keep) = noised game world who keep (heard game.stamp bytes.items)
happens game world (Ask who) = with_side world who (side_in world who, wants (identity game who) (side_in world who).kept (side_in world who).life)
happens game world (Restart who keep) = with_side world who (restarted game.rules keep (side_in world who).kept, [])

-- both closed, nothing kept, and the game's moves sent
abbrev pub first_world : Judged → World
first_world game = record { a = record { kept = None; life = Closed }; b = record { kept = None; life = Closed }; log = sent_by game.stamp Source 0 game.moves }

-- the world after a whole schedule
abbrev pub world_after_all : Judged → World → List Event → World
world_after_all game world [] = world
world_after_all game world (event ∷ events) = world_after_all game (happens game world event) events

-- every world of a schedule, one more than its events
abbrev pub worlds : Judged → World → List Event → List World
worlds game world [] = world ∷ []
worlds game world (event ∷ events) = world ∷ worlds game (happens game world event) events

-- every message in the log is of the game
abbrev pub AreStamped : Judged → World → Type 0
AreStamped game world = AllByRecursion (λ m. stamp_in m ≡ game.stamp) world.log
