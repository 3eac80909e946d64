-- A seat stands for a side of a world.
use Rattle.std.specs.Prelude.{◌≡◌, ◌<◌, ℕ, MatchBool, List, length, IfSome, Option, Some, None}
use Rattle.move_msg.specs.declared.message.Message.{Message}
use Rattle.arbiter_core.specs.declared.keeper.Keep.{Keep}
use Rattle.arbiter_core.specs.Answering.{Answer, Identity, Puts, Refuses, Sends}
use Rattle.arbiter_core.specs.Recording.{Recorded, ReorderBuffer}
use Rattle.arbiter_core.specs.Setups.{SetupView, IsGood, IsIdentity, rules_at}
use Rattle.arbiter_core.specs.Views.{View}
use Rattle.arbiter_core.specs.Memory.{Memory}
use Rattle.arbiter_core.specs.Opens.{IsWhole}
use Rattle.relay_world.specs.Worlds.{Side, SideLife, Closed, Down, Running, answer_to_datagram, hears, restarted}
use Rattle.relay_world.specs.Runs.{KeptIs}

-- an arbiter, or what one is opened from
pub data PlaceView : Type 0 where
  Shut : (setup : SetupView) → PlaceView
  Open : (arbiter : View) → PlaceView

pub record SeatView : Type 0 where
  pub place : PlaceView
  pub keeper : Memory

abbrev pub seat : PlaceView → Memory → SeatView
seat place keeper = record { place = place; keeper = keeper }

-- an open arbiter is down, or runs over what is kept
abbrev pub IsOpen : View → Side → Type 0
IsOpen v side = MatchBool v.is_down (side.life ≡ Down) ((side.life ≡ Running v.window) × (side.kept ≡ Some v.kept))

abbrev pub PlaceIs : Identity → SetupView → PlaceView → Side → Type 0
PlaceIs me setup (Shut s) side = (s ≡ setup) × (side.life ≡ Closed)
PlaceIs me setup (Open v) side = (v.setup ≡ setup) × (v.me ≡ me) × IsOpen v side

pub record StandsForSide (me : Identity) (setup : SetupView) (place : PlaceView) (keeper : Memory) (side : Side) : Type 0 where
  pub place_is : PlaceIs me setup place side
  pub kept : KeptIs me.stamp setup.delay keeper.kept side.kept

-- a step of a seat is the step of its side
pub record Steps (me : Identity) (setup : SetupView) (place : PlaceView) (keeper : Memory) (outputs : List Message) (late : Side × List Message) : Type 0 where
  pub stands : StandsForSide me setup place keeper late.0
  pub sent : outputs ≡ late.1

abbrev pub SeatIs : Identity → SetupView → SeatView → Side → Type 0
SeatIs me setup seat side = StandsForSide me setup seat.place seat.keeper side

-- whatever side the seat stood for, this was sent and it stands for the one that heard the datagram
abbrev pub IsDelivered : Keep → List ℕ → SeatView → SeatView → List Message → Type 0
IsDelivered keep datagram old new outputs =
    (me : Identity) (setup : SetupView) (side : Side) → SeatIs me setup old side
    → Steps me setup new.place new.keeper outputs (hears keep side (answer_to_datagram (rules_at setup) me datagram))

-- whatever side with a whole record or none the seat stood for, it stands for the one that was restarted
abbrev pub IsRestarted : Keep → SeatView → SeatView → Type 0
IsRestarted keep old new =
    (me : Identity) (setup : SetupView) (side : Side) → IsGood setup → IsIdentity setup me → IfSome side.kept (IsWhole (rules_at setup)) → SeatIs me setup old side
    → SeatIs me setup new (restarted (rules_at setup) keep side.kept)

-- ---- want of memory

-- an answer takes memory where a record is put, and for more than four messages
abbrev pub AnswerTakesMemory : Answer → Type 0
AnswerTakesMemory (Refuses fault) = ⊥
AnswerTakesMemory (Sends outputs window) = 4 < length outputs
AnswerTakesMemory (Puts next outputs window) = Unit {0}

-- that of a side that runs; a closed one and one that is down take none
abbrev pub TakesAt : Option Recorded → SideLife → (Recorded → ReorderBuffer → Answer) → Type 0
TakesAt (Some old) (Running window) respond = AnswerTakesMemory (respond old window)
TakesAt (Some old) Closed respond = ⊥
TakesAt (Some old) Down respond = ⊥
TakesAt None life respond = ⊥

-- whatever side the seat stood for, the answer to the datagram takes memory, and the seat stands for that side still
abbrev pub IsStarved : List ℕ → SeatView → SeatView → Type 0
IsStarved datagram old new =
    (me : Identity) (setup : SetupView) (side : Side) → SeatIs me setup old side
    → TakesAt side.kept side.life (answer_to_datagram (rules_at setup) me datagram) × SeatIs me setup new side
