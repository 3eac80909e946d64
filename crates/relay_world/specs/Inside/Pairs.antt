-- Two seats and a log stand for a world.
use Rattle.std.specs.Prelude.{◌≡◌, ℕ, List, []}
use Rattle.move_msg.specs.declared.stamp.Stamp.{Stamp}
use Rattle.move_msg.specs.declared.message.Message.{Message}
use Rattle.move_msg.specs.declared.arbiter_id.ArbiterId.{ArbiterId}
use Rattle.move_msg.specs.declared.arbiter_id.ArbiterId.TheVariants.{A, B}
use Rattle.arbiter_core.specs.declared.keeper.Keep.{Keep}
use Rattle.arbiter_core.specs.Memory.{Memory}
use Rattle.arbiter_core.specs.Setups.{SetupView, rules_at, IsGood, IsIdentity}
use Rattle.relay_world.specs.declared.event.Event.{Event}
use Rattle.relay_world.specs.declared.pair.Pair.{Pair}
use Rattle.relay_world.specs.Headline.{IsRight}
use Rattle.relay_world.specs.Inside.Seats.{PlaceView, StandsForSide}
use Rattle.relay_world.specs.Worlds.{AreStamped, Judged, World, answer_to_datagram, first_world, hears, identity, restarted, side_in, wants, with_side, world_after_all}

-- the setups of A and B are good and of this game
pub record AreSetups (game : Judged) (a b : SetupView) : Type 0 where
  pub rules_a : rules_at a ≡ game.rules
  pub rules_b : rules_at b ≡ game.rules
  pub good_a : IsGood a
  pub good_b : IsGood b
  pub who_a : IsIdentity a (identity game A)
  pub who_b : IsIdentity b (identity game B)

pub record IsWorld (game : Judged) (a b : SetupView) (stamp : Stamp) (place_a : PlaceView) (keeper_a : Memory) (place_b : PlaceView) (keeper_b : Memory) (log : List Message) (world : World) : Type 0 where
  pub stamp_is : stamp ≡ game.stamp
  pub a_stands : StandsForSide (identity game A) a place_a keeper_a world.a
  pub b_stands : StandsForSide (identity game B) b place_b keeper_b world.b
  pub log_is : log ≡ world.log

abbrev pub PairIs : Judged → SetupView → SetupView → Pair → World → Type 0
PairIs game a b p world = IsWorld game a b p.stamp p.first.place p.first.keeper p.second.place p.second.keeper p.log.items world

-- a pair stands for a world of a game, as it can come about
pub record StandsFor (game : Judged) (a b : SetupView) (p : Pair) (world : World) : Type 0 where
  pub setups : AreSetups game a b
  pub right : IsRight game world
  pub stamped : AreStamped game world
  pub is : PairIs game a b p world

-- whatever world the pair stood for, it stands for the one after this step
abbrev pub IsPairAfter : Pair → (Judged → World → World) → Pair → Type 0
IsPairAfter old step new = (game : Judged) (a b : SetupView) (world : World) → StandsFor game a b old world → PairIs game a b new (step game world)

-- whatever it stands for, these messages are what one of the two asks for
abbrev pub IsAsked : Pair → ArbiterId → List Message → Type 0
IsAsked p who asked =
    (game : Judged) (a b : SetupView) (world : World) → StandsFor game a b p world → asked ≡ wants (identity game who) (side_in world who).kept (side_in world who).life

-- ---- steps

-- one of the two hears a datagram
abbrev pub hears_datagram : ArbiterId → Keep → List ℕ → Judged → World → World
hears_datagram who keep datagram game world = with_side world who (hears keep (side_in world who) (answer_to_datagram game.rules (identity game who) datagram))

-- it is opened again
abbrev pub restarts : ArbiterId → Keep → Judged → World → World
restarts who keep game world = with_side world who (restarted game.rules keep (side_in world who).kept, [])

-- it asks for moves
abbrev pub asks : ArbiterId → Judged → World → World
asks who game world = with_side world who (side_in world who, wants (identity game who) (side_in world who).kept (side_in world who).life)

-- a pair stands for the first world of a game
pub record IsBegunFor (game : Judged) (p : Pair) : Type 0 where
  pub a : SetupView
  pub b : SetupView
  pub setups : AreSetups game a b
  pub is : PairIs game a b p (first_world game)

-- where it stood for the first world of a game, it stands for the one after these events
abbrev pub IsAfterAll : Pair → List Event → Pair → Type 0
IsAfterAll old events new = (game : Judged) (a b : SetupView) → AreSetups game a b → PairIs game a b old (first_world game) → PairIs game a b new (world_after_all game (first_world game) events)
