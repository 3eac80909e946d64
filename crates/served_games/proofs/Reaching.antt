-- What a datagram makes of games at a place.
use Rattle.std.proofs.Common.{◌≡◌, ℕ, true, false, List, Option, Some, None, sym, subst}
use Rattle.std.specs.Prelude.{Result, Ok, Err}
use Rattle.arbiter_core.specs.Delivers.{Moment}
use Rattle.arbiter_core.specs.Setups.{SetupView}
use Rattle.arbiter_server.specs.Games.{CommonView}
use Rattle.arbiter_server.specs.declared.fault.OpenGameError.{OpenGameError}
use Rattle.arbiter_server.specs.declared.games.GameConfig.{GameConfig}
use Rattle.move_msg.specs.Messages.{stamp_in}
use Rattle.move_msg.specs.declared.message.Message.{Message}
use Rattle.timeline.specs.Events.{Event}
use Rattle.game_folder.specs.Drafts.{DraftView}
use Rattle.game_folder.specs.Holdings.{GamesFacts}
use Rattle.game_server.specs.Fates.{HasGame, IsFound, IsOther, KeptIfAny, NotFound, OpensFor, OpensNone, OpensSeat, SeatNotHeld, SeatOpened, SeatRefused, SeatUnkept, TakesAndOpens, TakesNone, TakesOne}
use Rattle.served_games.specs.PlaceKeepers.{BehindPut, BehindTake, IsThere}

module _ {G : Type 0} (facts : GamesFacts G) (place : facts.Place) where
  same_there : (old new : G) → new ≡ old → IsThere facts place old → IsThere facts place new
  same_there old new same there = subst (IsThere facts place) (sym same) there

  kept_there : (old new : G) (stamp : List ℕ) (to_put : Option (List ℕ)) (events : List Event) → KeptIfAny facts old stamp to_put events new → IsThere facts place old → IsThere facts place new
  kept_there old new stamp None events h there = same_there old new h.1 there
  kept_there old new stamp (Some bytes) events h there = BehindPut old stamp bytes true events there h

  seat_there : (old new : G) (stamp : List ℕ) (setup : SetupView) (draft : DraftView) (events : List Event) (told : Result (Moment DraftView) OpenGameError) → OpensSeat facts old stamp setup draft events told new → IsThere facts place old → IsThere facts place new
  seat_there old new stamp setup draft events told (SeatRefused after fault h nothing same is) there = same_there old new same there
  seat_there old new stamp setup draft events told (SeatUnkept after v bytes h put keeps is) there = BehindPut old stamp bytes false events there keeps
  seat_there old new stamp setup draft events told (SeatNotHeld after v h kept is) there = kept_there old new stamp after.to_put events kept there
  seat_there old new stamp setup draft events told (SeatOpened after v h kept is) there = kept_there old new stamp after.to_put events kept there

  taking_there : (t : CommonView) (old new : G) (stamp : List ℕ) (game : GameConfig) (events : List Event) (told : Result (Moment DraftView) OpenGameError) → TakesAndOpens facts t old stamp game events told new → IsThere facts place old → IsThere facts place new
  taking_there t old new stamp game events told (TakesNone why takes is) there = BehindTake old stamp (Err why) events there takes
  taking_there t old new stamp game events told (TakesOne first rest got mid takes seat are) there = seat_there mid new stamp _ _ rest told seat (BehindTake old stamp (Ok got) first there takes)

  opens_there : (t : CommonView) (old new : G) (m : Message) (events : List Event) (told : Result (Moment DraftView) OpenGameError) → OpensFor facts t old m events told new → IsThere facts place old → IsThere facts place new
  opens_there t old new m events told (OpensNone opens none same is) there = same_there old new same there
  opens_there t old new m events told (NotFound why opens finds same is) there = same_there old new same there
  opens_there t old new m events told (IsOther game opens finds not same is) there = same_there old new same there
  opens_there t old new m events told (IsFound game first rest opens finds game_is takes are) there = taking_there t old new (stamp_in m) game rest told takes there

  pub has_there : (t : CommonView) (old new : G) (m : Message) (was : Option (Moment DraftView)) (events : List Event) (now : Moment DraftView) → HasGame facts t old m was events now new → IsThere facts place old → IsThere facts place new
  has_there t old new m (Some x) events now h there = same_there old new h.2 there
  has_there t old new m None events now h there = opens_there t old new m events (Ok now) h there
