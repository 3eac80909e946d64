-- What a server over a store makes of a datagram commits nothing.
use Rattle.std.proofs.Common.{◌≡◌, ℕ, Bool, true, false, List, [], ◌∷◌, ◌++◌, Option, Some, None, flat_map, sym, subst}
use Rattle.std.specs.Prelude.{Result, Ok, Err}
use Rattle.std.specs.List.{AllByRecursion}
use Rattle.arbiter_core.specs.Delivers.{Moment, Told}
use Rattle.arbiter_core.specs.Setups.{SetupView}
use Rattle.arbiter_server.specs.Games.{CommonView}
use Rattle.arbiter_server.specs.declared.fault.OpenGameError.{OpenGameError}
use Rattle.arbiter_server.specs.declared.games.GameConfig.{GameConfig}
use Rattle.move_msg.specs.Messages.{stamp_in}
use Rattle.move_msg.specs.declared.message.Message.{Message}
use Rattle.timeline.specs.Events.{Event}
use Rattle.timeline.specs.Outsides.{Outside}
use Rattle.game_folder.specs.Drafts.{DraftView}
use Rattle.game_folder.specs.FolderGames.{FindsInFolder, HadNoPath, Sought}
use Rattle.game_folder.specs.Holdings.{GamesFacts}
use Rattle.game_folder.specs.StoreGames.{HadNoRoom, StoredGames, TakesFromStore, WasNoted, WasRefused, WasSought, store_games_facts}
use Rattle.game_server.specs.Datagrams.{HearsDatagram}
use Rattle.game_server.specs.Fates.{Fate, GoesTo, HasGame, IsAnswered, IsFound, IsOther, IsUnopened, IsUnread, KeepsAnswer, KeptIfAny, NotFound, OpensFor, OpensNone, OpensSeat, SeatNotHeld, SeatOpened, SeatRefused, SeatUnkept, TakesAndOpens, TakesNone, TakesOne}
use Rattle.game_server.specs.Rounds.{Heard, HearsAll, heard_events}
use Rattle.game_server.specs.declared.server.Server.{Server}
use Rattle.served_games.specs.Durable.{made_of}
use Rattle.served_games.specs.StoreRuns.{CommitsNone, NoneCommitted}
use Rattle.served_games.proofs.Enduring.{all_both}

-- ---- what is so of each call is so of a datagram

module _ {G : Type 0} (facts : GamesFacts G) (Q : Event → Type 0)
    (finds_so : (place : facts.Place) (other : List ℕ) (result : Result GameConfig OpenGameError) (events : List Event) → facts.finds place other result events → AllByRecursion Q events)
    (takes_so : (g now : G) (other : List ℕ) (result : Result (Option (List ℕ)) OpenGameError) (events : List Event) → facts.takes g other result events now → AllByRecursion Q events)
    (keeps_so : (g now : G) (other bytes : List ℕ) (is_done : Bool) (events : List Event) → facts.keeps g other bytes is_done events now → AllByRecursion Q events) where
  none_so : (events : List Event) → events ≡ [] → AllByRecursion Q events
  none_so events none = subst (AllByRecursion Q) (sym none) tt

  both_so : (xs ys events : List Event) → events ≡ xs ++ ys → AllByRecursion Q xs → AllByRecursion Q ys → AllByRecursion Q events
  both_so xs ys events are p q = subst (AllByRecursion Q) (sym are) (all_both Q xs ys p q)

  if_any_so : (old new : G) (other : List ℕ) (to_put : Option (List ℕ)) (events : List Event) → KeptIfAny facts old other to_put events new → AllByRecursion Q events
  if_any_so old new other None events h = none_so events h.0
  if_any_so old new other (Some bytes) events h = keeps_so old new other bytes true events h

  answer_so : (old new : G) (other : List ℕ) (told : Told) (to_put : Option (List ℕ)) (is_kept : Bool) (events : List Event) → KeepsAnswer facts old other told to_put is_kept events new → AllByRecursion Q events
  answer_so old new other (Err fault) to_put is_kept events h = none_so events h.0
  answer_so old new other (Ok outputs) None is_kept events h = none_so events h.0
  answer_so old new other (Ok outputs) (Some bytes) is_kept events h = keeps_so old new other bytes is_kept events h

  seat_so : (old new : G) (other : List ℕ) (setup : SetupView) (draft : DraftView) (events : List Event) (told : Result (Moment DraftView) OpenGameError) → OpensSeat facts old other setup draft events told new → AllByRecursion Q events
  seat_so old new other setup draft events told (SeatRefused after fault h none same is) = none_so events none
  seat_so old new other setup draft events told (SeatUnkept after v bytes h put keeps is) = keeps_so old new other bytes false events keeps
  seat_so old new other setup draft events told (SeatNotHeld after v h kept is) = if_any_so old new other after.to_put events kept
  seat_so old new other setup draft events told (SeatOpened after v h kept is) = if_any_so old new other after.to_put events kept

  taking_so : (t : CommonView) (old new : G) (other : List ℕ) (game : GameConfig) (events : List Event) (told : Result (Moment DraftView) OpenGameError) → TakesAndOpens facts t old other game events told new → AllByRecursion Q events
  taking_so t old new other game events told (TakesNone why takes is) = takes_so old new other (Err why) events takes
  taking_so t old new other game events told (TakesOne taken put got mid takes seat are) = both_so taken put events are (takes_so old mid other (Ok got) taken takes) (seat_so mid new other _ _ put told seat)

  opens_so : (t : CommonView) (old new : G) (m : Message) (events : List Event) (told : Result (Moment DraftView) OpenGameError) → OpensFor facts t old m events told new → AllByRecursion Q events
  opens_so t old new m events told (OpensNone opens none same is) = none_so events none
  opens_so t old new m events told (NotFound why opens finds same is) = finds_so (facts.place old) (stamp_in m) (Err why) events finds
  opens_so t old new m events told (IsOther game opens finds not same is) = finds_so (facts.place old) (stamp_in m) (Ok game) events finds
  opens_so t old new m events told (IsFound game looked rest opens finds game_is takes are) =
      both_so looked rest events are (finds_so (facts.place old) (stamp_in m) (Ok game) looked finds) (taking_so t old new (stamp_in m) game rest told takes)

  has_so : (t : CommonView) (old new : G) (m : Message) (was : Option (Moment DraftView)) (events : List Event) (now : Moment DraftView) → HasGame facts t old m was events now new → AllByRecursion Q events
  has_so t old new m (Some x) events now h = none_so events h.1
  has_so t old new m None events now h = opens_so t old new m events (Ok now) h

  goes_so : (t : CommonView) (old new : G) (datagram : List ℕ) (was : Option (Moment DraftView)) (events : List Event) (fate : Fate) → GoesTo facts t old datagram was events fate new → AllByRecursion Q events
  goes_so t old new datagram was events fate (IsUnread fault h none same is) = none_so events none
  goes_so t old new datagram was events fate (IsUnopened m why h none opens is) = opens_so t old new m events (Err why) opens
  goes_so t old new datagram was events fate (IsAnswered m first rest now after answer is_kept mid h has answers are is) =
      both_so first rest events are (has_so t old mid m was first now has) (answer_so mid new (stamp_in m) answer after.keeper.to_put is_kept rest answers.kept)

-- ---- over a store

module _ {T P F K S L : Type 0} (o : Outside T P F K S L) (path stamp : List ℕ) where
  looks_none : (folder other : List ℕ) (result : Result GameConfig OpenGameError) (events : List Event) → FindsInFolder folder other result events → NoneCommitted path stamp events
  looks_none folder other result events (HadNoPath why none) = subst (NoneCommitted path stamp) (sym none) tt
  looks_none folder other result events (Sought got short told one) = subst (NoneCommitted path stamp) (sym one) (tt, tt)

  takes_none : (g : StoredGames S) (its other : List ℕ) (result : Result (Option (List ℕ)) OpenGameError) (events : List Event) → TakesFromStore its g other result events → NoneCommitted path stamp events
  takes_none g its other result events (WasRefused not is none) = subst (NoneCommitted path stamp) (sym none) tt
  takes_none g its other result events (HadNoRoom may is none) = subst (NoneCommitted path stamp) (sym none) tt
  takes_none g its other result events (WasNoted may bytes last is none) = subst (NoneCommitted path stamp) (sym none) tt
  takes_none g its other result events (WasSought may last got is one) = subst (NoneCommitted path stamp) (sym one) (tt, tt)

  one_none : (old new : Server (StoredGames S) F) (h : Heard) → HearsDatagram o (store_games_facts o) old new h.datagram h.reply h.events → NoneCommitted path stamp h.events
  one_none old new h d =
      goes_so (store_games_facts o) (CommitsNone path stamp)
      (λ place other result events finds. looks_none place.folder other result events finds.0)
      (λ g now other result events takes. takes_none g (o.store_path g.store) other result events takes.0)
      (λ g now other bytes is_done events keeps. subst (NoneCommitted path stamp) (sym keeps.0) tt)
      _ old.shared.games new.shared.games h.datagram _ h.events d.fate d.goes

  pub heard_none : (old new : Server (StoredGames S) F) (hs : List Heard) → HearsAll o (store_games_facts o) old hs new → NoneCommitted path stamp (flat_map heard_events hs)
  unfolding HearsAll
  heard_none old new [] p = tt
  heard_none old new (h ∷ hs) p = all_both (CommitsNone path stamp) (heard_events h) (flat_map heard_events hs) (tt, one_none old p.0 h p.1) (heard_none p.0 new hs p.2)

  pub made_none : (old new : Server (StoredGames S) F) (hs : List Heard) → HearsAll o (store_games_facts o) old hs new → NoneCommitted path stamp (flat_map made_of hs)
  unfolding HearsAll
  made_none old new [] p = tt
  made_none old new (h ∷ hs) p = all_both (CommitsNone path stamp) h.events (flat_map made_of hs) (one_none old p.0 h p.1) (made_none p.0 new hs p.2)
