-- What a taking may find of a game behind a run, where records are kept in order.
use Rattle.std.proofs.Common.{◌≡◌, inl, ◌∙◌, ℕ, Bool, true, false, cond, List, [], ◌∷◌, ◌++◌, Option, Some, None, flat_map, refl, sym, ap, subst, append-nil}
use Rattle.std.specs.Prelude.{Result, Ok, Err}
use Rattle.std.specs.Str.{bytes_eq}
use Rattle.std.proofs.lemmas.List.Concat.{flat_map-append}
use Rattle.arbiter_core.specs.Delivers.{Moment, Told}
use Rattle.arbiter_core.specs.Setups.{SetupView}
use Rattle.arbiter_server.specs.Acts.{Action, Opening, Unread, Strange, Refuses, Opens, Answers, Closes}
use Rattle.arbiter_server.specs.Games.{CommonView, Fresh, Open, Shut}
use Rattle.arbiter_server.specs.declared.fault.OpenGameError.{OpenGameError}
use Rattle.arbiter_server.specs.declared.fault.Uncommitted.{Uncommitted}
use Rattle.arbiter_server.specs.declared.games.GameConfig.{GameConfig}
use Rattle.move_msg.specs.Heard.{heard_in}
use Rattle.move_msg.specs.Messages.{stamp_in}
use Rattle.move_msg.specs.declared.message.Message.{Message}
use Rattle.system_io.specs.declared.recipient.Recipient.{Recipient}
use Rattle.timeline.specs.Events.{Came, Event, Missed}
use Rattle.timeline.specs.Outsides.{Outside}
use Rattle.game_folder.specs.Drafts.{DraftView}
use Rattle.game_folder.specs.Holdings.{GamesFacts, without_value}
use Rattle.game_folder.specs.Places.{KeptAt}
use Rattle.game_server.specs.Datagrams.{HearsDatagram, IsNotOf, was_open}
use Rattle.game_server.specs.Fates.{Fate, GoesTo, HasGame, IsAnswered, IsFound, IsOther, IsUnopened, IsUnread, KeepsAnswer, KeptIfAny, NotFound, OpensFor, OpensNone, OpensSeat, SeatNotHeld, SeatOpened, SeatRefused, SeatUnkept, TakesAndOpens, TakesNone, TakesOne}
use Rattle.game_server.specs.Printing.{LineForm, after_lines}
use Rattle.game_server.specs.Rounds.{Heard, HearsAll, IsRound, Round, end_events, heard_events, round_events, round_sent}
use Rattle.game_server.specs.Runs.{Answers as AnswersRound, Deed, HearsNone, InTurns, IsDeed, Turn, deed_events, deed_lines, run_events, turn_events}
use Rattle.game_server.specs.Seats.{common}
use Rattle.game_server.specs.declared.server.Server.{Server}
use Rattle.served_games.specs.Durable.{IsDurableAfter, MayFind, StaysFound, behind, left_before}
use Rattle.served_games.specs.InOrder.{CommitsAreFound, FindsNoMore, GamesAreTaken, FindsItsOwn, KeepsInOrder, TakenGame, events_to_commit}
use Rattle.served_games.specs.PlaceKeepers.{Follows, PlaceKeeper, found_keeper}
use Rattle.served_games.specs.ServedGames.{AreOverLeft, IsAt, IsOverLeft, IsPut, NothingPut, OpensOverLeft, PlaysAll, PutFails, PutsBy, all_acts, game_at, heard_by, heard_in_turns, is_for, life_by, life_through, made_for, reply_for}
use Rattle.served_games.proofs.Asides.{aside_one, asides, end_aside, lines_aside, round_aside}
use Rattle.served_games.proofs.Finding.{behind_join, durable_first, durable_rest, follows_kept, left_act, left_acts, over_join}
use Rattle.served_games.proofs.Following.{not_of}
use Rattle.served_games.proofs.Going.{Acts, Life, played_are_hosted, plays_join}
use Rattle.served_games.proofs.InTurn.{Look, LooksIn, MakesIn, MakesInTurn, NoLook, NoTake, OpensIn}
use Rattle.served_games.proofs.Playing.{Next}
use Rattle.served_games.proofs.Running.{StaysServer, played_one, same_game, stays_all, stays_by, stays_on, stays_one, turns_stay}

pub found_less : (now was : Option (List ℕ) → Type 0) (before : PlaceKeeper) (life : Life) → FindsNoMore now was → FindsItsOwn was before life → FindsItsOwn now before life
found_less now was before Fresh less h = λ found m. h found (less found m)
found_less now was before (Shut left) less h = λ found m. h found (less found m)
found_less now was before (Open at) less h = λ found m. h found (less found m)

module _ {G : Type 0} (facts : GamesFacts G) (IsFit : G → Type 0) (May : G → List ℕ → List Event → Option (List ℕ) → Type 0) (order : KeepsInOrder facts IsFit May) (stamp : List ℕ) where
  no_event : (g now : G) (past events : List Event) → events ≡ [] → now ≡ g → FindsNoMore (May now stamp (behind past events)) (May g stamp past)
  no_event g now past events none same found m = subst (λ (x : G). May x stamp past found) same (subst (λ (l : List Event). May now stamp (behind past l) found) none m)

  -- one call after another
  both : (g mid now : G) (past xs ys events : List Event) → events ≡ xs ++ ys → FindsNoMore (May mid stamp (behind past xs)) (May g stamp past) → FindsNoMore (May now stamp (behind (behind past xs) ys)) (May mid stamp (behind past xs)) → FindsNoMore (May now stamp (behind past events)) (May g stamp past)
  both g mid now past xs ys events are p q found m = p found (q found (subst (λ (l : List Event). May now stamp l found) (ap (behind past) are ∙ behind_join past xs ys) m))

  finds_less : (place : facts.Place) (g now : G) (other : List ℕ) (result : Result GameConfig OpenGameError) (events past : List Event) → facts.place g ≡ place → facts.finds place other result events → now ≡ g → FindsNoMore (May now stamp (behind past events)) (May g stamp past)
  finds_less place g now other result events past there finds same found m =
      order.finds g stamp other result events past (subst (λ (x : facts.Place). facts.finds x other result events) (sym there) finds) found (subst (λ (x : G). May x stamp (behind past events) found) same m)

  -- ---- a datagram of another game

  module _ (other : List ℕ) (apart : bytes_eq other stamp ≡ false) where
    if_any_less : (old new : G) (past : List Event) (to_put : Option (List ℕ)) (events : List Event) → KeptIfAny facts old other to_put events new → FindsNoMore (May new stamp (behind past events)) (May old stamp past)
    if_any_less old new past None events h = no_event old new past events h.0 h.1
    if_any_less old new past (Some bytes) events h = order.keeps_apart old new stamp other bytes apart true events past h

    answer_less : (old new : G) (past : List Event) (told : Told) (to_put : Option (List ℕ)) (is_kept : Bool) (events : List Event) → KeepsAnswer facts old other told to_put is_kept events new → FindsNoMore (May new stamp (behind past events)) (May old stamp past)
    answer_less old new past (Err fault) to_put is_kept events h = no_event old new past events h.0 h.1
    answer_less old new past (Ok outputs) None is_kept events h = no_event old new past events h.0 h.1
    answer_less old new past (Ok outputs) (Some bytes) is_kept events h = order.keeps_apart old new stamp other bytes apart is_kept events past h

    seat_less : (old new : G) (past : List Event) (setup : SetupView) (draft : DraftView) (events : List Event) (told : Result (Moment DraftView) OpenGameError) → OpensSeat facts old other setup draft events told new → FindsNoMore (May new stamp (behind past events)) (May old stamp past)
    seat_less old new past setup draft events told (SeatRefused after fault h none same is) = no_event old new past events none same
    seat_less old new past setup draft events told (SeatUnkept after v bytes h put keeps is) = order.keeps_apart old new stamp other bytes apart false events past keeps
    seat_less old new past setup draft events told (SeatNotHeld after v h kept is) = if_any_less old new past after.to_put events kept
    seat_less old new past setup draft events told (SeatOpened after v h kept is) = if_any_less old new past after.to_put events kept

    taking_less : (t : CommonView) (old new : G) (past : List Event) (game : GameConfig) (events : List Event) (told : Result (Moment DraftView) OpenGameError) → TakesAndOpens facts t old other game events told new → FindsNoMore (May new stamp (behind past events)) (May old stamp past)
    taking_less t old new past game events told (TakesNone why takes is) = order.takes_apart old new stamp other apart (Err why) events past takes
    taking_less t old new past game events told (TakesOne taken put got mid takes seat are) =
        both old mid new past taken put events are (order.takes_apart old mid stamp other apart (Ok got) taken past takes) (seat_less mid new (behind past taken) _ _ put told seat)

  opens_less : (t : CommonView) (old new : G) (m : Message) → bytes_eq (stamp_in m) stamp ≡ false → (past events : List Event) (told : Result (Moment DraftView) OpenGameError) → OpensFor facts t old m events told new → FindsNoMore (May new stamp (behind past events)) (May old stamp past)
  opens_less t old new m apart past events told (OpensNone opens none same is) = no_event old new past events none same
  opens_less t old new m apart past events told (NotFound why opens finds same is) = finds_less (facts.place old) old new (stamp_in m) (Err why) events past refl finds same
  opens_less t old new m apart past events told (IsOther game opens finds not same is) = finds_less (facts.place old) old new (stamp_in m) (Ok game) events past refl finds same
  opens_less t old new m apart past events told (IsFound game looked rest opens finds game_is takes are) =
      both old old new past looked rest events are (finds_less (facts.place old) old old (stamp_in m) (Ok game) looked past refl finds refl) (taking_less (stamp_in m) apart t old new (behind past looked) game rest told takes)

  has_less : (t : CommonView) (old new : G) (m : Message) → bytes_eq (stamp_in m) stamp ≡ false → (past events : List Event) (was : Option (Moment DraftView)) (now : Moment DraftView) → HasGame facts t old m was events now new → FindsNoMore (May new stamp (behind past events)) (May old stamp past)
  has_less t old new m apart past events (Some x) now h = no_event old new past events h.1 h.2
  has_less t old new m apart past events None now h = opens_less t old new m apart past events (Ok now) h

  other_less : (t : CommonView) (old new : G) (datagram : List ℕ) (was : Option (Moment DraftView)) (events past : List Event) (fate : Fate) → IsNotOf stamp (heard_in datagram) → GoesTo facts t old datagram was events fate new → FindsNoMore (May new stamp (behind past events)) (May old stamp past)
  other_less t old new datagram was events past fate not (IsUnread fault h none same is) = no_event old new past events none same
  other_less t old new datagram was events past fate not (IsUnopened m why h none opens is) = opens_less t old new m (subst (IsNotOf stamp) h not) past events (Err why) opens
  other_less t old new datagram was events past fate not (IsAnswered m first rest now after answer is_kept mid h has answers are is) =
      let apart : bytes_eq (stamp_in m) stamp ≡ false = subst (IsNotOf stamp) h not in
      both old mid new past first rest events are (has_less t old mid m apart past first was now has) (answer_less (stamp_in m) apart mid new (behind past first) answer after.keeper.to_put is_kept rest answers.kept)

  -- ---- the game's own acts

  module _ (place : facts.Place) (before : PlaceKeeper) where
    abbrev at : KeptAt
    at = facts.places place stamp

    -- what may be found, while more can be committed
    abbrev Found : G → Life → List Event → Type 0
    Found games life past = IsFit games → FindsItsOwn (May games stamp past) before life

    puts_fit : (games now : G) (k after : PlaceKeeper) (events : List Event) → PutsBy facts place stamp games k after events now → IsFit now → IsFit games
    puts_fit games now k after events (NothingPut same none still) fit = subst IsFit still fit
    puts_fit games now k after events (IsPut bytes keeps is) fit = order.keeps_fit games now stamp bytes true events keeps fit
    puts_fit games now k after events (PutFails bytes keeps is) fit = order.keeps_fit games now stamp bytes false events keeps fit

    puts_place : (games now : G) (k after : PlaceKeeper) (events : List Event) → PutsBy facts place stamp games k after events now → facts.place now ≡ facts.place games
    puts_place games now k after events (NothingPut same none still) = ap (λ (x : G). facts.place x) still
    puts_place games now k after events (IsPut bytes keeps is) = order.keeps_stay games now stamp bytes true events keeps
    puts_place games now k after events (PutFails bytes keeps is) = order.keeps_stay games now stamp bytes false events keeps

    puts_taken : (games now : G) (past events : List Event) (k after : PlaceKeeper) → PutsBy facts place stamp games k after events now → ((found : Option (List ℕ)) → May games stamp past found → found ≡ k.kept) → (found : Option (List ℕ)) → May now stamp (behind past events) found → Follows after (found_keeper found)
    puts_taken games now past events k after (NothingPut same none still) h found m = inl (h found (no_event games now past events none still found m) ∙ ap (λ (x : PlaceKeeper). x.kept) (sym same))
    puts_taken games now past events k after (IsPut bytes keeps is) h found m = inl (order.keeps games now stamp bytes events past keeps found m ∙ ap (λ (x : PlaceKeeper). x.kept) (sym is))
    puts_taken games now past events k after (PutFails bytes keeps is) h found m = inl (h found (order.fails games now stamp bytes events past keeps found m) ∙ ap (λ (x : PlaceKeeper). x.kept) (sym is))

    record OpensTaken (games now : G) (past events : List Event) (o : Opening PlaceKeeper) : Type 0 where
      fits : IsFit games
      over : May games stamp past o.before.kept
      found : (found : Option (List ℕ)) → May now stamp (behind past events) found → Follows o.now (found_keeper found)
      stays : facts.place now ≡ place

    opens_taken : (games now : G) → facts.place games ≡ place → (past events : List Event) (o : Opening PlaceKeeper) → OpensIn facts place stamp games o events now → IsDurableAfter at stamp past events → OpensTaken games now past events o
    opens_taken games now there past events o b durable =
        let all : IsDurableAfter at stamp past (b.looked ++ (b.taken ++ b.put)) = subst (IsDurableAfter at stamp past) b.are durable in
        let after : IsDurableAfter at stamp (behind past b.looked) b.taken = durable_first at stamp (behind past b.looked) b.taken b.put (durable_rest at stamp past b.looked (b.taken ++ b.put) all) in
        let taken = order.takes games b.mid stamp o.before.kept b.taken (behind past b.looked) b.takes (subst (λ (x : facts.Place). IsDurableAfter (facts.places x stamp) stamp (behind past b.looked) b.taken) (sym there) after) in
        let joined : behind past events ≡ behind (behind (behind past b.looked) b.taken) b.put = ap (behind past) b.are ∙ behind_join past b.looked (b.taken ++ b.put) ∙ behind_join (behind past b.looked) b.taken b.put in
        record {
          fits = taken.0;
          over = finds_less place games games stamp (Ok b.game) b.looked past there b.finds refl o.before.kept taken.1;
          found = λ found m. puts_taken b.mid now (behind (behind past b.looked) b.taken) b.put o.before o.now b.puts taken.2 found (subst (λ (l : List Event). May now stamp l found) joined m);
          stays = puts_place b.mid now o.before o.now b.put b.puts ∙ order.takes_stay games b.mid stamp (Ok o.before.kept) b.taken b.takes ∙ there;
        }

    opens_fit : (games now : G) (events : List Event) (o : Opening PlaceKeeper) → OpensIn facts place stamp games o events now → IsFit now → IsFit games
    opens_fit games now events o b fit = order.takes_fit games b.mid stamp (Ok o.before.kept) b.taken b.takes (puts_fit b.mid now o.before o.now b.put b.puts fit)

    is_over : (games : G) (past : List Event) (old : Life) (next : PlaceKeeper) → FindsItsOwn (May games stamp past) before old → May games stamp past next.kept → IsOverLeft (left_before before old) next
    is_over games past Fresh next h m = h next.kept m
    is_over games past (Shut left) next h m = h next.kept m
    is_over games past (Open now) next h m = tt

    -- where nothing is taken
    record LooksLess (games now : G) (past events : List Event) : Type 0 where
      less : FindsNoMore (May now stamp (behind past events)) (May games stamp past)
      fit : IsFit now → IsFit games
      stays : facts.place now ≡ place

    looks_less : (games now : G) → facts.place games ≡ place → (past events : List Event) → LooksIn facts place stamp games events now → IsDurableAfter at stamp past events → LooksLess games now past events
    looks_less games now there past events (NoLook none same) durable = record { less = no_event games now past events none same; fit = subst IsFit same; stays = ap (λ (x : G). facts.place x) same ∙ there }
    looks_less games now there past events (Look result finds same) durable = record { less = finds_less place games now stamp result events past there finds same; fit = subst IsFit same; stays = ap (λ (x : G). facts.place x) same ∙ there }
    looks_less games now there past events (NoTake game looked taken why finds takes are) durable =
        let after : IsDurableAfter at stamp (behind past looked) taken = durable_rest at stamp past looked taken (subst (IsDurableAfter at stamp past) are durable) in
        record {
          less =
              both games games now past looked taken events are (finds_less place games games stamp (Ok game) looked past there finds refl)
              (order.withholds games now stamp why taken (behind past looked) takes (subst (λ (x : facts.Place). IsDurableAfter (facts.places x stamp) stamp (behind past looked) taken) (sym there) after));
          fit = order.takes_fit games now stamp (Err why) taken takes;
          stays = order.takes_stay games now stamp (Err why) taken takes ∙ there;
        }

    record ActTaken (games now : G) (past events : List Event) (old : Life) (act : Action PlaceKeeper) : Type 0 where
      over : OpensOverLeft (left_before before old) act
      found : Found now (life_by old act) (behind past events)
      stays : facts.place now ≡ place

    answered_found : (games now : G) (past events : List Event) (here after : Moment PlaceKeeper) → PutsBy facts place stamp games here.keeper after.keeper events now → (after.arbiter.is_down ≡ false → after.keeper.unkept ≡ None) → FindsItsOwn (May games stamp past) before (Open here) → (b : Bool) → after.arbiter.is_down ≡ b → FindsItsOwn (May now stamp (behind past events)) before (cond b (Shut after.keeper) (Open after))
    answered_found games now past events here after puts up h true is = λ found m. puts_taken games now past events here.keeper after.keeper puts h found m
    answered_found games now past events here after puts up h false is = λ found m. follows_kept after.keeper found (up is) (puts_taken games now past events here.keeper after.keeper puts h found m)

    closed_found : (games now : G) (past events : List Event) (here : Moment PlaceKeeper) (left : PlaceKeeper) → left ≡ here.keeper → events ≡ [] → now ≡ games → FindsItsOwn (May games stamp past) before (Open here) → FindsItsOwn (May now stamp (behind past events)) before (Shut left)
    closed_found games now past events here left is none same h = λ found m. inl (h found (no_event games now past events none same found m) ∙ ap (λ (x : PlaceKeeper). x.kept) (sym is))

    act_taken : (games now : G) → facts.place games ≡ place → (past events : List Event) (old : Life) (act : Action PlaceKeeper) → MakesIn facts place stamp games old act events now → IsDurableAfter at stamp past events → Found games old past → ActTaken games now past events old act
    act_taken games now there past events old (Unread datagram fault) m durable h = absurd m
    act_taken games now there past events old (Strange of datagram tried why) m durable h =
        let l = looks_less games now there past events m durable in
        record { over = tt; found = λ fit. found_less (May now stamp (behind past events)) (May games stamp past) before old l.less (h (l.fit fit)); stays = l.stays }
    act_taken games now there past events old (Refuses of datagram o fault) m durable h =
        let x = opens_taken games now there past events o m durable in
        record { over = is_over games past old o.before (h x.fits) x.over; found = λ fit. x.found; stays = x.stays }
    act_taken games now there past events old (Opens of o arbiter) m durable h =
        let x = opens_taken games now there past events o m.0 durable in
        record { over = is_over games past old o.before (h x.fits) x.over; found = λ fit found may. follows_kept o.now found m.1 (x.found found may); stays = x.stays }
    act_taken games now there past events Fresh (Answers of e) m durable h = absurd m
    act_taken games now there past events (Shut left) (Answers of e) m durable h = absurd m
    act_taken games now there past events (Open here) (Answers of e) m durable h = record {
      over = tt;
      found = λ fit. answered_found games now past events here e.after m.0 m.1 (h (puts_fit games now here.keeper e.after.keeper events m.0 fit)) e.after.arbiter.is_down refl;
      stays = puts_place games now here.keeper e.after.keeper events m.0 ∙ there;
    }
    act_taken games now there past events Fresh (Closes of left) m durable h = absurd m.0
    act_taken games now there past events (Shut was) (Closes of left) m durable h = absurd m.0
    act_taken games now there past events (Open here) (Closes of left) m durable h = record {
      over = tt;
      found = λ fit. closed_found games now past events here left m.0.0 m.0.1 m.1 (h (subst IsFit m.1 fit));
      stays = ap (λ (x : G). facts.place x) m.1 ∙ there;
    }

    record ActsTaken (games now : G) (past events : List Event) (old : Life) (acts : Acts) : Type 0 where
      over : AreOverLeft (left_before before old) acts
      found : Found now (life_through old acts) (behind past events)

    acts_taken : (games now : G) → facts.place games ≡ place → (past events : List Event) (old : Life) (acts : Acts) → MakesInTurn facts place stamp games old acts events now → IsDurableAfter at stamp past events → Found games old past → ActsTaken games now past events old acts
    acts_taken games now there past events old [] m durable h = record { over = tt; found = λ fit. found_less (May now stamp (behind past events)) (May games stamp past) before old (no_event games now past events m.0 m.1) (h (subst IsFit m.1 fit)) }
    acts_taken games now there past events old (act ∷ acts) m durable h =
        let both_durable : IsDurableAfter at stamp past (m.0 ++ m.1) = subst (IsDurableAfter at stamp past) m.3 durable in
        let one = act_taken games m.2 there past m.0 old act m.4 (durable_first at stamp past m.0 m.1 both_durable) h in
        let rest = acts_taken m.2 now one.stays (behind past m.0) m.1 (life_by old act) acts m.5 (durable_rest at stamp past m.0 m.1 both_durable) one.found in
        record {
          over = (one.over, subst (λ (l : Life). AreOverLeft l acts) (sym (left_act before old act)) rest.over);
          found = λ fit. subst (λ (l : List Event). FindsItsOwn (May now stamp l) before (life_through (life_by old act) acts)) (sym (ap (behind past) m.3 ∙ behind_join past m.0 m.1)) (rest.found fit);
        }

  -- ---- what a datagram leaves fit

  kept_fit : (old new : G) (other : List ℕ) (to_put : Option (List ℕ)) (events : List Event) → KeptIfAny facts old other to_put events new → IsFit new → IsFit old
  kept_fit old new other None events h fit = subst IsFit h.1 fit
  kept_fit old new other (Some bytes) events h fit = order.keeps_fit old new other bytes true events h fit

  answer_fit : (old new : G) (other : List ℕ) (told : Told) (to_put : Option (List ℕ)) (is_kept : Bool) (events : List Event) → KeepsAnswer facts old other told to_put is_kept events new → IsFit new → IsFit old
  answer_fit old new other (Err fault) to_put is_kept events h fit = subst IsFit h.1 fit
  answer_fit old new other (Ok outputs) None is_kept events h fit = subst IsFit h.1 fit
  answer_fit old new other (Ok outputs) (Some bytes) is_kept events h fit = order.keeps_fit old new other bytes is_kept events h fit

  seat_fit : (old new : G) (other : List ℕ) (setup : SetupView) (draft : DraftView) (events : List Event) (told : Result (Moment DraftView) OpenGameError) → OpensSeat facts old other setup draft events told new → IsFit new → IsFit old
  seat_fit old new other setup draft events told (SeatRefused after fault h none same is) fit = subst IsFit same fit
  seat_fit old new other setup draft events told (SeatUnkept after v bytes h put keeps is) fit = order.keeps_fit old new other bytes false events keeps fit
  seat_fit old new other setup draft events told (SeatNotHeld after v h kept is) fit = kept_fit old new other after.to_put events kept fit
  seat_fit old new other setup draft events told (SeatOpened after v h kept is) fit = kept_fit old new other after.to_put events kept fit

  taking_fit : (t : CommonView) (old new : G) (other : List ℕ) (game : GameConfig) (events : List Event) (told : Result (Moment DraftView) OpenGameError) → TakesAndOpens facts t old other game events told new → IsFit new → IsFit old
  taking_fit t old new other game events told (TakesNone why takes is) fit = order.takes_fit old new other (Err why) events takes fit
  taking_fit t old new other game events told (TakesOne taken put got mid takes seat are) fit = order.takes_fit old mid other (Ok got) taken takes (seat_fit mid new other _ _ put told seat fit)

  opens_fit_for : (t : CommonView) (old new : G) (m : Message) (events : List Event) (told : Result (Moment DraftView) OpenGameError) → OpensFor facts t old m events told new → IsFit new → IsFit old
  opens_fit_for t old new m events told (OpensNone opens none same is) fit = subst IsFit same fit
  opens_fit_for t old new m events told (NotFound why opens finds same is) fit = subst IsFit same fit
  opens_fit_for t old new m events told (IsOther game opens finds not same is) fit = subst IsFit same fit
  opens_fit_for t old new m events told (IsFound game looked rest opens finds game_is takes are) fit = taking_fit t old new (stamp_in m) game rest told takes fit

  has_fit : (t : CommonView) (old new : G) (m : Message) (was : Option (Moment DraftView)) (events : List Event) (now : Moment DraftView) → HasGame facts t old m was events now new → IsFit new → IsFit old
  has_fit t old new m (Some x) events now h fit = subst IsFit h.2 fit
  has_fit t old new m None events now h fit = opens_fit_for t old new m events (Ok now) h fit

  goes_fit : (t : CommonView) (old new : G) (datagram : List ℕ) (was : Option (Moment DraftView)) (events : List Event) (fate : Fate) → GoesTo facts t old datagram was events fate new → IsFit new → IsFit old
  goes_fit t old new datagram was events fate (IsUnread fault h none same is) fit = subst IsFit same fit
  goes_fit t old new datagram was events fate (IsUnopened m why h none opens is) fit = opens_fit_for t old new m events (Err why) opens fit
  goes_fit t old new datagram was events fate (IsAnswered m first rest now after answer is_kept mid h has answers are is) fit =
      has_fit t old mid m was first now has (answer_fit mid new (stamp_in m) answer after.keeper.to_put is_kept rest answers.kept fit)

-- ---- in a run

module _ {T P F K S L G : Type 0} (o : Outside T P F K S L) (facts : GamesFacts G) (IsFit : G → Type 0) (May : G → List ℕ → List Event → Option (List ℕ) → Type 0) (order : KeepsInOrder facts IsFit May) (stamp : List ℕ) (place : facts.Place) (t : CommonView) (before : PlaceKeeper) where
  abbrev kept_at : KeptAt
  kept_at = facts.places place stamp

  -- the server is there, with what all games have in common
  pub record IsHere (server : Server G F) : Type 0 where
    pub there : facts.place server.shared.games ≡ place
    pub is : common server ≡ t

  pub here_on : (old new : Server G F) → StaysServer o facts old new → IsHere old → IsHere new
  here_on old new s h = record { there = s.place ∙ h.there; is = s.common_is ∙ h.is }

  abbrev pub FoundAt : Server G F → Life → List Event → Type 0
  FoundAt server life past = IsFit server.shared.games → FindsItsOwn (May server.shared.games stamp past) before life

  abbrev pub TakenOver : Life → List Heard → Server G F → List Event → Type 0
  TakenOver life hs new past = TakenGame facts place t stamp before life hs (game_at new stamp) (IsFit new.shared.games) (May new.shared.games stamp past)

  durable_at : (server : Server G F) → IsHere server → (past events : List Event) → IsDurableAfter kept_at stamp past events → IsDurableAfter (facts.places (facts.place server.shared.games) stamp) stamp past events
  durable_at server h past events d = subst (λ (x : facts.Place). IsDurableAfter (facts.places x stamp) stamp past events) (sym h.there) d

  -- events that change nothing
  aside_less : (server : Server G F) (past events : List Event) → ((at : KeptAt) → StaysFound at stamp past events) → FindsNoMore (May server.shared.games stamp (behind past events)) (May server.shared.games stamp past)
  aside_less server past events s = order.stays server.shared.games stamp events past (s (facts.places (facts.place server.shared.games) stamp))

  pub on_aside : (life : Life) (hs : List Heard) (server : Server G F) (past events : List Event) → ((at : KeptAt) → StaysFound at stamp past events) → TakenOver life hs server past → TakenOver life hs server (behind past events)
  on_aside life hs server past events s f = record {
    played = f.played;
    over = f.over;
    found = λ fit. found_less (May server.shared.games stamp (behind past events)) (May server.shared.games stamp past) before f.played.life (aside_less server past events s) (f.found fit);
  }

  pub at_past : (life : Life) (hs : List Heard) (server : Server G F) (past past' : List Event) → past' ≡ past → TakenOver life hs server past → TakenOver life hs server past'
  at_past life hs server past past' same f = record { played = f.played; over = f.over; found = λ fit. subst (λ (l : List Event). FindsItsOwn (May server.shared.games stamp l) before f.played.life) (sym same) (f.found fit) }

  pub nothing : (life : Life) (server : Server G F) (past : List Event) → IsAt (game_at server stamp) life → FoundAt server life past → TakenOver life [] server past
  unfolding PlaysAll
  nothing life server past isat found = record { played = record { each = []; life = life; plays = refl; at = isat }; over = tt; found = found }

  pub on_heard : (life : Life) (hs gs : List Heard) (mid new : Server G F) (past past' : List Event) (f : TakenOver life hs mid past) → TakenOver f.played.life gs new past' → TakenOver life (hs ++ gs) new past'
  on_heard life hs gs mid new past past' f q =
      let p = f.played in
      let r = q.played in
      let leads : life_through (left_before before life) (all_acts p.each) ≡ left_before before p.life = left_acts before life (all_acts p.each) ∙ ap (left_before before) (played_are_hosted facts place t stamp life p.life hs p.each p.plays).on.leads in
      record {
        played = record { each = p.each ++ r.each; life = r.life; plays = plays_join facts place t stamp life p.life r.life hs gs p.each r.each p.plays r.plays; at = r.at };
        over = subst (AreOverLeft (left_before before life)) (sym (flat_map-append (λ (acts : Acts). acts) p.each r.each)) (over_join (left_before before life) (all_acts p.each) (all_acts r.each) f.over (subst (λ (l : Life). AreOverLeft l (all_acts r.each)) (sym leads) q.over));
        found = q.found;
      }

  -- ---- one datagram

  module _ (old new : Server G F) (h : Heard) (d : HearsDatagram o facts old new h.datagram h.reply h.events) (here : IsHere old) (life : Life) (isat : IsAt (game_at old stamp) life) (past : List Event) (durable : IsDurableAfter kept_at stamp past h.events) (found : FoundAt old life past) where
    abbrev Its : Type 0
    Its = Next facts (common old) old.shared.games stamp life (reply_for stamp h) (made_for stamp h) (game_at new stamp) old.shared.games (cond (is_for stamp h) new.shared.games old.shared.games)

    from_acts : (n : Its) → AreOverLeft (left_before before life) n.acts → FoundAt new (life_through life n.acts) (behind past h.events) → TakenOver life (h ∷ []) new (behind past h.events)
    unfolding PlaysAll
    from_acts n over f = record {
      played = record {
        each = n.acts ∷ [];
        life = n.to;
        plays = (n.to, subst (λ (c : CommonView). Rattle.served_games.specs.ServedGames.GoesOn facts place c stamp life n.acts (reply_for stamp h) (made_for stamp h) n.to) here.is (subst (λ (x : facts.Place). Rattle.served_games.specs.ServedGames.GoesOn facts x (common old) stamp life n.acts (reply_for stamp h) (made_for stamp h) n.to) here.there n.on), refl);
        at = n.at;
      };
      over = subst (AreOverLeft (left_before before life)) (sym (append-nil n.acts)) over;
      found = λ fit. subst (FindsItsOwn (May new.shared.games stamp (behind past h.events)) before) n.on.leads (f fit);
    }

    by_for : (n : Its) (b : Bool) → is_for stamp h ≡ b → TakenOver life (h ∷ []) new (behind past h.events)
    by_for n true is =
        let turn : MakesInTurn facts (facts.place old.shared.games) stamp old.shared.games life n.acts h.events new.shared.games = subst (λ (x : Bool). MakesInTurn facts (facts.place old.shared.games) stamp old.shared.games life n.acts (cond x h.events []) (cond x new.shared.games old.shared.games)) is n.turn in
        let a = acts_taken facts IsFit May order stamp (facts.place old.shared.games) before old.shared.games new.shared.games refl past h.events life n.acts turn (durable_at old here past h.events durable) found in
        from_acts n a.over a.found
    by_for n false is =
        let turn : MakesInTurn facts (facts.place old.shared.games) stamp old.shared.games life n.acts [] old.shared.games = subst (λ (x : Bool). MakesInTurn facts (facts.place old.shared.games) stamp old.shared.games life n.acts (cond x h.events []) (cond x new.shared.games old.shared.games)) is n.turn in
        let a = acts_taken facts IsFit May order stamp (facts.place old.shared.games) before old.shared.games old.shared.games refl past [] life n.acts turn tt found in
        let less = other_less facts IsFit May order stamp (common old) old.shared.games new.shared.games h.datagram (was_open old (heard_in h.datagram)) h.events past d.fate (not_of stamp (heard_in h.datagram) is) d.goes in
        let fits = goes_fit facts IsFit May order stamp (common old) old.shared.games new.shared.games h.datagram (was_open old (heard_in h.datagram)) h.events d.fate d.goes in
        from_acts n a.over (λ fit. found_less (May new.shared.games stamp (behind past h.events)) (May old.shared.games stamp past) before (life_through life n.acts) less (a.found (fits fit)))

    pub one_taken : TakenOver life (h ∷ []) new (behind past h.events)
    one_taken = by_for (played_one o facts old new h d life stamp isat) (is_for stamp h) refl

  came_taken : (old new : Server G F) (h : Heard) (d : HearsDatagram o facts old new h.datagram h.reply h.events) → IsHere old → (life : Life) → IsAt (game_at old stamp) life → (past : List Event) → IsDurableAfter kept_at stamp past (heard_events h) → FoundAt old life past → TakenOver life (h ∷ []) new (behind past (heard_events h))
  came_taken old new h d here life isat past durable found =
      let came = Came h.from h.datagram in
      one_taken old new h d here life isat (came ∷ past) durable.1 (λ fit. found_less (May old.shared.games stamp (came ∷ past)) (May old.shared.games stamp past) before life (aside_less old past (came ∷ []) (λ at. aside_one at stamp past came tt)) (found fit))

  pub all_taken : (old new : Server G F) (life : Life) (hs : List Heard) (past : List Event) → HearsAll o facts old hs new → IsHere old → IsAt (game_at old stamp) life → IsDurableAfter kept_at stamp past (flat_map heard_events hs) → FoundAt old life past → TakenOver life hs new (behind past (flat_map heard_events hs))
  unfolding HearsAll
  all_taken old new life [] past p here isat durable found = nothing life new past (subst (λ (s : Server G F). IsAt (game_at s stamp) life) (sym p) isat) (subst (λ (s : Server G F). FoundAt s life past) (sym p) found)
  all_taken old new life (h ∷ hs) past p here isat durable found =
      let events = heard_events h in
      let rest = flat_map heard_events hs in
      let first = came_taken old p.0 h p.1 here life isat past (durable_first kept_at stamp past events rest durable) found in
      let more = all_taken p.0 new first.played.life hs (behind past events) p.2 (here_on old p.0 (stays_one o facts stamp old p.0 h p.1) here) first.played.at (durable_rest kept_at stamp past events rest durable) first.found in
      at_past life (h ∷ hs) new (behind (behind past events) rest) (behind past (events ++ rest)) (behind_join past events rest)
      (on_heard life (h ∷ []) hs p.0 new (behind past events) (behind (behind past events) rest) first more)

  -- ---- a turn

  pub record DeedTaken (old : Server G F) (life : Life) (deed : Deed) (new : Server G F) (past : List Event) : Type 0 where
    pub here : IsHere new
    pub game : TakenOver life (heard_by deed) new past

  on_commit : (mid new : Server G F) (life : Life) (r : Round) (past : List Event) (is : Rattle.game_folder.specs.Holdings.CommitsGames facts mid.shared.games new.shared.games r.committed r.commits) → game_at new stamp ≡ game_at mid stamp → TakenOver life r.heard mid past → TakenOver life r.heard new (behind past r.commits)
  on_commit mid new life r past is same f = record {
    played = record { each = f.played.each; life = f.played.life; plays = f.played.plays; at = subst (λ (w : Option (Moment DraftView)). IsAt w f.played.life) (sym same) f.played.at };
    over = f.over;
    found = λ fit. found_less (May new.shared.games stamp (behind past r.commits)) (May mid.shared.games stamp past) before f.played.life
        (order.commits mid.shared.games new.shared.games is.still.place stamp (without_value r.committed) r.commits past is.done fit)
        (f.found (order.commits_fit mid.shared.games new.shared.games (without_value r.committed) r.commits is.done fit));
  }

  round_taken : (to : List Recipient) (old new : Server G F) (life : Life) (r : Round) (past : List Event) → IsRound o facts old r new → IsHere old → IsAt (game_at old stamp) life → IsDurableAfter kept_at stamp past (round_events to r) → FoundAt old life past → DeedTaken old life (AnswersRound r) new (behind past (round_events to r))
  round_taken to old new life r past is here isat durable found =
      let heard = flat_map heard_events r.heard in
      let ends = end_events r.end in
      let sends = round_sent to r.heard r.committed in
      let first : IsDurableAfter kept_at stamp past heard = durable_first kept_at stamp past heard ends (durable_first kept_at stamp past (heard ++ ends) (r.commits ++ sends) durable) in
      let f = all_taken old is.mid life r.heard past is.heard here isat first found in
      let a = behind past heard in
      let b = behind a ends in
      let c = behind b r.commits in
      let at_end = on_aside life r.heard is.mid a ends (λ at. asides at stamp a ends (end_aside r.end)) f in
      let at_commit = on_commit is.mid new life r b is.commits (same_game o facts stamp is.mid new is.same.common.tables is.same.seats) at_end in
      let at_sent = on_aside life r.heard new c sends (λ at. asides at stamp c sends (round_aside to r.heard r.committed)) at_commit in
      let joined : behind past (round_events to r) ≡ behind c sends = behind_join past (heard ++ ends) (r.commits ++ sends) ∙ ap (λ (l : List Event). behind l (r.commits ++ sends)) (behind_join past heard ends) ∙ behind_join b r.commits sends in
      record {
        here = here_on old new (stays_on o facts old is.mid new (stays_all o facts stamp old is.mid r.heard is.heard) (record { common_is = stays_by o facts is.mid new is.same.common.config is.same.common.tables; place = is.commits.still.place })) here;
        game = at_past life r.heard new (behind c sends) (behind past (round_events to r)) joined at_sent;
      }

  pub deed_taken : (to : List Recipient) (old new : Server G F) (life : Life) (deed : Deed) (past : List Event) → IsDeed o facts old deed new → IsHere old → IsAt (game_at old stamp) life → IsDurableAfter kept_at stamp past (deed_events to deed) → FoundAt old life past → DeedTaken old life deed new (behind past (deed_events to deed))
  deed_taken to old new life (AnswersRound r) past is here isat durable found = round_taken to old new life r past is here isat durable found
  deed_taken to old new life HearsNone past is here isat durable found = record {
    here = subst IsHere (sym is) here;
    game = on_aside life [] new past (Missed ∷ []) (λ at. aside_one at stamp past Missed tt) (nothing life new past (subst (λ (s : Server G F). IsAt (game_at s stamp) life) (sym is) isat) (subst (λ (s : Server G F). FoundAt s life past) (sym is) found));
  }

  pub turns_taken : (form : LineForm) (texts : List (List ℕ)) (to : List Recipient) (old new : Server G F) (turns : List Turn) (life : Life) (past : List Event) → InTurns o facts form texts old turns new → IsHere old → IsAt (game_at old stamp) life → IsDurableAfter kept_at stamp past (run_events to turns) → FoundAt old life past → TakenOver life (heard_in_turns turns) new (behind past (run_events to turns))
  unfolding InTurns
  turns_taken form texts to old new [] life past p here isat durable found = nothing life new past (subst (λ (s : Server G F). IsAt (game_at s stamp) life) (sym p) isat) (subst (λ (s : Server G F). FoundAt s life past) (sym p) found)
  turns_taken form texts to old new (turn ∷ turns) life past p here isat durable found =
      let done = deed_events to turn.deed in
      let all = turn_events to turn in
      let rest = run_events to turns in
      let mine : IsDurableAfter kept_at stamp past all = durable_first kept_at stamp past all rest durable in
      let d = deed_taken to old p.0 life turn.deed past p.1.deed here isat (durable_first kept_at stamp past done turn.lines mine) found in
      let a = behind past done in
      let b = behind a turn.lines in
      let joined : behind past all ≡ b = behind_join past done turn.lines in
      let lined = on_aside life (heard_by turn.deed) p.0 a turn.lines (λ at. asides at stamp a turn.lines (lines_aside form texts (deed_lines turn.deed) turn.is_out turn.lines p.1.lines)) d.game in
      let first = at_past life (heard_by turn.deed) p.0 b (behind past all) joined lined in
      let more = turns_taken form (after_lines texts (deed_lines turn.deed)) to p.0 new turns first.played.life (behind past all) p.2 d.here first.played.at (durable_rest kept_at stamp past all rest durable) first.found in
      at_past life (heard_by turn.deed ++ heard_in_turns turns) new (behind (behind past all) rest) (behind past (all ++ rest)) (behind_join past all rest)
      (on_heard life (heard_by turn.deed) (heard_in_turns turns) p.0 new (behind past all) (behind (behind past all) rest) first more)

  -- ---- behind a commit that succeeded

  pub round_heard : (old mid : Server G F) (life : Life) (r : Round) (past : List Event) → HearsAll o facts old r.heard mid → IsHere old → IsAt (game_at old stamp) life → IsDurableAfter kept_at stamp past (flat_map heard_events r.heard ++ end_events r.end) → FoundAt old life past → TakenOver life r.heard mid (behind past (flat_map heard_events r.heard ++ end_events r.end))
  round_heard old mid life r past hears here isat durable found =
      let heard = flat_map heard_events r.heard in
      let ends = end_events r.end in
      let f = all_taken old mid life r.heard past hears here isat (durable_first kept_at stamp past heard ends durable) found in
      at_past life r.heard mid (behind (behind past heard) ends) (behind past (heard ++ ends)) (behind_join past heard ends) (on_aside life r.heard mid (behind past heard) ends (λ at. asides at stamp (behind past heard) ends (end_aside r.end)) f)

  -- what a start may find then
  abbrev FoundThere : Life → List Heard → Server G F → List Event → Type 0
  FoundThere life hs new past = TakenGame facts place t stamp before life hs (game_at new stamp) (Unit {0}) (MayFind kept_at stamp past)

  committed_found : (mid new : Server G F) (life : Life) (hs : List Heard) (r : Round) (past past' : List Event) (is : Rattle.game_folder.specs.Holdings.CommitsGames facts mid.shared.games new.shared.games r.committed r.commits) → r.committed ≡ Ok tt → IsHere mid → game_at new stamp ≡ game_at mid stamp → past' ≡ behind past r.commits → TakenOver life hs mid past → FoundThere life hs new past'
  committed_found mid new life hs r past past' is ok here same joined f =
      let done : facts.commits mid.shared.games (Ok tt) r.commits new.shared.games = subst (λ (x : Result (Unit {0}) Uncommitted). facts.commits mid.shared.games (without_value x) r.commits new.shared.games) ok is.done in
      record {
        played = record { each = f.played.each; life = f.played.life; plays = f.played.plays; at = subst (λ (w : Option (Moment DraftView)). IsAt w f.played.life) (sym same) f.played.at };
        over = f.over;
        found = λ u. found_less (MayFind kept_at stamp past') (May mid.shared.games stamp past) before f.played.life
            (λ found m. order.lasts mid.shared.games new.shared.games stamp r.commits past done found
            (subst (λ (x : facts.Place). MayFind (facts.places x stamp) stamp (behind past r.commits) found) (sym here.there) (subst (λ (l : List Event). MayFind kept_at stamp l found) joined m)))
            (f.found (order.commits_ok mid.shared.games new.shared.games r.commits done));
      }

  commits_found : (form : LineForm) (texts : List (List ℕ)) (to : List Recipient) (old mid new : Server G F) (turns : List Turn) (r : Round) (life : Life) (past : List Event) → InTurns o facts form texts old turns mid → IsRound o facts mid r new → r.committed ≡ Ok tt → IsHere old → IsAt (game_at old stamp) life
      → IsDurableAfter kept_at stamp past (run_events to turns ++ events_to_commit r) → FoundAt old life past → FoundThere life (heard_in_turns turns ++ r.heard) new (behind past (run_events to turns ++ events_to_commit r))
  commits_found form texts to old mid new turns r life past p is ok here isat durable found =
      let all = run_events to turns in
      let came = flat_map heard_events r.heard ++ end_events r.end in
      let a = behind past all in
      let first = turns_taken form texts to old mid turns life past p here isat (durable_first kept_at stamp past all (events_to_commit r) durable) found in
      let there = here_on old mid (turns_stay o facts stamp form texts old mid turns p) here in
      let there' = here_on mid is.mid (stays_all o facts stamp mid is.mid r.heard is.heard) there in
      let late = durable_first kept_at stamp a came r.commits (durable_rest kept_at stamp past all (events_to_commit r) durable) in
      let more = round_heard mid is.mid first.played.life r a is.heard there first.played.at late first.found in
      committed_found is.mid new life (heard_in_turns turns ++ r.heard) r (behind a came) (behind past (all ++ events_to_commit r)) is.commits ok there' (same_game o facts stamp is.mid new is.same.common.tables is.same.seats)
      (behind_join past all (events_to_commit r) ∙ behind_join a came r.commits)
      (on_heard life (heard_in_turns turns) r.heard mid is.mid a (behind a came) first more)

pub games_are_taken : {T P F K S L G : Type 0} (o : Outside T P F K S L) (facts : GamesFacts G) (IsFit : G → Type 0) (May : G → List ℕ → List Event → Option (List ℕ) → Type 0) → KeepsInOrder facts IsFit May → GamesAreTaken o facts IsFit May
games_are_taken o facts IsFit May order form texts to old new turns stamp before was past p isat durable found =
    turns_taken o facts IsFit May order stamp (facts.place old.shared.games) (common old) before form texts to old new turns was past p (record { there = refl; is = refl }) isat durable (λ fit. found)

pub commits_are_found : {T P F K S L G : Type 0} (o : Outside T P F K S L) (facts : GamesFacts G) (IsFit : G → Type 0) (May : G → List ℕ → List Event → Option (List ℕ) → Type 0) → KeepsInOrder facts IsFit May → CommitsAreFound o facts May
commits_are_found o facts IsFit May order form texts to old mid new turns r stamp before was past p is ok isat durable found =
    commits_found o facts IsFit May order stamp (facts.place old.shared.games) (common old) before form texts to old mid new turns r was past p is ok (record { there = refl; is = refl }) isat durable (λ fit. found)
