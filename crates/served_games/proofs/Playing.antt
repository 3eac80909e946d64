-- What one game does at one datagram.
use Rattle.std.proofs.Common.{◌≡◌, inl, inr, ◌∙◌, ℕ, Bool, true, false, cond, List, [], ◌∷◌, ◌++◌, Option, Some, None, refl, sym, ap, subst, append-nil}
use Rattle.std.specs.Prelude.{Result, Ok, Err}
use Rattle.arbiter_core.specs.Delivers.{Exchange, Moment, ReturnsAnswer, Told, answer_at, answer_of, answer_to_any, exchange, in_game, moment}
use Rattle.arbiter_core.specs.Answering.{Answer}
use Rattle.arbiter_core.specs.Opens.{IsOpening}
use Rattle.arbiter_core.specs.Views.{View}
use Rattle.arbiter_core.specs.declared.fault.OpenFault.{OpenFault}
use Rattle.arbiter_core.specs.declared.fault.OpenFault.TheVariants.{KeeperFailed}
use Rattle.arbiter_server.specs.Acts.{Strange, Refuses, Opens, Answers, Closes, DatagramReply, Opening, exchange_reply, opens_by, opens_for, opens_game, unopened}
use Rattle.arbiter_server.specs.Games.{CommonView, Fresh, IsAnother, IsGameOf, IsNotOpen, IsOver, IsRefused, IsStrange, Open, OpensTo, Shut, life_after, life_at, setup_of}
use Rattle.arbiter_server.specs.ServedLines.{refused_keeper}
use Rattle.arbiter_server.specs.Serving.{line_for, line_of, outputs_of}
use Rattle.arbiter_server.specs.Told.{stamped, unopened_by}
use Rattle.arbiter_server.specs.declared.fault.OpenGameError.{OpenGameError}
use Rattle.arbiter_server.specs.declared.fault.OpenGameError.TheVariants as why_not
use Rattle.arbiter_server.specs.declared.games.GameConfig.{GameConfig}
use Rattle.move_msg.specs.Heard.{heard_in}
use Rattle.move_msg.specs.Messages.{stamp_in}
use Rattle.move_msg.specs.declared.message.Message.{Message}
use Rattle.move_msg.specs.declared.message.MessageFault.{MessageFault}
use Rattle.timeline.specs.Events.{Event}
use Rattle.game_folder.specs.Drafts.{DraftView, draft_facts, settled}
use Rattle.game_folder.specs.Holdings.{GamesFacts}
use Rattle.game_server.specs.Datagrams.{IsLeftOpen}
use Rattle.game_server.specs.Fates.{Answered, AnswersBy, Fate, GoesTo, HasGame, IsAnswered, IsFound, IsOther, IsUnopened, IsUnread, NotFound, OpensFor, OpensNone, OpensSeat, SeatNotHeld, SeatOpened, SeatRefused, SeatUnkept, TakesAndOpens, TakesNone, TakesOne, Unopened, fate_leaves, fate_line, fate_outputs, found_draft, is_unput}
use Rattle.served_games.specs.PlaceKeepers.{AtPlace, IsNotFound, IsThere, LacksArbiter, NotHeld, PlaceKeeper, found_keeper, has_failed, place_facts, place_keepers}
use Rattle.served_games.specs.ServedGames.{GoesOn, IsAt, IsOpenAt, IsOverLeft, Looked, LooksInVain, NothingPut, NotLooked, NotTaken, OpensBy, PutFails, PutsBy}
use Rattle.served_games.proofs.Carrying.{Carried, carried}
use Rattle.served_games.proofs.Going.{Acts, Life, on_join, on_nothing}
use Rattle.served_games.proofs.InTurn.{LooksIn, MakesInTurn, NoLook, NoTake, Look, OpensIn, turn_join}
use Rattle.served_games.proofs.Reaching.{has_there}
use Rattle.served_games.proofs.Opening.{IsOpened, opened, opening_refused, opening_unkept}

abbrev pub reply_with : List ℕ → List Message → List ℕ → DatagramReply
reply_with datagram outputs line = record { datagram = datagram; outputs = outputs; line = line }

module _ {G : Type 0} (facts : GamesFacts G) (t : CommonView) (g : G) where
  abbrev place : facts.Place
  place = facts.place g

  -- the game goes on so, to where it is at the server
  pub record Next (stamp : List ℕ) (life : Life) (replies : List DatagramReply) (events : List Event) (now : Option (Moment DraftView)) (from after : G) : Type 0 where
    pub acts : Acts
    pub to : Life
    pub on : GoesOn facts place t stamp life acts replies events to
    pub at : IsAt now to
    pub turn : MakesInTurn facts place stamp from life acts events after

  -- ---- it is closed, or left alone

  closing : (stamp : List ℕ) (now : Moment PlaceKeeper) → GoesOn facts place t stamp (Open now) (Closes stamp now.keeper ∷ []) [] [] (Shut now.keeper)
  closing stamp now = record { goes = λ _. (Shut now.keeper, (refl, refl), refl); leads = refl; own = (refl, tt); replies_are = refl; makes = ([], [], refl, (refl, refl), refl) }

  closed : (stamp : List ℕ) (life : Life) (x : G) → Next stamp life [] [] None x x
  closed stamp Fresh x = record { acts = []; to = Fresh; on = on_nothing facts place t stamp Fresh; at = tt; turn = (refl, refl) }
  closed stamp (Shut left) x = record { acts = []; to = Shut left; on = on_nothing facts place t stamp (Shut left); at = tt; turn = (refl, refl) }
  closed stamp (Open now) x = record { acts = Closes stamp now.keeper ∷ []; to = Shut now.keeper; on = closing stamp now; at = tt; turn = ([], [], x, refl, ((refl, refl), refl), (refl, refl)) }

  pub aside : (stamp : List ℕ) (life : Life) (was now : Option (Moment DraftView)) (x : G) → IsAt was life → IsLeftOpen was now → Next stamp life [] [] now x x
  aside stamp life was now x at (inl same) = record { acts = []; to = life; on = on_nothing facts place t stamp life; at = subst (λ (w : Option (Moment DraftView)). IsAt w life) (sym same) at; turn = (refl, refl) }
  aside stamp life was now x at (inr none) = subst (λ (w : Option (Moment DraftView)). Next stamp life [] [] w x x) (sym none) (closed stamp life x)

  module _ (datagram : List ℕ) (m : Message) (is : heard_in datagram ≡ Ok m) where
    abbrev stamp : List ℕ
    stamp = stamp_in m

    opens_is : opens_for datagram ≡ opens_game m
    opens_is = ap opens_by is

    answer_is : (v : View) → answer_to_any v m ≡ answer_at v datagram
    answer_is v = ap (λ (r : Result Message MessageFault). answer_of v (in_game v.me.stamp r)) (sym is)

    -- ---- an arbiter answers

    abbrev pub answer_reply : Moment DraftView → Told → Bool → DatagramReply
    answer_reply after told is_kept =
        reply_with datagram (cond (is_unput after.keeper.to_put is_kept told) [] (outputs_of told)) (stamped stamp (cond (is_unput after.keeper.to_put is_kept told) refused_keeper (line_for told after.arbiter.kept)))

    module _ (here : Moment PlaceKeeper) (told : Told) (after : Moment DraftView) (is_kept : Bool) (events : List Event) (games last : G) (there : IsThere facts place games) (c : Carried facts place stamp games last here.arbiter here.keeper (answer_at here.arbiter datagram) told after is_kept events) (unkept : here.keeper.unkept ≡ None) where
      abbrev lost : Bool
      lost = is_unput after.keeper.to_put is_kept told

      abbrev e : Exchange PlaceKeeper
      e = exchange datagram c.told_is c.after_is

      reply_is : exchange_reply stamp e ≡ answer_reply after told is_kept
      reply_is = ap (λ (o : List Message). reply_with datagram o (stamped stamp (line_of e))) c.outputs ∙ ap (λ (l : List ℕ). reply_with datagram (cond lost [] (outputs_of told)) (stamped stamp l)) c.line

      one_answer : GoesOn facts place t stamp (Open here) (Answers stamp e ∷ []) (answer_reply after told is_kept ∷ []) events (life_at e.after)
      one_answer = record {
        goes = λ _. (life_at e.after, (c.returns, refl), refl);
        leads = refl;
        own = (refl, tt);
        replies_are = ap (λ (r : DatagramReply). r ∷ []) reply_is;
        makes = (events, [], sym (append-nil events), (games, last, there, c.puts, λ up. c.none (sym c.down ∙ up) unkept), refl);
      }

      to_life : (b : Bool) → lost ≡ b → life_at e.after ≡ cond b (Shut e.after.keeper) (Open e.after)
      to_life b at = ap (λ (x : Bool). cond x (Shut e.after.keeper) (Open e.after)) (c.down ∙ at)

      module _ (now : Option (Moment DraftView)) (own : now ≡ cond lost None (Some (moment after.arbiter (settled after.keeper)))) where
        own_is : (b : Bool) → lost ≡ b → now ≡ cond b None (Some (moment after.arbiter (settled after.keeper)))
        own_is b at = own ∙ ap (λ (x : Bool). cond x None (Some (moment after.arbiter (settled after.keeper)))) at

        one_turn : MakesInTurn facts place stamp games (Open here) (Answers stamp e ∷ []) events last
        one_turn = (events, [], last, sym (append-nil events), (c.puts, λ up. c.none (sym c.down ∙ up) unkept), (refl, refl))

        by_lost : (b : Bool) → lost ≡ b → Next stamp (Open here) (answer_reply after told is_kept ∷ []) events now games last
        by_lost true at = record {
          acts = Answers stamp e ∷ [];
          to = Shut e.after.keeper;
          on = subst (GoesOn facts place t stamp (Open here) (Answers stamp e ∷ []) (answer_reply after told is_kept ∷ []) events) (to_life true at) one_answer;
          at = subst (λ (w : Option (Moment DraftView)). IsAt w (Shut e.after.keeper)) (sym (own_is true at)) tt;
          turn = one_turn;
        }
        by_lost false at = record {
          acts = Answers stamp e ∷ [];
          to = Open e.after;
          on = subst (GoesOn facts place t stamp (Open here) (Answers stamp e ∷ []) (answer_reply after told is_kept ∷ []) events) (to_life false at) one_answer;
          at = subst (λ (w : Option (Moment DraftView)). IsAt w (Open e.after)) (sym (own_is false at)) (record { same = c.left at; kept = c.none at unkept; runs = c.down ∙ at });
          turn = one_turn;
        }

        answered_on : Next stamp (Open here) (answer_reply after told is_kept ∷ []) events now games last
        answered_on = by_lost lost refl

    -- ---- a game that isn't open

    over : (life : Life) (next : PlaceKeeper) → next.unkept ≡ None → IsNotOpen life → IsOverLeft life next → IsOver (place_keepers facts place) stamp life next
    over Fresh next none shut left = none
    over (Shut before) next none shut left = (none, left)
    over (Open at) next none shut left = absurd shut

    module _ (life : Life) (shut : IsNotOpen life) where
      strange : (why : OpenGameError) (tried : Bool) (events : List Event) (from after : G) → LooksInVain facts place stamp events → LooksIn facts place stamp from events after → IsStrange (place_keepers facts place) t.manifest stamp (opens_for datagram) tried why → Next stamp life (unopened stamp datagram why ∷ []) events None from after
      strange why tried events from after vain looks s = record {
        acts = Strange stamp datagram tried why ∷ [];
        to = life;
        on = record { goes = λ _. (life, (shut, s, refl), refl); leads = refl; own = (refl, tt); replies_are = refl; makes = (events, [], sym (append-nil events), vain, refl) };
        at = shut;
        turn = (events, [], after, sym (append-nil events), looks, (refl, refl));
      }

      strange_as : (why : OpenGameError) (tried b : Bool) (events : List Event) (from after : G) → LooksInVain facts place stamp events → LooksIn facts place stamp from events after → opens_game m ≡ b → IsStrange (place_keepers facts place) t.manifest stamp b tried why → Next stamp life (unopened stamp datagram why ∷ []) events None from after
      strange_as why tried b events from after vain looks at s = strange why tried events from after vain looks (subst (λ (x : Bool). IsStrange (place_keepers facts place) t.manifest stamp x tried why) (sym (opens_is ∙ at)) s)

    module _ (life : Life) (shut : IsNotOpen life) where
      module _ (game : GameConfig) (looked : List Event) (finds : facts.finds place stamp (Ok game) looked) (game_is : IsGameOf t.manifest stamp game.name.items game.start game.delay) (taken put : List Event) (got : Option (List ℕ)) (mid : G) (takes : facts.takes g stamp (Ok got) taken mid) where
        abbrev opening_to : PlaceKeeper → Opening PlaceKeeper
        opening_to now = record { setup = setup_of t game.name.items game.start game.delay; before = found_keeper got; now = now }

        opens_to : (now : PlaceKeeper) (told : Result View OpenFault) → IsOpening place_facts (setup_of t game.name.items game.start game.delay) (found_keeper got) now told → IsOverLeft life (found_keeper got) → OpensTo (place_keepers facts place) t stamp life (opening_to now) told (life_after now told)
        opens_to now told h left = record {
          over = over life (found_keeper got) refl shut left;
          tells = record { game = game; told = (looked, finds); name = refl; start = refl; delay = refl };
          game = record { common = refl; game = game_is };
          opening = h;
          new_is = refl;
        }

        opens_by_events : (now : PlaceKeeper) (events : List Event) (last : G) → events ≡ looked ++ (taken ++ put) → PutsBy facts place stamp mid (found_keeper got) now put last → OpensBy facts place stamp (opening_to now) events
        opens_by_events now events last are puts = record { game = game; name = refl; start = refl; delay = refl; looked = looked; finds = finds; games = g; there = refl; taken = taken; after = mid; takes = takes; put = put; last = last; puts = puts; are = are }

        opens_in : (now : PlaceKeeper) (events : List Event) (last : G) → events ≡ looked ++ (taken ++ put) → PutsBy facts place stamp mid (found_keeper got) now put last → OpensIn facts place stamp g (opening_to now) events last
        opens_in now events last are puts = record { game = game; looked = looked; finds = finds; taken = taken; mid = mid; takes = takes; put = put; puts = puts; are = are }

        refuses : (now : PlaceKeeper) (fault : OpenFault) (why : OpenGameError) (events : List Event) (last : G) → why ≡ unopened_by fault → events ≡ looked ++ (taken ++ put) → IsOpening place_facts (setup_of t game.name.items game.start game.delay) (found_keeper got) now (Err fault) → PutsBy facts place stamp mid (found_keeper got) now put last → Next stamp life (unopened stamp datagram why ∷ []) events None g last
        refuses now fault why events last w are h puts = record {
          acts = Refuses stamp datagram (opening_to now) fault ∷ [];
          to = Shut now;
          on = record {
            goes = λ left. (Shut now, opens_to now (Err fault) h left.0, refl);
            leads = refl;
            own = (refl, tt);
            replies_are = ap (λ (x : OpenGameError). unopened stamp datagram x ∷ []) (sym w);
            makes = (events, [], sym (append-nil events), opens_by_events now events last are puts, refl);
          };
          at = tt;
          turn = (events, [], last, sym (append-nil events), opens_in now events last are puts, (refl, refl));
        }

        -- an arbiter is opened over it
        opens_on : (after : DraftView) (v : View) (events : List Event) (last : G) → events ≡ looked ++ (taken ++ put) → (x : IsOpened facts place stamp mid (setup_of t game.name.items game.start game.delay) got after v put last) → GoesOn facts place t stamp life (Opens stamp (opening_to x.now) v ∷ []) [] events (Open (moment v x.now))
        opens_on after v events last are x = record {
          goes = λ left. (Open (moment v x.now), opens_to x.now (Ok v) x.opening left.0, refl);
          leads = refl;
          own = (refl, tt);
          replies_are = refl;
          makes = (events, [], sym (append-nil events), (opens_by_events x.now events last are x.puts, x.none), refl);
        }

        -- but memory is refused to keep it open, so it is closed at once
        lacks_it : (why : OpenGameError) → why ≡ why_not.OutOfMemory → (after : DraftView) (v : View) (last : G) → IsOpened facts place stamp mid (setup_of t game.name.items game.start game.delay) got after v put last → LacksArbiter facts place stamp why
        lacks_it why memory after v last x = NotHeld (record {
          memory = memory;
          common = t;
          game = game;
          looked = looked;
          finds = finds;
          is = game_is;
          games = g;
          there = refl;
          got = got;
          taken = taken;
          after = mid;
          takes = takes;
          now = x.now;
          arbiter = v;
          opening = x.opening;
        })

        not_held : (why : OpenGameError) (events : List Event) (last : G) → why ≡ why_not.OutOfMemory → opens_game m ≡ true → events ≡ looked ++ (taken ++ put) → (after : DraftView) (v : View) → IsOpened facts place stamp mid (setup_of t game.name.items game.start game.delay) got after v put last → Next stamp life (unopened stamp datagram why ∷ []) events None g last
        not_held why events last memory opens are after v x =
            let here = moment v x.now in
            let s : Next stamp (Shut x.now) (unopened stamp datagram why ∷ []) [] None last last = strange_as (Shut x.now) tt why false true [] last last (NotLooked refl) (NoLook refl refl) opens (IsRefused (lacks_it why memory after v last x)) in
            let rest : GoesOn facts place t stamp (Open here) (Closes stamp x.now ∷ s.acts) (unopened stamp datagram why ∷ []) [] s.to =
            on_join facts place t stamp (Open here) (Shut x.now) s.to (Closes stamp x.now ∷ []) s.acts [] (unopened stamp datagram why ∷ []) [] [] (closing stamp here) s.on in
            record {
              acts = Opens stamp (opening_to x.now) v ∷ Closes stamp x.now ∷ s.acts;
              to = s.to;
              on = subst (λ (l : List Event). GoesOn facts place t stamp life (Opens stamp (opening_to x.now) v ∷ Closes stamp x.now ∷ s.acts) (unopened stamp datagram why ∷ []) l s.to) (append-nil events)
                  (on_join facts place t stamp life (Open here) s.to (Opens stamp (opening_to x.now) v ∷ []) (Closes stamp x.now ∷ s.acts) [] (unopened stamp datagram why ∷ []) events [] (opens_on after v events last are x) rest);
              at = s.at;
              turn = (events, [], last, sym (append-nil events), (opens_in x.now events last are x.puts, x.none), ([], [], last, refl, ((refl, refl), refl), s.turn));
            }

        by_seat : (why : OpenGameError) (events : List Event) (new : G) → opens_game m ≡ true → events ≡ looked ++ (taken ++ put) → OpensSeat facts mid stamp (setup_of t game.name.items game.start game.delay) (found_draft got) put (Err why) new → Next stamp life (unopened stamp datagram why ∷ []) events None g new
        by_seat why events new opens are (SeatRefused after fault h nothing same told) =
            refuses (found_keeper got) fault why events new (same_why why (unopened_by fault) told) are (opening_refused (setup_of t game.name.items game.start game.delay) got after fault h) (NothingPut refl nothing same)
          where
            same_why : (a b : OpenGameError) → ◌≡◌ {A = Result (Moment DraftView) OpenGameError} (Err a) (Err b) → a ≡ b
            same_why a b s = cc
        by_seat why events new opens are (SeatUnkept after v bytes h to_put keeps told) =
            refuses (has_failed (found_keeper got) bytes) KeeperFailed why events new (let f : ◌≡◌ {A = Result (Moment DraftView) OpenGameError} (Err why) (Err why_not.Keeper) = told in cc) are (opening_unkept (setup_of t game.name.items game.start game.delay) got after v bytes h to_put) (PutFails bytes keeps refl)
        by_seat why events new opens are (SeatNotHeld after v h kept told) =
            not_held why events new (let f : ◌≡◌ {A = Result (Moment DraftView) OpenGameError} (Err why) (Err why_not.OutOfMemory) = told in cc) opens are after v (opened facts place stamp mid new (setup_of t game.name.items game.start game.delay) got after v put h kept)
        by_seat why events new opens are (SeatOpened after v h kept told) = absurd (let f : ◌≡◌ {A = Result (Moment DraftView) OpenGameError} (Err why) (Ok (moment v (settled after))) = told in cc)

      by_taking : (game : GameConfig) (looked rest events : List Event) (why : OpenGameError) (new : G) → opens_game m ≡ true → facts.finds place stamp (Ok game) looked → IsGameOf t.manifest stamp game.name.items game.start game.delay → events ≡ looked ++ rest → TakesAndOpens facts t g stamp game rest (Err why) new → Next stamp life (unopened stamp datagram why ∷ []) events None g new
      by_taking game looked rest events why new opens finds game_is are (TakesNone why' takes told) =
          let same : why ≡ why' = let f : ◌≡◌ {A = Result (Moment DraftView) OpenGameError} (Err why) (Err why') = told in cc in
          strange_as life shut why true true events g new (NotTaken game looked finds g refl why' rest new takes are) (NoTake game looked rest why' finds takes are) opens
          (record { games = g; there = refl; events = rest; after = new; takes = subst (λ (w : OpenGameError). facts.takes g stamp (Err w) rest new) (sym same) takes }, record { game = game; told = (looked, finds); is = game_is })
      by_taking game looked rest events why new opens finds game_is are (TakesOne taken put got mid takes seat is_rest) =
          by_seat game looked finds game_is taken put got mid takes why events new opens (are ∙ ap (λ (l : List Event). looked ++ l) is_rest) seat

      pub unopened_on : (events : List Event) (why : OpenGameError) (new : G) → OpensFor facts t g m events (Err why) new → Next stamp life (unopened stamp datagram why ∷ []) events None g new
      unopened_on events why new (OpensNone opens nothing still told) = strange_as life shut why false false events g new (NotLooked nothing) (NoLook nothing still) opens ((let f : ◌≡◌ {A = Result (Moment DraftView) OpenGameError} (Err why) (Err why_not.NotOpen) = told in cc), refl)
      unopened_on events why new (NotFound why' opens finds still told) =
          let same : why ≡ why' = let f : ◌≡◌ {A = Result (Moment DraftView) OpenGameError} (Err why) (Err why') = told in cc in
          strange_as life shut why false true events g new (Looked (Err why') finds) (Look (Err why') finds still) opens (IsRefused (IsNotFound events (subst (λ (w : OpenGameError). facts.finds place stamp (Err w) events) (sym same) finds)))
      unopened_on events why new (IsOther game opens finds not still told) =
          strange_as life shut why false true events g new (Looked (Ok game) finds) (Look (Ok game) finds still) opens (IsAnother game (events, finds) not (let f : ◌≡◌ {A = Result (Moment DraftView) OpenGameError} (Err why) (Err why_not.OtherGame) = told in cc))
      unopened_on events why new (IsFound game looked rest opens finds game_is takes are) = by_taking game looked rest events why new opens finds game_is are takes

    -- ---- the game is open, or is opened

    record Reaches (life : Life) (at : Moment DraftView) (events : List Event) (after : G) : Type 0 where
      here : Moment PlaceKeeper
      acts : Acts
      on : GoesOn facts place t stamp life acts [] events (Open here)
      is_at : IsOpenAt at here
      turn : MakesInTurn facts place stamp g life acts events after

    module _ (life : Life) (shut : IsNotOpen life) (at : Moment DraftView) where
      reached : (game : GameConfig) (looked taken put events : List Event) (got : Option (List ℕ)) (mid new : G) → facts.finds place stamp (Ok game) looked → IsGameOf t.manifest stamp game.name.items game.start game.delay → facts.takes g stamp (Ok got) taken mid → events ≡ looked ++ (taken ++ put) → OpensSeat facts mid stamp (setup_of t game.name.items game.start game.delay) (found_draft got) put (Ok at) new → Reaches life at events new
      reached game looked taken put events got mid new finds game_is takes are (SeatRefused after fault h nothing same told) = absurd (let f : ◌≡◌ {A = Result (Moment DraftView) OpenGameError} (Ok at) (Err (unopened_by fault)) = told in cc)
      reached game looked taken put events got mid new finds game_is takes are (SeatUnkept after v bytes h to_put keeps told) = absurd (let f : ◌≡◌ {A = Result (Moment DraftView) OpenGameError} (Ok at) (Err why_not.Keeper) = told in cc)
      reached game looked taken put events got mid new finds game_is takes are (SeatNotHeld after v h kept told) = absurd (let f : ◌≡◌ {A = Result (Moment DraftView) OpenGameError} (Ok at) (Err why_not.OutOfMemory) = told in cc)
      reached game looked taken put events got mid new finds game_is takes are (SeatOpened after v h kept told) = by (opened facts place stamp mid new (setup_of t game.name.items game.start game.delay) got after v put h kept)
        where
          same : at ≡ moment v (settled after)
          same = let f : ◌≡◌ {A = Result (Moment DraftView) OpenGameError} (Ok at) (Ok (moment v (settled after))) = told in cc

          by : IsOpened facts place stamp mid (setup_of t game.name.items game.start game.delay) got after v put new → Reaches life at events new
          by x = record {
            here = moment v x.now;
            acts = Opens stamp (opening_to life shut game looked finds game_is taken put got mid takes x.now) v ∷ [];
            on = opens_on life shut game looked finds game_is taken put got mid takes after v events new are x;
            is_at = record { same = same ∙ ap (λ (d : DraftView). moment v d) x.left; kept = x.none; runs = x.runs };
            turn = (events, [], new, sym (append-nil events), (opens_in life shut game looked finds game_is taken put got mid takes x.now events new are x.puts, x.none), (refl, refl));
          }

      reached_taking : (game : GameConfig) (looked rest events : List Event) (new : G) → facts.finds place stamp (Ok game) looked → IsGameOf t.manifest stamp game.name.items game.start game.delay → events ≡ looked ++ rest → TakesAndOpens facts t g stamp game rest (Ok at) new → Reaches life at events new
      reached_taking game looked rest events new finds game_is are (TakesNone why takes told) = absurd (let f : ◌≡◌ {A = Result (Moment DraftView) OpenGameError} (Ok at) (Err why) = told in cc)
      reached_taking game looked rest events new finds game_is are (TakesOne taken put got mid takes seat is_rest) = reached game looked taken put events got mid new finds game_is takes (are ∙ ap (λ (l : List Event). looked ++ l) is_rest) seat

      reached_for : (events : List Event) (new : G) → OpensFor facts t g m events (Ok at) new → Reaches life at events new
      reached_for events new (OpensNone opens nothing still told) = absurd (let f : ◌≡◌ {A = Result (Moment DraftView) OpenGameError} (Ok at) (Err why_not.NotOpen) = told in cc)
      reached_for events new (NotFound why opens finds still told) = absurd (let f : ◌≡◌ {A = Result (Moment DraftView) OpenGameError} (Ok at) (Err why) = told in cc)
      reached_for events new (IsOther game opens finds not still told) = absurd (let f : ◌≡◌ {A = Result (Moment DraftView) OpenGameError} (Ok at) (Err why_not.OtherGame) = told in cc)
      reached_for events new (IsFound game looked rest opens finds game_is takes are) = reached_taking game looked rest events new finds game_is are takes

    has_game : (was : Option (Moment DraftView)) (life : Life) (at : Moment DraftView) (events : List Event) (new : G) → IsAt was life → HasGame facts t g m was events at new → Reaches life at events new
    has_game (Some x) Fresh at events new a h = absurd a
    has_game (Some x) (Shut left) at events new a h = absurd a
    has_game (Some x) (Open here) at events new a h = record {
      here = here;
      acts = [];
      on = subst (λ (l : List Event). GoesOn facts place t stamp (Open here) [] [] l (Open here)) (sym h.1) (on_nothing facts place t stamp (Open here));
      is_at = record { same = h.0 ∙ a.same; kept = a.kept; runs = a.runs };
      turn = (h.1, h.2);
    }
    has_game None life at events new a h = reached_for life a at events new h

    -- ---- by its fate

    abbrev pub fate_reply : Fate → DatagramReply
    fate_reply fate = reply_with datagram (fate_outputs fate) (fate_line fate)

    same_message : (m' : Message) → heard_in datagram ≡ Ok m' → m' ≡ m
    same_message m' h = let f : ◌≡◌ {A = Result Message MessageFault} (Ok m') (Ok m) = sym h ∙ is in cc

    module _ (was now : Option (Moment DraftView)) (life : Life) (events : List Event) (isat : IsAt was life) where
      answered_fate : (first rest : List Event) (at after : Moment DraftView) (told : Told) (is_kept : Bool) (mid new : G) → HasGame facts t g m was first at mid → AnswersBy facts mid stamp at m told after is_kept rest new → events ≡ first ++ rest → now ≡ fate_leaves (Answered stamp (exchange datagram told after) is_kept) → Next stamp life (answer_reply after told is_kept ∷ []) events now g new
      answered_fate first rest at after told is_kept mid new has answers are own = by (has_game was life at first mid isat has)
        where
          by : Reaches life at first mid → Next stamp life (answer_reply after told is_kept ∷ []) events now g new
          by r =
              let v = r.here.arbiter in
              let returns : ReturnsAnswer draft_facts (moment v (found_draft r.here.keeper.kept)) (answer_to_any v m) told after = subst (λ (a : Moment DraftView). ReturnsAnswer draft_facts a (answer_to_any a.arbiter m) told after) r.is_at.same answers.answers in
              let there = has_there facts place t g mid m was first at has (AtPlace refl) in
              let c : Carried facts place stamp mid new v r.here.keeper (answer_at v datagram) told after is_kept rest = carried facts place stamp v r.here.keeper r.is_at.runs mid new (answer_at v datagram) told after is_kept rest (subst (λ (a : Answer). ReturnsAnswer draft_facts (moment v (found_draft r.here.keeper.kept)) a told after) (answer_is v) returns) answers.kept in
              let n : Next stamp (Open r.here) (answer_reply after told is_kept ∷ []) rest now mid new = answered_on r.here told after is_kept rest mid new there c r.is_at.kept now own in
              record {
                acts = r.acts ++ n.acts;
                to = n.to;
                on = subst (λ (l : List Event). GoesOn facts place t stamp life (r.acts ++ n.acts) (answer_reply after told is_kept ∷ []) l n.to) (sym are) (on_join facts place t stamp life (Open r.here) n.to r.acts n.acts [] (answer_reply after told is_kept ∷ []) first rest r.on n.on);
                at = n.at;
                turn = subst (λ (l : List Event). MakesInTurn facts place stamp g life (r.acts ++ n.acts) l new) (sym are)
                    (turn_join facts place stamp g mid new life r.acts n.acts first rest r.turn (subst (λ (l : Life). MakesInTurn facts place stamp mid l n.acts rest new) (sym r.on.leads) n.turn));
              }

      pub fated : (fate : Fate) (new : G) → GoesTo facts t g datagram was events fate new → now ≡ fate_leaves fate → Next stamp life (fate_reply fate ∷ []) events now g new
      fated fate new (IsUnread fault h nothing still f) own = absurd (let x : ◌≡◌ {A = Result Message MessageFault} (Ok m) (Err fault) = sym is ∙ h in cc)
      fated fate new (IsUnopened m' why h none opens f) own =
          let same : m' ≡ m = same_message m' h in
          let fate_is : fate ≡ Unopened stamp why = f ∙ ap (λ (x : Message). Unopened (stamp_in x) why) same in
          let opens_it : OpensFor facts t g m events (Err why) new = subst (λ (x : Message). OpensFor facts t g x events (Err why) new) same opens in
          let gone : now ≡ None = own ∙ ap fate_leaves fate_is in
          subst (λ (x : Fate). Next stamp life (fate_reply x ∷ []) events now g new) (sym fate_is)
          (subst (λ (w : Option (Moment DraftView)). Next stamp life (unopened stamp datagram why ∷ []) events w g new) (sym gone) (unopened_on life (subst (λ (w : Option (Moment DraftView)). IsAt w life) none isat) events why new opens_it))
      fated fate new (IsAnswered m' first rest at after told is_kept mid h has answers are f) own =
          let same : m' ≡ m = same_message m' h in
          let fate_is : fate ≡ Answered stamp (exchange datagram told after) is_kept = f ∙ ap (λ (x : Message). Answered (stamp_in x) (exchange datagram told after) is_kept) same in
          subst (λ (x : Fate). Next stamp life (fate_reply x ∷ []) events now g new) (sym fate_is)
          (answered_fate first rest at after told is_kept mid new (subst (λ (x : Message). HasGame facts t g x was first at mid) same has)
          (subst (λ (x : Message). AnswersBy facts mid (stamp_in x) at x told after is_kept rest new) same answers) are
          (own ∙ ap fate_leaves fate_is))
