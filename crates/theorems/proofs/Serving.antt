-- A run of a server of games goes as one of a host.
use Rattle.std.proofs.Common.{◌≡◌, ◌∙◌, ◌⊎◌, inl, inr, ℕ, ◌<◌, ◌≤◌, Bool, true, false, cond, List, [], ◌∷◌, ◌++◌, Option, Some, None, length, option_map, refl, sym, ap, subst, arith}
use Rattle.std.specs.Prelude.{Result, Ok, Err}
use Rattle.std.specs.List.{AllByRecursion, flat_map}
use Rattle.std.specs.Str.{bytes_eq}
use Rattle.std.proofs.lemmas.Bool.{cases_lt}
use Rattle.board_core.specs.Delays.{most_delay}
use Rattle.move_msg.specs.Heard.{heard_in}
use Rattle.move_msg.specs.Messages.{message_text}
use Rattle.move_msg.proofs.HeardLaws.{heard}
use Rattle.move_msg.specs.declared.arbiter_id.ArbiterId.{ArbiterId}
use Rattle.move_msg.specs.declared.message.Message.{Message}
use Rattle.move_msg.specs.declared.message.Message.TheVariants.{Move, Ack, Verdict, Fetch}
use Rattle.move_msg.specs.declared.message.MessageFault.{MessageFault}
use Rattle.move_msg.specs.declared.stamp.Stamp.{Stamp}
use Rattle.arbiter_core.specs.Answering.{Answer, Refuses as RefusesWith, answer_heard, answer_to}
use Rattle.arbiter_core.specs.Delivers.{Delivers, Exchange, Moment, RefusesOrSends, in_game}
use Rattle.arbiter_core.specs.Keeping.{KeeperFacts}
use Rattle.arbiter_core.specs.Opens as opening
use Rattle.arbiter_core.specs.Setups.{SetupView, rules_at}
use Rattle.arbiter_core.specs.Views.{View}
use Rattle.arbiter_core.specs.declared.fault.DeliverFault.{DeliverFault}
use Rattle.arbiter_core.specs.declared.fault.DeliverFault.TheVariants.{Down, NotAMessage, Stranger}
use Rattle.arbiter_core.specs.declared.fault.OpenFault.TheVariants as open_fault
use Rattle.arbiter_server.specs.Acts.{Action, DatagramReply, Opening, Unread, Strange, Refuses, Opens, Answers, Closes, all_replies, game_of}
use Rattle.arbiter_server.specs.Folders.{Keepers}
use Rattle.arbiter_server.specs.Games.{AnswersTo, ClosesTo, CommonView, Fresh, Goes, Open, OpensTo, Shut, life_at}
use Rattle.relay_world.specs.Worlds.{Judged}
use Rattle.timeline.specs.Events.{Event}
use Rattle.timeline.specs.Outsides.{Outside}
use Rattle.game_folder.specs.Drafts.{DraftView}
use Rattle.game_folder.specs.Holdings.{GamesFacts}
use Rattle.game_server.specs.Rounds.{Heard}
use Rattle.game_server.specs.Runs.{with_last}
use Rattle.game_server.specs.Seats.{common, open_at, seat_moment}
use Rattle.game_server.specs.Sending.{request}
use Rattle.game_server.specs.Starting.{opener, request_of}
use Rattle.game_server.specs.declared.seat.Seat.{Seat}
use Rattle.game_server.specs.declared.server.Server.{Server}
use Rattle.served_games.specs.Durable.{KeepsAtOnce, LastsBehind, ServedRun, behind, events_of_all, heard_in_run, left_before}
use Rattle.served_games.specs.PlaceKeepers.{PlaceKeeper, place_facts, place_keepers}
use Rattle.served_games.specs.ServedGames.{AreOverLeft, IsAt, OpenedGame, acts_in, all_acts, game_at, heard_in_turns, is_for, reply_for, reply_to}
use Rattle.served_games.specs.Unasked.{Begins, WithNone, WithOne}
use Rattle.served_games.proofs.Enduring.{closed_at, runs_last}
use Rattle.served_games.proofs.Finding.{left_act}
use Rattle.served_games.proofs.Going.{Acts, Life, alone, goes_join, opening_on, over_first, over_rest, own_join, playing_on, plays_join}
use Rattle.served_games.proofs.OneGames.{begun_hears}
use Rattle.served_games.proofs.Running.{all_played, before, games_are_played, stays_all, stays_on, turns_stay}
use Rattle.theorems.specs.Interleavings.{IsHostOf, IsRunOfHost}
use Rattle.theorems.specs.Served.{AreRequests, GoesAsHost, IsHostedRun, IsRequest, IsRunAt, ServedAreHosted, ServedFrontsAreHosted, ServedRunsAreHosted, requested_in, unanswered}
use Rattle.theorems.proofs.Weaving.{is_good, is_up}

-- ---- an answer to a request changes nothing

same_moment : {K : Type 0} (at after : Moment K) → after.arbiter ≡ at.arbiter → after.keeper ≡ at.keeper → after ≡ at
same_moment {K = K} at after e f = by after.arbiter after.keeper e f
  where
    by : (a : View) (b : K) → a ≡ at.arbiter → b ≡ at.keeper → ◌≡◌ {A = Moment K} (record { arbiter = a; keeper = b }) (record { arbiter = at.arbiter; keeper = at.keeper })
    by a b e f = cc

module _ {K : Type 0} (facts : KeeperFacts K) (at : Moment K) (e : Exchange K) where
  abbrev v : View
  v = at.arbiter

  abbrev Came : Answer → Type 0
  Came a = RefusesOrSends v at.keeper e.after.keeper e.after.arbiter e.told a

  refused_so : (fault : DeliverFault) → Came (RefusesWith fault) → e.after ≡ at
  refused_so fault u = same_moment at e.after u.arbiter u.keeper

  abbrev said : Result Message DeliverFault → Answer
  said r = answer_heard (rules_at v.setup) v.me v.kept v.window r

  fetched_so : (stamp : Stamp) (who : ArbiterId) (number wanted : ℕ) → Came (answer_to (rules_at v.setup) v.me v.kept v.window (Fetch stamp who number wanted)) → e.after ≡ at
  unfolding answer_to
  fetched_so stamp who number wanted (inl u) = same_moment at e.after u.arbiter u.keeper
  fetched_so stamp who number wanted (inr u) = same_moment at e.after u.1.arbiter u.1.keeper

  request_stays : (r : Result Message MessageFault) → IsRequest r → (down : Bool) → Came (cond down (RefusesWith Down) (said (in_game v.me.stamp r))) → e.after ≡ at
  request_stays r is true h = refused_so Down h
  request_stays (Err fault) is false h = refused_so (NotAMessage fault) h
  request_stays (Ok (Move stamp sender number m)) is false h = absurd is
  request_stays (Ok (Ack stamp who count)) is false h = absurd is
  request_stays (Ok (Verdict stamp who ply verdict)) is false h = absurd is
  request_stays (Ok (Fetch stamp who number wanted)) is false h = by (bytes_eq stamp v.me.stamp) h
    where
      by : (b : Bool) → Came (said (cond b (Ok (Fetch stamp who number wanted)) (Err Stranger))) → e.after ≡ at
      by true k = fetched_so stamp who number wanted k
      by false k = refused_so Stranger k

  stays_so : Delivers facts at e → IsRequest (heard_in e.datagram) → e.after ≡ at
  stays_so d is = request_stays (heard_in e.datagram) is v.is_down d.answered

-- ---- acts without their answers

-- each answer among them is to a request
OnRequest : {K : Type 0} → Action K → Type 0
OnRequest (Unread datagram fault) = Unit {0}
OnRequest (Strange stamp datagram tried why) = Unit {0}
OnRequest (Refuses stamp datagram over fault) = Unit {0}
OnRequest (Opens stamp over arbiter) = Unit {0}
OnRequest (Answers stamp e) = IsRequest (heard_in e.datagram)
OnRequest (Closes stamp left) = Unit {0}

abbrev IsReplyTo : DatagramReply → Type 0
IsReplyTo r = IsRequest (heard_in r.datagram)

on_requests : (acts : Acts) → AllByRecursion IsReplyTo (all_replies acts) → AllByRecursion OnRequest acts
unfolding OnRequest
on_requests [] h = tt
on_requests (Unread datagram fault ∷ acts) h = (tt, on_requests acts h.1)
on_requests (Strange stamp datagram tried why ∷ acts) h = (tt, on_requests acts h.1)
on_requests (Refuses stamp datagram over fault ∷ acts) h = (tt, on_requests acts h.1)
on_requests (Opens stamp over arbiter ∷ acts) h = (tt, on_requests acts h)
on_requests (Answers stamp e ∷ acts) h = (h.0, on_requests acts h.1)
on_requests (Closes stamp left ∷ acts) h = (tt, on_requests acts h)

replies_join : (xs ys : List DatagramReply) → AllByRecursion IsReplyTo xs → AllByRecursion IsReplyTo ys → AllByRecursion IsReplyTo (xs ++ ys)
replies_join [] ys p q = q
replies_join (x ∷ xs) ys p q = (p.0, replies_join xs ys p.1 q)

replies_so : (stamp : List ℕ) (unasked : List Heard) → AreRequests unasked → AllByRecursion IsReplyTo (flat_map (reply_for stamp) unasked)
replies_so stamp [] h = tt
replies_so stamp (x ∷ xs) h = replies_join (reply_for stamp x) (flat_map (reply_for stamp) xs) (one (is_for stamp x)) (replies_so stamp xs h.1)
  where
    one : (b : Bool) → AllByRecursion IsReplyTo (cond b (reply_to x ∷ []) [])
    one true = (h.0, tt)
    one false = tt

pub own_rest : (stamp : List ℕ) (acts : Acts) → AllByRecursion (λ act. game_of act ≡ Some stamp) acts → AllByRecursion (λ act. game_of act ≡ Some stamp) (unanswered acts)
own_rest stamp [] h = tt
own_rest stamp (Unread datagram fault ∷ acts) h = (h.0, own_rest stamp acts h.1)
own_rest stamp (Strange of datagram tried why ∷ acts) h = (h.0, own_rest stamp acts h.1)
own_rest stamp (Refuses of datagram over fault ∷ acts) h = (h.0, own_rest stamp acts h.1)
own_rest stamp (Opens of over arbiter ∷ acts) h = (h.0, own_rest stamp acts h.1)
own_rest stamp (Answers of e ∷ acts) h = own_rest stamp acts h.1
own_rest stamp (Closes of left ∷ acts) h = (h.0, own_rest stamp acts h.1)

abbrev IsUp : Life → Type 0
IsUp Fresh = Unit {0}
IsUp (Shut left) = Unit {0}
IsUp (Open at) = at.arbiter.is_down ≡ false

module _ {G : Type 0} (facts : GamesFacts G) (place : facts.Place) (t : CommonView) (game : Judged) (who : ArbiterId) (of : IsHostOf game who t) where
  abbrev Ks : Keepers PlaceKeeper
  Ks = place_keepers facts place

  pub opens_up : (old new : Life) (o : Opening PlaceKeeper) (v : View) → OpensTo Ks t game.stamp old o (Ok v) new → v.is_down ≡ false
  opens_up old new o v h = by (cases_lt most_delay o.setup.delay)
    where
      by : (most_delay < o.setup.delay) ⊎ (o.setup.delay ≤ most_delay) → v.is_down ≡ false
      by (inr few) = let g = h.opening.good (is_good game who t of o.setup h.game few) in is_up place_facts o.setup g.0 o.before o.now v g.2
      by (inl more) =
          let b = h.opening.bad (λ good. let few = good.delay in omega (arith, more, few)) in
          absurd (bad b.0)
        where
          bad : ◌≡◌ {A = opening.OpenResult} (Ok v) (Err open_fault.BadSetup) → ⊥
          bad e = cc

  closes_up : (old new : Life) (left : PlaceKeeper) → ClosesTo old left new → IsUp new
  closes_up Fresh new left h = absurd h
  closes_up (Shut before) new left h = absurd h
  closes_up (Open at) new left h = subst IsUp (sym h.1) tt

  answers_stay : (old new : Life) (e : Exchange PlaceKeeper) → IsUp old → AnswersTo Ks old e new → IsRequest (heard_in e.datagram) → new ≡ old
  answers_stay Fresh new e up h is = absurd h
  answers_stay (Shut left) new e up h is = absurd h
  answers_stay (Open at) new e up h is =
      h.1 ∙ ap (λ (m : Moment PlaceKeeper). life_at m) (stays_so place_facts at e h.0 is) ∙ ap (λ (b : Bool). cond {A = Life} b (Shut at.keeper) (Open at)) up

  goes_rest : (old new : Life) (acts : Acts) → IsUp old → Goes Ks t game.stamp old acts new → AllByRecursion OnRequest acts → Goes Ks t game.stamp old (unanswered acts) new
  unfolding OnRequest
  goes_rest old new [] up h r = h
  goes_rest old new (Unread datagram fault ∷ acts) up h r = absurd h.1
  goes_rest old new (Strange stamp datagram tried why ∷ acts) up h r = (h.0, h.1, goes_rest h.0 new acts (subst IsUp (sym h.1.2) up) h.2 r.1)
  goes_rest old new (Refuses stamp datagram o fault ∷ acts) up h r = (h.0, h.1, goes_rest h.0 new acts (subst IsUp (sym h.1.new_is) tt) h.2 r.1)
  goes_rest old new (Opens stamp o v ∷ acts) up h r = (h.0, h.1, goes_rest h.0 new acts (subst IsUp (sym h.1.new_is) (opens_up old h.0 o v h.1)) h.2 r.1)
  goes_rest old new (Answers stamp e ∷ acts) up h r =
      let same = answers_stay old h.0 e up h.1 r.0 in
      subst (λ (l : Life). Goes Ks t game.stamp l (unanswered acts) new) same (goes_rest h.0 new acts (subst IsUp (sym same) up) h.2 r.1)
  goes_rest old new (Closes stamp left ∷ acts) up h r = (h.0, h.1, goes_rest h.0 new acts (closes_up old h.0 left h.1) h.2 r.1)

  closes_shut : (old new : Life) (left : PlaceKeeper) → ClosesTo old left new → new ≡ Shut left
  closes_shut Fresh new left h = absurd h
  closes_shut (Shut before) new left h = absurd h
  closes_shut (Open at) new left h = h.1

  answers_over : (before : PlaceKeeper) (old new : Life) (e : Exchange PlaceKeeper) (acts : Acts) → AnswersTo Ks old e new → AreOverLeft (life_at e.after) acts → AreOverLeft (left_before before new) acts
  answers_over before Fresh new e acts h over = absurd h
  answers_over before (Shut left) new e acts h over = absurd h
  answers_over before (Open at) new e acts h over = subst (λ (l : Life). AreOverLeft (left_before before l) acts) (sym h.1) (subst (λ (l : Life). AreOverLeft l acts) (left_act before (Open at) (Answers game.stamp e)) over)

  -- the openings among acts are over what was left, without the answers too
  over_unanswered : (before : PlaceKeeper) (old new : Life) (acts : Acts) → IsUp old → Goes Ks t game.stamp old acts new → AllByRecursion OnRequest acts → AreOverLeft (left_before before old) acts → AreOverLeft (left_before before old) (unanswered acts)
  unfolding OnRequest
  over_unanswered before old new [] up h r over = over
  over_unanswered before old new (Unread datagram fault ∷ acts) up h r over = absurd h.1
  over_unanswered before old new (Strange stamp datagram tried why ∷ acts) up h r over =
      (tt, subst (λ (l : Life). AreOverLeft (left_before before l) (unanswered acts)) h.1.2 (over_unanswered before h.0 new acts (subst IsUp (sym h.1.2) up) h.2 r.1 (subst (λ (l : Life). AreOverLeft (left_before before l) acts) (sym h.1.2) over.1)))
  over_unanswered before old new (Refuses stamp datagram o fault ∷ acts) up h r over =
      (over.0, subst (λ (l : Life). AreOverLeft (left_before before l) (unanswered acts)) h.1.new_is (over_unanswered before h.0 new acts (subst IsUp (sym h.1.new_is) tt) h.2 r.1 (subst (λ (l : Life). AreOverLeft (left_before before l) acts) (sym h.1.new_is) over.1)))
  over_unanswered before old new (Opens stamp o v ∷ acts) up h r over =
      (over.0, subst (λ (l : Life). AreOverLeft (left_before before l) (unanswered acts)) h.1.new_is (over_unanswered before h.0 new acts (subst IsUp (sym h.1.new_is) (opens_up old h.0 o v h.1)) h.2 r.1 (subst (λ (l : Life). AreOverLeft (left_before before l) acts) (sym h.1.new_is) over.1)))
  over_unanswered before old new (Answers stamp e ∷ acts) up h r over =
      let same = answers_stay old h.0 e up h.1 r.0 in
      subst (λ (l : Life). AreOverLeft (left_before before l) (unanswered acts)) same (over_unanswered before h.0 new acts (subst IsUp (sym same) up) h.2 r.1 (answers_over before old h.0 e acts h.1 over.1))
  over_unanswered before old new (Closes stamp left ∷ acts) up h r over =
      let shut = closes_shut old h.0 left h.1 in
      (tt, subst (λ (l : Life). AreOverLeft (left_before before l) (unanswered acts)) shut (over_unanswered before h.0 new acts (closes_up old h.0 left h.1) h.2 r.1 (subst (λ (l : Life). AreOverLeft (left_before before l) acts) (sym shut) over.1)))

  -- ---- a game in a run

  module _ (unasked : List Heard) (requests : AreRequests unasked) (begun : Option (Moment DraftView)) (heard : List Heard) (p : OpenedGame facts place t game.stamp unasked begun heard) where
    abbrev opened : Acts
    opened = all_acts p.first

    abbrev played : Acts
    played = all_acts p.each

    -- those by which it was opened, without their answers
    asked_so : AllByRecursion OnRequest opened
    asked_so = on_requests opened (subst (AllByRecursion IsReplyTo) (sym (opening_on facts place t game.stamp unasked begun heard p).on.replies_are) (replies_so game.stamp unasked requests))

    opened_so : AreOverLeft Fresh (acts_in p) → Goes Ks t game.stamp Fresh opened p.mid
    opened_so over = (opening_on facts place t game.stamp unasked begun heard p).on.goes (over_first facts place t game.stamp unasked begun heard p over)

    pub early_goes : AreOverLeft Fresh (acts_in p) → Goes (place_keepers facts place) t game.stamp Fresh (unanswered (all_acts p.first)) p.mid
    early_goes over = goes_rest Fresh p.mid opened tt (opened_so over) asked_so

    pub early_over : (before : PlaceKeeper) → AreOverLeft Fresh (acts_in p) → AreOverLeft (Shut before) (all_acts p.first) → AreOverLeft (Shut before) (unanswered (all_acts p.first))
    early_over before over first = over_unanswered before Fresh p.mid opened tt (opened_so over) asked_so first

    pub is_run : AreOverLeft Fresh (acts_in p) → IsRunOfHost Ks game who (unanswered opened ++ played)
    is_run over =
        let opens = opening_on facts place t game.stamp unasked begun heard p in
        let plays = playing_on facts place t game.stamp unasked begun heard p in
        let early = early_goes over in
        let late = plays.on.goes (over_rest facts place t game.stamp unasked begun heard p over) in
        let own = own_join game.stamp (unanswered opened) played (own_rest game.stamp opened opens.on.own) plays.on.own in
        record {
          common = t;
          of = of;
          life = p.life;
          goes = subst (λ (l : Acts). Goes Ks t game.stamp Fresh l p.life) (sym (alone facts place t game.stamp (unanswered opened ++ played) own)) (goes_join Ks t game.stamp Fresh p.mid p.life (unanswered opened) played early late);
        }

  -- ---- what is requested

  module _ {F : Type 0} (unasked : List Heard) (requests : AreRequests unasked) (begun : Server G F) (heard : List Heard) where
    asks_so : (k : Option (Seat F)) (life : Life) → IsAt (option_map (seat_moment begun.shared.tables) k) life → request_of begun.shared.tables k ≡ requested_in life
    asks_so None Fresh at = refl
    asks_so None (Shut left) at = refl
    asks_so None (Open now) at = absurd at
    asks_so (Some seat) Fresh at = absurd at
    asks_so (Some seat) (Shut left) at = absurd at
    asks_so (Some seat) (Open now) at = ap (λ (m : Moment DraftView). request m.arbiter) at.same

    goes_as : OpenedGame facts place t game.stamp unasked (game_at begun game.stamp) heard → GoesAsHost facts place t game who unasked begun heard
    goes_as p = record { its = p; asks = asks_so (open_at begun game.stamp) p.mid p.at; run = is_run unasked requests (game_at begun game.stamp) heard p }

-- ---- how it begins

is_request : (r : Result Message MessageFault) (stamp : Stamp) → r ≡ Ok (opener stamp) → IsRequest r
is_request r stamp is = subst IsRequest (sym is) tt

opener_heard : (stamp : Stamp) → length stamp ≡ 16 → heard_in (message_text (opener stamp)) ≡ Ok (opener stamp)
opener_heard stamp size = heard (message_text (opener stamp)) (opener stamp) (record { in_range = (omega arith, omega arith, omega arith); stamp = size; text = refl })

begun_requests : {T P F K S L G : Type 0} (o : Outside T P F K S L) (facts : GamesFacts G) (first old : Server G F) (unasked : List Heard) → Begins o facts first unasked old → AreRequests unasked
begun_requests o facts first old unasked (WithNone same none) = subst AreRequests (sym none) tt
begun_requests o facts first old unasked (WithOne stamp result events size u is) = subst AreRequests (sym is) (is_request (heard_in (message_text (opener stamp))) stamp (opener_heard stamp size), tt)

-- ---- runs

pub served_are_hosted : {T P F K S L G : Type 0} (o : Outside T P F K S L) (facts : GamesFacts G) → ServedAreHosted o facts
served_are_hosted o facts game who first old new unasked most n form texts to earlier later result none of begins run =
    let hears = begun_hears o facts first old unasked begins in
    let requests = begun_requests o facts first old unasked begins in
    let p = all_played o facts game.stamp first old Fresh unasked hears (closed_at first (open_at first game.stamp) (none game.stamp)) in
    let turns = with_last run.turns run.last in
    let q = before o facts game.stamp first old p.life (heard_in_turns turns) (game_at new game.stamp) (stays_all o facts game.stamp first old unasked hears)
    (games_are_played o facts form texts old new turns game.stamp p.life run.in_turn p.at) in
    goes_as facts (facts.place first.shared.games) (common first) game who of unasked requests old (heard_in_turns turns)
    (record { first = p.each; mid = p.life; opens = p.plays; at = p.at; each = q.each; life = q.life; plays = q.plays })

pub fronts_are_hosted : {T P F K S L G : Type 0} (o : Outside T P F K S L) (facts : GamesFacts G) → ServedFrontsAreHosted o facts
fronts_are_hosted o facts game who first old mid new unasked late turns form texts none of begins in_turns hears_late =
    let hears = begun_hears o facts first old unasked begins in
    let requests = begun_requests o facts first old unasked begins in
    let place = facts.place first.shared.games in
    let t = common first in
    let p = all_played o facts game.stamp first old Fresh unasked hears (closed_at first (open_at first game.stamp) (none game.stamp)) in
    let s = stays_all o facts game.stamp first old unasked hears in
    let q = before o facts game.stamp first old p.life (heard_in_turns turns) (game_at mid game.stamp) s (games_are_played o facts form texts old mid turns game.stamp p.life in_turns p.at) in
    let r = before o facts game.stamp first mid q.life late (game_at new game.stamp) (stays_on o facts first old mid s (turns_stay o facts game.stamp form texts old mid turns in_turns))
    (all_played o facts game.stamp mid new q.life late hears_late q.at) in
    goes_as facts place t game who of unasked requests old (heard_in_turns turns ++ late)
    (record { first = p.each; mid = p.life; opens = p.plays; at = p.at; each = q.each ++ r.each; life = r.life; plays = plays_join facts place t game.stamp p.life q.life r.life (heard_in_turns turns) late q.each r.each q.plays r.plays })

each_hosted : {T P F K S L G : Type 0} (o : Outside T P F K S L) (facts : GamesFacts G) (place : facts.Place) (game : Judged) (who : ArbiterId) (setup : SetupView) (past : List Event) (runs : List (ServedRun G F))
    → AllByRecursion (IsRunAt game who) runs → AllByRecursion (LastsBehind o facts place game.stamp setup past) runs
    → AllByRecursion (λ (r : ServedRun G F). IsHostedRun facts place (common r.old) game who r.unasked r.begun (heard_in_run r)) runs
unfolding goes_as
each_hosted o facts place game who setup past [] of lasts = tt
each_hosted o facts place game who setup past (r ∷ rs) of lasts = (
  record { goes = goes_as facts place (common r.old) game who of.0.of r.unasked of.0.requests r.begun (heard_in_run r) lasts.0.game; over = lasts.0.over },
  each_hosted o facts place game who setup past rs of.1 lasts.1,
)

pub runs_are_hosted : {T P F K S L G : Type 0} (o : Outside T P F K S L) (facts : GamesFacts G) → KeepsAtOnce facts → ServedRunsAreHosted o facts
runs_are_hosted o facts at_once game who place setup past first runs mine known are of durable =
    each_hosted o facts place game who setup (behind past (events_of_all runs)) runs of (runs_last o facts at_once place game.stamp setup past first runs mine known are durable)
