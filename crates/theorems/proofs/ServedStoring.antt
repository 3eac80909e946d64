-- Two servers of one game over stores, or over a store and files, come to a net.
use Rattle.std.proofs.Common.{◌≡◌, ◌∙◌, inl, ℕ, Bool, true, false, cond, List, [], ◌∷◌, ◌++◌, Option, Some, None, refl, sym, ap, subst}
use Rattle.std.specs.List.{AllByRecursion, flat_map}
use Rattle.move_msg.specs.declared.arbiter_id.ArbiterId.{ArbiterId}
use Rattle.move_msg.specs.declared.arbiter_id.ArbiterId.TheVariants.{A, B}
use Rattle.move_msg.specs.declared.message.Message.{Message}
use Rattle.arbiter_core.specs.Delivers.{Moment}
use Rattle.arbiter_core.specs.Setups.{SetupView}
use Rattle.arbiter_server.proofs.Turning.{itself}
use Rattle.arbiter_server.specs.Acts.{Action, Unread, Strange, Refuses, Opens, Answers, Closes, game_of, is_stamp}
use Rattle.arbiter_server.specs.Folders.{Keepers}
use Rattle.arbiter_server.specs.Games.{CommonView, Fresh, Goes, Open, Shut}
use Rattle.relay_world.specs.Worlds.{Judged}
use Rattle.timeline.specs.Events.{Committed, Event}
use Rattle.timeline.specs.Outsides.{Outside}
use Rattle.game_folder.specs.Drafts.{DraftView}
use Rattle.game_folder.specs.Holdings.{GamesFacts}
use Rattle.game_folder.specs.Places.{KeptAt}
use Rattle.game_folder.specs.StoreGames.{StoredGames, StoredPlace, store_games_facts}
use Rattle.game_server.specs.Rounds.{Heard}
use Rattle.game_server.specs.Seats.{common}
use Rattle.served_games.specs.Durable.{AreServedRuns, IsDurableAfter, IsToldAt, KeepsAtOnce, MayFind, ServedRun, behind, events_of, events_of_all, heard_in_run, left_before}
use Rattle.served_games.specs.Lasting.{IsOfOne, left_by}
use Rattle.served_games.specs.PlaceKeepers.{Follows, PlaceKeeper, found_keeper, place_keepers}
use Rattle.served_games.specs.ServedGames.{AreOverLeft, Makes, MakesAll, OpenedGame, acts_in, all_acts, game_at, life_by, life_through, made_for}
use Rattle.served_games.specs.StoreRuns.{AllHeard, AsFound, BeginsOver, CommitsNone, FirstTurns, Front, LeadOn, NoTurns, NoneCommitted, OverImport, begun_of, heard_of, unasked_of}
use Rattle.served_games.proofs.Enduring.{all_both, all_first, all_rest, over_fresh, run_done}
use Rattle.served_games.proofs.Finding.{behind_join, durable_first, durable_rest, follows_kept, left_act, left_acts, over_join}
use Rattle.served_games.proofs.Going.{Acts, Life, leads_join, left_first, left_rest, opening_on, own_join, playing_on}
use Rattle.served_games.proofs.StoreRuns.{left_follows, over_follow, runs_are_led}
use Rattle.theorems.specs.Interleavings.{AtA, AtB, HostEvent, Asks, Does, Ends, IsHostOf, IsRunOfHost, Step, deeds_a, deeds_b, first_run, later_runs}
use Rattle.theorems.specs.Served.{AreRequests, IsRunAt, unanswered}
use Rattle.theorems.specs.ServedStores.{AreOver, AreOverInTurn, AreWovenInAnyOrder, FileActs, FileHappened, FileServer, HasLed, InStep, IsUnforged, NoneIsForged, StoreActs, StoreBesideFiles, StoreHappened, StoreServer, StoresAreWoven, happened, runs_in}
use Rattle.theorems.specs.ServedWeaves.{ActsIf, BothHeld, GoBoth, GoesOver, Held, IsFoundAt, LeavesKept, OpensGame, first_both, first_held, held_after, held_if, sent_in}
use Rattle.theorems.proofs.ServedWeaving.{act_life, served_are_woven}
use Rattle.theorems.proofs.Serving.{early_goes, early_over, is_run, own_rest}

-- ---- what is so of acts

all_so : (P Q : Action PlaceKeeper → Type 0) → ((act : Action PlaceKeeper) → P act → Q act) → (acts : Acts) → AllByRecursion P acts → AllByRecursion Q acts
all_so P Q f [] h = tt
all_so P Q f (act ∷ acts) h = (f act h.0, all_so P Q f acts h.1)

-- without the answers among them
rest_so : (P : Action PlaceKeeper → Type 0) (acts : Acts) → AllByRecursion P acts → AllByRecursion P (unanswered acts)
rest_so P [] h = tt
rest_so P (Unread datagram fault ∷ acts) h = (h.0, rest_so P acts h.1)
rest_so P (Strange of datagram tried why ∷ acts) h = (h.0, rest_so P acts h.1)
rest_so P (Refuses of datagram over fault ∷ acts) h = (h.0, rest_so P acts h.1)
rest_so P (Opens of over arbiter ∷ acts) h = (h.0, rest_so P acts h.1)
rest_so P (Answers of e ∷ acts) h = rest_so P acts h.1
rest_so P (Closes of left ∷ acts) h = (h.0, rest_so P acts h.1)

-- an opening of the setup is one of the game
opens_so : (game : Judged) (setup : SetupView) → setup.start ≡ game.rules.start → setup.delay ≡ game.rules.delay → (act : Action PlaceKeeper) → IsOfOne setup act → OpensGame game act
opens_so game setup start delay (Unread datagram fault) h = tt
opens_so game setup start delay (Strange of datagram tried why) h = tt
opens_so game setup start delay (Refuses of datagram o fault) h = (ap (λ (x : SetupView). x.start) h ∙ start, ap (λ (x : SetupView). x.delay) h ∙ delay)
opens_so game setup start delay (Opens of o arbiter) h = (ap (λ (x : SetupView). x.start) h ∙ start, ap (λ (x : SetupView). x.delay) h ∙ delay)
opens_so game setup start delay (Answers of e) h = tt
opens_so game setup start delay (Closes of left) h = tt

-- what an arbiter that runs put is kept
module _ {G : Type 0} (facts : GamesFacts G) (place : facts.Place) (stamp : List ℕ) where
  makes_so : (old : Life) (act : Action PlaceKeeper) (events : List Event) → Makes facts place stamp old act events → LeavesKept act
  makes_so old (Unread datagram fault) events m = absurd m
  makes_so old (Strange of datagram tried why) events m = tt
  makes_so old (Refuses of datagram o fault) events m = tt
  makes_so old (Opens of o arbiter) events m = m.1
  makes_so Fresh (Answers of e) events m = absurd m
  makes_so (Shut left) (Answers of e) events m = absurd m
  makes_so (Open at) (Answers of e) events m = m.4
  makes_so old (Closes of left) events m = tt

  all_makes : (old : Life) (acts : Acts) (events : List Event) → MakesAll facts place stamp old acts events → AllByRecursion LeavesKept acts
  all_makes old [] events m = tt
  all_makes old (act ∷ acts) events m = (makes_so old act m.0 m.3, all_makes (life_by old act) acts m.1 m.4)

-- ---- the acts of a run

module _ {G : Type 0} (facts : GamesFacts G) (place : facts.Place) (t : CommonView) (game : Judged) (who : ArbiterId) (of : IsHostOf game who t) where
  abbrev Ks : Keepers PlaceKeeper
  Ks = place_keepers facts place

  goes_life : (old new : Life) (acts : Acts) → Goes Ks t game.stamp old acts new → life_through old acts ≡ new
  goes_life old new [] h = sym h
  goes_life old new (act ∷ acts) h = ap (λ (l : Life). life_through l acts) (sym (act_life facts place game who t old h.0 act h.1)) ∙ goes_life h.0 new acts h.2

  module _ (unasked : List Heard) (requests : AreRequests unasked) (begun : Option (Moment DraftView)) (heard : List Heard) (p : OpenedGame facts place t game.stamp unasked begun heard) where
    record RunCounts (before : PlaceKeeper) : Type 0 where
      hosted : IsRunOfHost Ks game who (happened p)
      is : AreOver game before (happened p)
      life : life_through Fresh (happened p) ≡ p.life

    run_counts : (setup : SetupView) → setup.start ≡ game.rules.start → setup.delay ≡ game.rules.delay → (before : PlaceKeeper) → AreOverLeft Fresh (acts_in p) → AreOverLeft (Shut before) (acts_in p) → AllByRecursion (IsOfOne setup) (acts_in p) → RunCounts before
    run_counts setup start delay before fresh over one =
        let opened = all_acts p.first in
        let rest = unanswered opened in
        let played = all_acts p.each in
        let opens = opening_on facts place t game.stamp unasked begun heard p in
        let plays = playing_on facts place t game.stamp unasked begun heard p in
        let mid : life_through Fresh rest ≡ p.mid = goes_life Fresh p.mid rest (early_goes facts place t game who of unasked requests begun heard p fresh) in
        let leads : life_through (Shut before) rest ≡ left_before before p.mid = left_acts before Fresh rest ∙ ap (left_before before) mid in
        let leads_all : life_through (Shut before) opened ≡ left_before before p.mid = left_acts before Fresh opened ∙ ap (left_before before) opens.on.leads in
        let late : AreOverLeft (left_before before p.mid) played = subst (λ (l : Life). AreOverLeft l played) leads_all (left_rest (Shut before) opened played over) in
        let early : AreOverLeft (Shut before) rest = early_over facts place t game who of unasked requests begun heard p before fresh (left_first (Shut before) opened played over) in
        let of_game : AllByRecursion (OpensGame game) (acts_in p) = all_so (IsOfOne setup) (OpensGame game) (opens_so game setup start delay) (acts_in p) one in
        record {
          hosted = is_run facts place t game who of unasked requests begun heard p fresh;
          is = record {
            own = own_join game.stamp rest played (own_rest game.stamp opened opens.on.own) plays.on.own;
            over = over_join (Shut before) rest played early (subst (λ (l : Life). AreOverLeft l played) (sym leads) late);
            game_is = all_both (OpensGame game) rest played (rest_so (OpensGame game) opened (all_first (OpensGame game) opened played of_game)) (all_rest (OpensGame game) opened played of_game);
            kept = all_both LeavesKept rest played
                (rest_so LeavesKept opened (all_makes facts place game.stamp Fresh opened (flat_map (made_for game.stamp) unasked) opens.on.makes))
                (all_makes facts place game.stamp p.mid played (flat_map (made_for game.stamp) heard) plays.on.makes);
          };
          life = leads_join Fresh rest played ∙ ap (λ (l : Life). life_through l played) mid ∙ plays.on.leads;
        }

-- ---- the runs over a store

module _ {T P F K S L : Type 0} (o : Outside T P F K S L) (game : Judged) (who : ArbiterId) (place : StoredPlace) (setup : SetupView) (start : setup.start ≡ game.rules.start) (delay : setup.delay ≡ game.rules.delay) where
  abbrev Facts : GamesFacts (StoredGames S)
  Facts = store_games_facts o

  -- nothing was imported
  begins_is : (first : List Event) (was begins : Option (List ℕ)) → BeginsOver place.store_path game.stamp first was begins → NoneCommitted place.store_path game.stamp first → begins ≡ was
  begins_is first was begins (AsFound is) none = is
  begins_is first was begins (OverImport early late records is_done are nothing is) none =
      is ∙ (all_rest (CommitsNone place.store_path game.stamp) early (Committed place.store_path records is_done ∷ late) (subst (NoneCommitted place.store_path game.stamp) are none)).0 refl ∙ sym nothing

  requests_of : (r : ServedRun (StoredGames S) F) → AreRequests r.unasked → (front : Front place.store_path r) → AreRequests (unasked_of place.store_path game.stamp r front)
  requests_of r q (NoTurns none sends) = tt
  requests_of r q (FirstTurns first later are none sends) = q
  requests_of r q (AllHeard comes) = q

  record StoreChain (before : PlaceKeeper) (runs : List (ServedRun (StoredGames S) F)) (found : Option (List ℕ)) : Type 0 where
    acts : List Acts
    of_runs : InStep (StoreActs o place game.stamp setup) runs acts
    hosted : AllByRecursion (IsRunOfHost (place_keepers (store_games_facts o) place) game who) acts
    last : PlaceKeeper
    in_turn : AreOverInTurn game before acts last
    follows : Follows last (found_keeper found)

  store_chain : (before : PlaceKeeper) (was : Option (List ℕ)) → Follows before (found_keeper was) → (runs : List (ServedRun (StoredGames S) F)) (found : Option (List ℕ)) → AllByRecursion (IsRunAt game who) runs → AllByRecursion (λ (r : ServedRun (StoredGames S) F). NoneCommitted place.store_path game.stamp r.first) runs → LeadOn o place game.stamp setup was runs found → StoreChain before runs found
  store_chain before was f [] found of none led = record { acts = []; of_runs = tt; hosted = tt; last = before; in_turn = refl; follows = subst (λ (x : Option (List ℕ)). Follows before (found_keeper x)) (sym led) f }
  store_chain before was f (r ∷ rs) found of none led =
      let l = led.1 in
      let g = subst (λ (x : Option (List ℕ)). Follows before (found_keeper x)) (sym (begins_is r.first was l.begins l.from none.0)) f in
      let over = over_follow o place game.stamp setup before l.begins g (acts_in l.game) l.over in
      let path = place.store_path in
      let k = run_counts (store_games_facts o) place (common r.old) game who of.0.of (unasked_of path game.stamp r l.front) (requests_of r of.0.requests l.front) (begun_of path game.stamp r l.front) (heard_of path game.stamp r l.front) l.game
      setup start delay before (over_fresh before (acts_in l.game) over) over l.one in
      let next = left_follows o place game.stamp setup before l.begins g l.game.life led.0 l.left in
      let more = store_chain (left_by before (life_through Fresh (happened l.game))) led.0 (subst (λ (x : Life). Follows (left_by before x) (found_keeper led.0)) (sym k.life) next) rs found of.1 none.1 led.2 in
      record {
        acts = happened l.game ∷ more.acts;
        of_runs = (record { front = l.front; its = l.game; acts_are = refl }, more.of_runs);
        hosted = (k.hosted, more.hosted);
        last = more.last;
        in_turn = (k.is, more.in_turn);
        follows = more.follows;
      }

store_happened : {T P F K S L : Type 0} (o : Outside T P F K S L) (game : Judged) (who : ArbiterId) (at : StoreServer o game who) → StoreHappened o game who at
store_happened o game who at =
    let led = runs_are_led o at.place game.stamp at.setup at.past at.runs at.found at.are at.durable at.finds in
    let c = store_chain o game who at.place at.setup at.start at.delay (found_keeper None) led.0 (inl (at.none led.0 led.1)) at.runs at.found at.of at.imports led.2 in
    record { acts = c.acts; of_runs = c.of_runs; led = record { hosted = c.hosted; last = c.last; in_turn = c.in_turn; follows = c.follows } }

-- ---- the runs over files

module _ {T P F K S L G : Type 0} (o : Outside T P F K S L) (facts : GamesFacts G) (at_once : KeepsAtOnce facts) (game : Judged) (who : ArbiterId) (place : facts.Place) (setup : SetupView) (start : setup.start ≡ game.rules.start) (delay : setup.delay ≡ game.rules.delay) (mine : IsToldAt facts place game.stamp) where
  abbrev at : KeptAt
  at = facts.places place game.stamp

  record FileChain (before : PlaceKeeper) (past : List Event) (runs : List (ServedRun G F)) : Type 0 where
    acts : List Acts
    of_runs : InStep (FileActs facts place game.stamp) runs acts
    hosted : AllByRecursion (IsRunOfHost (place_keepers facts place) game who) acts
    last : PlaceKeeper
    in_turn : AreOverInTurn game before acts last
    follows : (found : Option (List ℕ)) → MayFind at game.stamp (behind past (events_of_all runs)) found → Follows last (found_keeper found)

  file_chain : (before : PlaceKeeper) (past : List Event) (runs : List (ServedRun G F)) → AreServedRuns o facts place game.stamp setup past runs → IsDurableAfter at game.stamp past (events_of_all runs) → ((found : Option (List ℕ)) → MayFind at game.stamp past found → Follows before (found_keeper found)) → AllByRecursion (IsRunAt game who) runs → FileChain before past runs
  file_chain before past [] are durable known of = record { acts = []; of_runs = tt; hosted = tt; last = before; in_turn = refl; follows = known }
  file_chain before past (r ∷ rs) are durable known of =
      let events = events_of r in
      let rest = events_of_all rs in
      let d = run_done o facts at_once place game.stamp setup mine before past r are.0 (durable_first at game.stamp past events rest durable) known in
      let k = run_counts facts place (common r.old) game who of.0.of r.unasked of.0.requests (game_at r.begun game.stamp) (heard_in_run r) d.game setup start delay before d.over d.ran.over d.ran.one in
      let more = file_chain (left_by before (life_through Fresh (happened d.game))) (behind past events) rs are.1 (durable_rest at game.stamp past events rest durable)
      (λ x m. subst (λ (l : Life). Follows (left_by before l) (found_keeper x)) (sym k.life) (d.found x m)) of.1 in
      record {
        acts = happened d.game ∷ more.acts;
        of_runs = (record { its = d.game; acts_are = refl }, more.of_runs);
        hosted = (k.hosted, more.hosted);
        last = more.last;
        in_turn = (k.is, more.in_turn);
        follows = λ x m. more.follows x (subst (λ (l : List Event). MayFind at game.stamp l x) (behind_join past events rest) m);
      }

file_happened : {T P F K S L G : Type 0} (o : Outside T P F K S L) (facts : GamesFacts G) → KeepsAtOnce facts → (game : Judged) (who : ArbiterId) (at : FileServer o facts game who) → FileHappened o facts game who at
file_happened o facts at_once game who at =
    let c = file_chain o facts at_once game who at.place at.setup at.start at.delay at.told (found_keeper None) at.past at.runs at.are at.durable (λ x m. inl (at.none x m)) at.of in
    record { acts = c.acts; of_runs = c.of_runs; led = record { hosted = c.hosted; last = c.last; in_turn = c.in_turn; follows = c.follows at.found at.finds } }

-- ---- both woven

abbrev CleanAt : Life → Type 0
CleanAt Fresh = Unit {0}
CleanAt (Shut left) = Unit {0}
CleanAt (Open now) = now.keeper.unkept ≡ None

act_clean : (life : Life) (act : Action PlaceKeeper) → CleanAt life → LeavesKept act → CleanAt (life_by life act)
act_clean life (Unread datagram fault) c k = c
act_clean life (Strange of datagram tried why) c k = c
act_clean life (Refuses of datagram o fault) c k = tt
act_clean life (Opens of o arbiter) c k = k
act_clean life (Answers of e) c k = by e.after.arbiter.is_down refl
  where
    by : (b : Bool) → e.after.arbiter.is_down ≡ b → CleanAt (cond b (Shut e.after.keeper) (Open e.after))
    by true down = tt
    by false runs = k runs
act_clean life (Closes of left) c k = tt

ends_at : (before : PlaceKeeper) (life : Life) (last : PlaceKeeper) (found : Option (List ℕ)) → last ≡ left_by before life → CleanAt life → Follows last (found_keeper found) → IsFoundAt before life found
ends_at before Fresh last found is c f = subst (λ (k : PlaceKeeper). Follows k (found_keeper found)) is f
ends_at before (Shut left) last found is c f = subst (λ (k : PlaceKeeper). Follows k (found_keeper found)) is f
ends_at before (Open now) last found is c f = follows_kept now.keeper found c (subst (λ (k : PlaceKeeper). Follows k (found_keeper found)) is f)

module _ (game : Judged) where
  its_own : (act : Action PlaceKeeper) → game_of act ≡ Some game.stamp → is_stamp game.stamp (game_of act) ≡ true
  its_own act is = ap (is_stamp game.stamp) is ∙ itself game.stamp

  -- what is still to come of a run and of those behind it
  record Ahead (h : Held) (run : Acts) (later : List Acts) (last : PlaceKeeper) : Type 0 where
    own : AllByRecursion (λ (act : Action PlaceKeeper). game_of act ≡ Some game.stamp) run
    over : AreOverLeft (left_before h.before h.life) run
    game_is : AllByRecursion (OpensGame game) run
    kept : AllByRecursion LeavesKept run
    in_turn : AreOverInTurn game (left_by h.before (life_through h.life run)) later last
    clean : CleanAt h.life

  abbrev AheadOf : Held → List (HostEvent PlaceKeeper) → PlaceKeeper → Type 0
  AheadOf h deeds last = Ahead h (first_run deeds) (later_runs deeds) last

  does_ahead : (h : Held) (act : Action PlaceKeeper) (run : Acts) (later : List Acts) (last : PlaceKeeper) → Ahead h (act ∷ run) later last → Ahead (held_if true h act) run later last
  does_ahead h act run later last a = record {
    own = a.own.1;
    over = subst (λ (l : Life). AreOverLeft l run) (left_act h.before h.life act) a.over.1;
    game_is = a.game_is.1;
    kept = a.kept.1;
    in_turn = a.in_turn;
    clean = act_clean h.life act a.clean a.kept.0;
  }

  deed_ahead : (h : Held) (deed : HostEvent PlaceKeeper) (deeds : List (HostEvent PlaceKeeper)) (last : PlaceKeeper) → AheadOf h (deed ∷ deeds) last → AheadOf (held_after game.stamp h deed) deeds last
  deed_ahead h (Does act) deeds last a = subst (λ (b : Bool). AheadOf (held_if b h act) deeds last) (sym (its_own act a.own.0)) (does_ahead h act (first_run deeds) (later_runs deeds) last a)
  deed_ahead h Asks deeds last a = a
  deed_ahead h Ends deeds last a = record { own = a.in_turn.0.own; over = a.in_turn.0.over; game_is = a.in_turn.0.game_is; kept = a.in_turn.0.kept; in_turn = a.in_turn.1; clean = tt }

  deed_over : (log : List Message) (h : Held) (deed : HostEvent PlaceKeeper) (deeds : List (HostEvent PlaceKeeper)) (last : PlaceKeeper) → AheadOf h (deed ∷ deeds) last → IsUnforged game log h deed → GoesOver game log h deed
  deed_over log h (Does act) deeds last a u = subst (λ (b : Bool). ActsIf b game log h act) (sym (its_own act a.own.0)) (record { over = a.over.0; game_is = a.game_is.0; kept = a.kept.0; came = u })
  deed_over log h Asks deeds last a u = u
  deed_over log h Ends deeds last a u = tt

  record Went (old : BothHeld) (steps : List (Step PlaceKeeper PlaceKeeper)) (end : BothHeld) (last its_last : PlaceKeeper) : Type 0 where
    go : GoBoth game old steps end
    at_a : Ahead end.a [] [] last
    at_b : Ahead end.b [] [] its_last

  went : (old : BothHeld) (steps : List (Step PlaceKeeper PlaceKeeper)) (end : BothHeld) (last its_last : PlaceKeeper) → AheadOf old.a (deeds_a steps) last → AheadOf old.b (deeds_b steps) its_last → NoneIsForged game old steps end → Went old steps end last its_last
  went old [] end last its_last a b n = record { go = n; at_a = subst (λ (x : BothHeld). Ahead x.a [] [] last) (sym n) a; at_b = subst (λ (x : BothHeld). Ahead x.b [] [] its_last) (sym n) b }
  went old (AtA deed ∷ steps) end last its_last a b n =
      let m = went (record { a = held_after game.stamp old.a deed; b = old.b; log = old.log ++ sent_in game.stamp old.a deed }) steps end last its_last (deed_ahead old.a deed (deeds_a steps) last a) b n.1 in
      record { go = (deed_over old.log old.a deed (deeds_a steps) last a n.0, m.go); at_a = m.at_a; at_b = m.at_b }
  went old (AtB deed ∷ steps) end last its_last a b n =
      let m = went (record { a = old.a; b = held_after game.stamp old.b deed; log = old.log ++ sent_in game.stamp old.b deed }) steps end last its_last a (deed_ahead old.b deed (deeds_b steps) its_last b) n.1 in
      record { go = (deed_over old.log old.b deed (deeds_b steps) its_last b n.0, m.go); at_a = m.at_a; at_b = m.at_b }

  first_ahead : (runs : List Acts) (deeds : List (HostEvent PlaceKeeper)) (last : PlaceKeeper) → runs_in deeds ≡ runs → AreOverInTurn game (found_keeper None) runs last → AheadOf first_held deeds last
  first_ahead runs deeds last is c =
      let x : AreOverInTurn game (found_keeper None) (runs_in deeds) last = subst (λ (l : List Acts). AreOverInTurn game (found_keeper None) l last) (sym is) c in
      record { own = x.0.own; over = x.0.over; game_is = x.0.game_is; kept = x.0.kept; in_turn = x.1; clean = tt }

woven : {G H : Type 0} (facts : GamesFacts G) (others : GamesFacts H) (place : facts.Place) (its : others.Place) (game : Judged) (runs its_runs : List Acts) (found its_found : Option (List ℕ)) → HasLed facts place game A runs found → HasLed others its game B its_runs its_found
    → AreWovenInAnyOrder (place_keepers facts place) (place_keepers others its) game runs its_runs found its_found
woven facts others place its game runs its_runs found its_found x y steps end is is_its forged =
    let w = went game (first_both game) steps end x.last y.last (first_ahead game runs (deeds_a steps) x.last is x.in_turn) (first_ahead game its_runs (deeds_b steps) y.last is_its y.in_turn) forged in
    served_are_woven facts others place its game steps end found its_found
    (subst (AllByRecursion (IsRunOfHost (place_keepers facts place) game A)) (sym is) x.hosted)
    (subst (AllByRecursion (IsRunOfHost (place_keepers others its) game B)) (sym is_its) y.hosted)
    w.go
    (ends_at end.a.before end.a.life x.last found w.at_a.in_turn w.at_a.clean x.follows)
    (ends_at end.b.before end.b.life y.last its_found w.at_b.in_turn w.at_b.clean y.follows)

pub stores_are_woven : {T P F K S L T' P' F' K' S' L' : Type 0} (o : Outside T P F K S L) (o' : Outside T' P' F' K' S' L') → StoresAreWoven o o'
stores_are_woven o o' game at_a at_b =
    let x = store_happened o game A at_a in
    let y = store_happened o' game B at_b in
    (x, (y, woven (store_games_facts o) (store_games_facts o') at_a.place at_b.place game x.acts y.acts at_a.found at_b.found x.led y.led))

pub store_beside_files : {T P F K S L T' P' F' K' S' L' G : Type 0} (o : Outside T P F K S L) (o' : Outside T' P' F' K' S' L') (facts : GamesFacts G) → KeepsAtOnce facts → StoreBesideFiles o o' facts
store_beside_files o o' facts at_once game = (
  λ at_a at_b.
      let x = store_happened o game A at_a in
      let y = file_happened o' facts at_once game B at_b in
      (x, (y, woven (store_games_facts o) facts at_a.place at_b.place game x.acts y.acts at_a.found at_b.found x.led y.led)),
  λ at_a at_b.
      let x = file_happened o' facts at_once game A at_a in
      let y = store_happened o game B at_b in
      (x, (y, woven facts (store_games_facts o) at_a.place at_b.place game x.acts y.acts at_a.found at_b.found x.led y.led)),
)
