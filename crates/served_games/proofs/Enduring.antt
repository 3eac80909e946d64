-- What was told lasts, by the events of all runs.
use Rattle.std.proofs.Common.{◌≡◌, inl, ◌∙◌, ℕ, Bool, true, false, cond, List, [], ◌∷◌, ◌++◌, Option, Some, None, flat_map, option_map, refl, sym, ap, subst}
use Rattle.std.specs.Prelude.{Ok, Err}
use Rattle.std.specs.List.{AllByRecursion, Contains}
use Rattle.std.proofs.lemmas.List.Concat.{flat_map-append}
use Rattle.std.proofs.lemmas.List.Elements.{All-contains_itself, recursion_from_All}
use Rattle.arbiter_core.specs.Opens.{OpenResult}
use Rattle.arbiter_core.specs.Setups.{SetupView}
use Rattle.arbiter_server.specs.Acts.{Action, Opening, Unread, Strange, Refuses, Opens, Answers, Closes}
use Rattle.arbiter_server.specs.Games.{CommonView, Fresh, Goes, GoesByAct, Open, OpensTo, Shut, setup_of}
use Rattle.arbiter_server.specs.declared.games.GameConfig.{GameConfig}
use Rattle.board_core.specs.declared.parts.Parts.{Parts}
use Rattle.system_io.specs.declared.recipient.Recipient.{Recipient}
use Rattle.timeline.specs.Events.{Event}
use Rattle.timeline.specs.Outsides.{Outside}
use Rattle.game_folder.specs.Holdings.{GamesFacts}
use Rattle.game_folder.specs.Places.{KeptAt}
use Rattle.game_server.specs.Rounds.{Heard, end_events, heard_events, round_sent}
use Rattle.game_server.specs.Runs.{Answers as AnswersRound, Deed, HearsNone, Turn, deed_events, run_events, turn_events}
use Rattle.game_server.specs.Seats.{common, open_at, seat_moment}
use Rattle.game_server.specs.declared.seat.Seat.{Seat}
use Rattle.game_server.specs.declared.server.Server.{Server}
use Rattle.served_games.specs.Durable.{AreServedRuns, AreToldAt, IsDurableAfter, IsFoundIn, IsServedRun, IsToldAt, KeepsAtOnce, LastsBehind, MayFind, RunsLast, ServedRun, StaysFound, behind, events_of, events_of_all, heard_in_run, made_of, turned_of, work_of}
use Rattle.served_games.specs.Lasting.{Between, IsOfOne, IsToldStill, PlaceRun, RanInTurn, RanOver, left_by}
use Rattle.served_games.specs.PlaceKeepers.{Follows, PlaceKeeper, found_keeper, place_keepers}
use Rattle.served_games.specs.ServedGames.{AreOverLeft, IsAt, Makes, MakesAll, OpenedGame, OpensBy, acts_in, all_acts, game_at, heard_by, heard_in_turns, is_for, life_by, made_for}
use Rattle.served_games.proofs.Finding.{behind_join, durable_first, durable_rest, found_stays}
use Rattle.served_games.proofs.Following.{opened_found}
use Rattle.served_games.proofs.Going.{Acts, Life, opened_goes, opening_on, over_first, over_rest, playing_on}
use Rattle.served_games.proofs.Lasting.{each_lasts}

-- ---- acts

pub over_fresh : (before : PlaceKeeper) (acts : Acts) → AreOverLeft (Shut before) acts → AreOverLeft Fresh acts
over_fresh before [] h = tt
over_fresh before (Unread datagram fault ∷ acts) h = (tt, over_fresh before acts h.1)
over_fresh before (Strange of datagram tried why ∷ acts) h = (tt, over_fresh before acts h.1)
over_fresh before (Refuses of datagram o fault ∷ acts) h = (tt, h.1)
over_fresh before (Opens of o arbiter ∷ acts) h = (tt, h.1)
over_fresh before (Answers of e ∷ acts) h = (tt, h.1)
over_fresh before (Closes of left ∷ acts) h = (tt, h.1)

-- all of two lists
pub all_first : {X : Type 0} (P : X → Type 0) (xs ys : List X) → AllByRecursion P (xs ++ ys) → AllByRecursion P xs
all_first P [] ys h = tt
all_first P (x ∷ xs) ys h = (h.0, all_first P xs ys h.1)

pub all_rest : {X : Type 0} (P : X → Type 0) (xs ys : List X) → AllByRecursion P (xs ++ ys) → AllByRecursion P ys
all_rest P [] ys h = h
all_rest P (x ∷ xs) ys h = all_rest P xs ys h.1

pub all_both : {X : Type 0} (P : X → Type 0) (xs ys : List X) → AllByRecursion P xs → AllByRecursion P ys → AllByRecursion P (xs ++ ys)
all_both P [] ys p q = q
all_both P (x ∷ xs) ys p q = (p.0, all_both P xs ys p.1 q)

-- what was made for a game happened in the run
module _ (Q : Event → Type 0) (stamp : List ℕ) where
  for_one : (h : Heard) (b : Bool) → AllByRecursion Q h.events → AllByRecursion Q (cond b h.events [])
  for_one h true q = q
  for_one h false q = tt

  pub for_made : (hs : List Heard) → AllByRecursion Q (flat_map made_of hs) → AllByRecursion Q (flat_map (made_for stamp) hs)
  for_made [] q = tt
  for_made (h ∷ hs) q =
      all_both Q (made_for stamp h) (flat_map (made_for stamp) hs) (for_one h (is_for stamp h) (all_first Q h.events (flat_map made_of hs) q)) (for_made hs (all_rest Q h.events (flat_map made_of hs) q))

  for_heard : (hs : List Heard) → AllByRecursion Q (flat_map heard_events hs) → AllByRecursion Q (flat_map (made_for stamp) hs)
  for_heard [] q = tt
  for_heard (h ∷ hs) q =
      let one = all_first Q (heard_events h) (flat_map heard_events hs) q in
      all_both Q (made_for stamp h) (flat_map (made_for stamp) hs) (for_one h (is_for stamp h) one.1) (for_heard hs (all_rest Q (heard_events h) (flat_map heard_events hs) q))

  for_deed : (to : List Recipient) (deed : Deed) → AllByRecursion Q (deed_events to deed) → AllByRecursion Q (flat_map (made_for stamp) (heard_by deed))
  for_deed to (AnswersRound r) q =
      let came = flat_map heard_events r.heard in
      let ends = end_events r.end in
      for_heard r.heard (all_first Q came ends (all_first Q (came ++ ends) (r.commits ++ round_sent to r.heard r.committed) q))
  for_deed to HearsNone q = tt

  pub for_turns : (to : List Recipient) (turns : List Turn) → AllByRecursion Q (run_events to turns) → AllByRecursion Q (flat_map (made_for stamp) (heard_in_turns turns))
  for_turns to [] q = tt
  for_turns to (turn ∷ turns) q =
      let one = all_first Q (deed_events to turn.deed) turn.lines (all_first Q (turn_events to turn) (run_events to turns) q) in
      subst (AllByRecursion Q) (sym (flat_map-append (made_for stamp) (heard_by turn.deed) (heard_in_turns turns)))
      (all_both Q (flat_map (made_for stamp) (heard_by turn.deed)) (flat_map (made_for stamp) (heard_in_turns turns)) (for_deed to turn.deed one) (for_turns to turns (all_rest Q (turn_events to turn) (run_events to turns) q)))

  pub for_run : {G F : Type 0} (r : ServedRun G F) → AllByRecursion Q (turned_of r) → AllByRecursion Q (flat_map (made_for stamp) (heard_in_run r))
  for_run r q =
      let all = run_events r.to r.turns in
      let rest = flat_map heard_events r.heard in
      subst (AllByRecursion Q) (sym (flat_map-append (made_for stamp) (heard_in_turns r.turns) r.heard))
      (all_both Q (flat_map (made_for stamp) (heard_in_turns r.turns)) (flat_map (made_for stamp) r.heard) (for_turns r.to r.turns (all_first Q all rest q)) (for_heard r.heard (all_rest Q all rest q)))

module _ {G : Type 0} (facts : GamesFacts G) (place : facts.Place) (t : CommonView) (stamp : List ℕ) (setup : SetupView) (Q : Event → Type 0)
    (one : (game : GameConfig) (events : List Event) → facts.finds place stamp (Ok game) events → AllByRecursion Q events → setup_of t game.name.items game.start game.delay ≡ setup) where
  opens_one : (old new : Life) (o : Opening PlaceKeeper) (told : OpenResult) (events : List Event) → OpensTo (place_keepers facts place) t stamp old o told new → OpensBy facts place stamp o events → AllByRecursion Q events → o.setup ≡ setup
  opens_one old new o told events h b q =
      let looked : AllByRecursion Q b.looked = all_first Q b.looked (b.taken ++ b.put) (subst (AllByRecursion Q) b.are q) in
      h.game.common ∙ ap (λ (x : List ℕ). setup_of t x o.setup.start o.setup.delay) b.name ∙ ap (λ (x : Parts). setup_of t b.game.name.items x o.setup.delay) b.start ∙ ap (λ (x : ℕ). setup_of t b.game.name.items b.game.start x) b.delay
      ∙ one b.game b.looked b.finds looked

  act_one : (old new made : Life) (act : Action PlaceKeeper) (events : List Event) → GoesByAct (place_keepers facts place) t stamp old act new → Makes facts place stamp made act events → AllByRecursion Q events → IsOfOne setup act
  act_one old new made (Unread datagram fault) events h m q = tt
  act_one old new made (Strange of datagram tried why) events h m q = tt
  act_one old new made (Refuses of datagram o fault) events h m q = opens_one old new o (Err fault) events h m q
  act_one old new made (Opens of o arbiter) events h m q = opens_one old new o (Ok arbiter) events h m.0 q
  act_one old new made (Answers of e) events h m q = tt
  act_one old new made (Closes of left) events h m q = tt

  pub all_one : (old new made : Life) (acts : Acts) (events : List Event) → Goes (place_keepers facts place) t stamp old acts new → MakesAll facts place stamp made acts events → AllByRecursion Q events → AllByRecursion (IsOfOne setup) acts
  all_one old new made [] events h m q = tt
  all_one old new made (act ∷ acts) events h m q =
      let both : AllByRecursion Q (m.0 ++ m.1) = subst (AllByRecursion Q) m.2 q in
      (act_one old h.0 made act m.0 h.1 m.3 (all_first Q m.0 m.1 both), all_one h.0 new (life_by made act) acts m.1 h.2 m.4 (all_rest Q m.0 m.1 both))

-- ---- runs

left_found : (at : KeptAt) (stamp : List ℕ) (past : List Event) (before : PlaceKeeper) (life : Life) → IsFoundIn at stamp past before life → (found : Option (List ℕ)) → MayFind at stamp past found → Follows (left_by before life) (found_keeper found)
left_found at stamp past before Fresh h found m = h found m
left_found at stamp past before (Shut left) h found m = h found m
left_found at stamp past before (Open now) h found m = inl (h found m)

pub closed_at : {G F : Type 0} (server : Server G F) (k : Option (Seat F)) → k ≡ None → IsAt (option_map (seat_moment server.shared.tables) k) Fresh
closed_at {F = F} server k none = subst (λ (x : Option (Seat F)). IsAt (option_map (seat_moment server.shared.tables) x) Fresh) (sym none) tt

module _ {T P F K S L G : Type 0} (o : Outside T P F K S L) (facts : GamesFacts G) (at_once : KeepsAtOnce facts) (place : facts.Place) (stamp : List ℕ) (setup : SetupView) (mine : IsToldAt facts place stamp) where
  abbrev at : KeptAt
  at = facts.places place stamp

  abbrev pub GameIn : ServedRun G F → Type 0
  GameIn r = OpenedGame facts place (common r.old) stamp r.unasked (game_at r.begun stamp) (heard_in_run r)

  abbrev Happened : ServedRun G F → Event → Type 0
  Happened r = Contains (work_of r)

  -- what one run does, and leaves
  pub record RunDone (before : PlaceKeeper) (past : List Event) (r : ServedRun G F) : Type 0 where
    pub game : GameIn r
    pub over : AreOverLeft Fresh (acts_in game)
    pub ran : RanOver facts place stamp setup before (record { acts = acts_in game; left = left_by before game.life })
    pub found : (found : Option (List ℕ)) → MayFind at stamp (behind past (events_of r)) found → Follows (left_by before game.life) (found_keeper found)

  events_join : (past : List Event) (r : ServedRun G F) → behind past (events_of r) ≡ behind (behind (behind past r.first) (work_of r)) r.tail
  events_join past r = behind_join past r.first (work_of r ++ r.tail) ∙ behind_join (behind past r.first) (work_of r) r.tail

  -- the same at a place
  abbrev DoneAt : PlaceKeeper → List Event → ServedRun G F → facts.Place → Type 0
  DoneAt before past r x = (game : OpenedGame facts x (common r.old) stamp r.unasked (game_at r.begun stamp) (heard_in_run r)) × AreOverLeft (Shut before) (acts_in game) × IsFoundIn (facts.places x stamp) stamp past before game.life

  pub run_done : (before : PlaceKeeper) (past : List Event) (r : ServedRun G F) → IsServedRun o facts place stamp setup past r → IsDurableAfter at stamp past (events_of r) → ((found : Option (List ℕ)) → MayFind at stamp past found → Follows before (found_keeper found)) → RunDone before past r
  run_done before past r is durable found = by f
    where
      a : List Event
      a = behind past r.first

      durable_work : IsDurableAfter at stamp (behind past r.first) (work_of r)
      durable_work = durable_first at stamp (behind past r.first) (work_of r) r.tail (durable_rest at stamp past r.first (work_of r ++ r.tail) durable)

      found_first : IsFoundIn at stamp (behind past r.first) before Fresh
      found_first = found_stays at stamp past r.first before Fresh is.first_stays found

      told : AreToldAt facts stamp r.old
      told = record {
        mine = subst (λ (x : facts.Place). IsToldAt facts x stamp) (sym is.there) mine;
        each = λ other seat some. absurd (let f : ◌≡◌ {A = Option (Seat F)} None (Some seat) = sym (is.closed other) ∙ some in cc);
      }

      f : DoneAt before (behind (behind past r.first) (work_of r)) r place
      f =
          subst (DoneAt before (behind (behind past r.first) (work_of r)) r) is.there
          (let q = opened_found o facts at_once stamp before is.form is.texts r.to r.old r.begun r.mid r.new r.unasked r.asked r.turns r.heard (behind past r.first) is.opens is.in_turns is.hears told (closed_at r.old (open_at r.old stamp) (is.closed stamp))
          (subst (λ (x : facts.Place). StaysFound (facts.places x stamp) stamp (behind (behind past r.first) (flat_map made_of r.unasked)) r.asked) (sym is.there) is.asked_stays)
          (subst (λ (x : facts.Place). IsDurableAfter (facts.places x stamp) stamp (behind past r.first) (work_of r)) (sym is.there) durable_work)
          (subst (λ (x : facts.Place). IsFoundIn (facts.places x stamp) stamp (behind past r.first) before Fresh) (sym is.there) found_first) in
          (q.game, q.over, q.found))

      of_one : (p : GameIn r) → AreOverLeft Fresh (acts_in p) → AllByRecursion (IsOfOne setup) (acts_in p)
      of_one p over =
          let t = common r.old in
          let begun = game_at r.begun stamp in
          let heard = heard_in_run r in
          let all : AllByRecursion (Happened r) (work_of r) = recursion_from_All (Happened r) (work_of r) (All-contains_itself (work_of r)) in
          let opens = opening_on facts place t stamp r.unasked begun heard p in
          let plays = playing_on facts place t stamp r.unasked begun heard p in
          let early = for_made (Happened r) stamp r.unasked (all_first (Happened r) (flat_map made_of r.unasked) (r.asked ++ turned_of r) all) in
          let late = for_run (Happened r) stamp r (all_rest (Happened r) r.asked (turned_of r) (all_rest (Happened r) (flat_map made_of r.unasked) (r.asked ++ turned_of r) all)) in
          all_both (IsOfOne setup) (all_acts p.first) (all_acts p.each)
          (all_one facts place t stamp setup (Happened r) is.one Fresh p.mid Fresh (all_acts p.first) (flat_map (made_for stamp) r.unasked) (opens.on.goes (over_first facts place t stamp r.unasked begun heard p over)) opens.on.makes early)
          (all_one facts place t stamp setup (Happened r) is.one p.mid p.life p.mid (all_acts p.each) (flat_map (made_for stamp) heard) (plays.on.goes (over_rest facts place t stamp r.unasked begun heard p over)) plays.on.makes late)

      by : DoneAt before (behind (behind past r.first) (work_of r)) r place → RunDone before past r
      by g =
          let p = g.0 in
          let acts = acts_in p in
          let t = common r.old in
          let over : AreOverLeft Fresh acts = over_fresh before acts g.1 in
          let goes : Goes (place_keepers facts place) t stamp Fresh acts p.life = opened_goes facts place t stamp r.unasked (game_at r.begun stamp) (heard_in_run r) p over in
          record {
            game = p;
            over = over;
            ran = record { common = t; life = p.life; goes = goes; one = of_one p over; over = g.1; stops = Between refl };
            found = λ k m. left_found at stamp (behind (behind past r.first) (work_of r)) before p.life g.2 k (is.tail_stays k (subst (λ (l : List Event). MayFind at stamp l k) (events_join past r) m));
          }

  -- all of them, one after another
  record RunsDone (before : PlaceKeeper) (past : List Event) (runs : List (ServedRun G F)) : Type 0 where
    places : List PlaceRun
    last : PlaceKeeper
    ran : RanInTurn facts place stamp setup before places last
    found : (found : Option (List ℕ)) → MayFind at stamp (behind past (events_of_all runs)) found → Follows last (found_keeper found)
    lasts : (later : List Event)
        → ((found : Option (List ℕ)) → MayFind at stamp later found → AllByRecursion (λ (r : PlaceRun). AllByRecursion (IsToldStill (found_keeper found)) r.acts) places)
        → AllByRecursion (LastsBehind o facts place stamp setup later) runs

  runs_done : (before : PlaceKeeper) (past : List Event) (runs : List (ServedRun G F)) → AreServedRuns o facts place stamp setup past runs → IsDurableAfter at stamp past (events_of_all runs) → ((found : Option (List ℕ)) → MayFind at stamp past found → Follows before (found_keeper found)) → RunsDone before past runs
  runs_done before past [] are durable found = record { places = []; last = before; ran = refl; found = found; lasts = λ later h. tt }
  runs_done before past (r ∷ rs) are durable found =
      let events = events_of r in
      let rest = events_of_all rs in
      let d = run_done before past r are.0 (durable_first at stamp past events rest durable) found in
      let m = runs_done (left_by before d.game.life) (behind past events) rs are.1 (durable_rest at stamp past events rest durable) d.found in
      record {
        places = record { acts = acts_in d.game; left = left_by before d.game.life } ∷ m.places;
        last = m.last;
        ran = (d.ran, m.ran);
        found = λ k may. m.found k (subst (λ (l : List Event). MayFind at stamp l k) (behind_join past events rest) may);
        lasts = λ later h. (record { game = d.game; over = d.over; lasts = λ k may. (h k may).0 }, m.lasts later (λ k may. (h k may).1));
      }

pub runs_last : {T P F K S L G : Type 0} (o : Outside T P F K S L) (facts : GamesFacts G) → KeepsAtOnce facts → RunsLast o facts
runs_last o facts at_once place stamp setup past first runs mine known are durable =
    let d = runs_done o facts at_once place stamp setup mine first past runs are durable known in
    d.lasts (behind past (events_of_all runs)) (λ k may. each_lasts facts place stamp setup first d.last (found_keeper k) d.places d.ran (d.found k may))
