-- Two hosts of one game come to a world of a schedule.
use Rattle.std.proofs.Common.{◌≡◌, ◌∙◌, ℕ, List, [], ◌∷◌, ◌++◌, refl, sym, subst}
use Rattle.std.specs.List.{AllByRecursion}
use Rattle.move_msg.specs.declared.arbiter_id.ArbiterId.{ArbiterId}
use Rattle.move_msg.specs.declared.arbiter_id.ArbiterId.TheVariants.{A, B}
use Rattle.arbiter_server.specs.Folders.{Keepers}
use Rattle.arbiter_core.specs.Delivers.{Exchange}
use Rattle.arbiter_server.specs.Acts as act
use Rattle.arbiter_server.specs.Acts.{Action, acts_of, game_of, is_stamp}
use Rattle.arbiter_server.specs.Games.{AnswersTo, ClosesTo, CommonView, Fresh, Goes, GoesByAct, GameStatus, Open, Shut}
use Rattle.arbiter_core.specs.Answering.{request_of}
use Rattle.relay_world.specs.Worlds.{Judged, listed}
use Rattle.theorems.specs.Nets as nets
use Rattle.theorems.specs.Nets.{SystemState, Site, first_net, site_of}
use Rattle.theorems.proofs.Netting.{arbiters_are_worlds, arbiters_tell_the_truth}
use Rattle.theorems.specs.Interleavings.{AreWoven, AtA, AtB, HostEvent, Asks, Does, Ends, GivesFor, GivesIf, HostsAreWorlds, HostsTellTheTruth, IsHostOf, IsRunOfHost, IsSiteOfLife, StandsAt, Step, TellsTheTruth, Interleaving, deeds_a, deeds_b, first_run, last_among, last_run, later_runs}
use Rattle.theorems.proofs.Seeing.{Seen, seen_facts}
use Rattle.theorems.proofs.Weaving.{Moves, NetGoes, act_goes}
use Rattle.theorems.proofs.Stopping.{stop_goes}

goes_join : (game : Judged) (old mid new : SystemState) (early late : List (nets.NetStep Seen)) → NetGoes game old early mid → NetGoes game mid late new → NetGoes game old (early ++ late) new
goes_join game old mid new [] late g h = subst (λ (n : SystemState). NetGoes game n late new) g h
goes_join game old mid new (one ∷ early) late g h = (g.0, g.1, goes_join game g.0 mid new early late g.2 h)

-- ---- acts lead to one life

module _ {K : Type 0} (s : Keepers K) (stamp : List ℕ) where
  one_answered : (old x y : GameStatus K) (e : Exchange K) → AnswersTo s old e x → AnswersTo s old e y → x ≡ y
  one_answered Fresh x y e h k = absurd h
  one_answered (Shut left) x y e h k = absurd h
  one_answered (Open at) x y e h k = h.1 ∙ sym k.1

  one_closed : (old x y : GameStatus K) (left : K) → ClosesTo old left x → ClosesTo old left y → x ≡ y
  one_closed Fresh x y left h k = absurd h
  one_closed (Shut before) x y left h k = absurd h
  one_closed (Open at) x y left h k = h.1 ∙ sym k.1

  one_life : (t u : CommonView) (old x y : GameStatus K) (a : Action K) → GoesByAct s t stamp old a x → GoesByAct s u stamp old a y → x ≡ y
  one_life t u old x y (act.Unread datagram fault) h k = absurd h
  one_life t u old x y (act.Strange of_game datagram tried why) h k = h.2 ∙ sym k.2
  one_life t u old x y (act.Refuses of_game datagram o fault) h k = h.new_is ∙ sym k.new_is
  one_life t u old x y (act.Opens of_game o arbiter) h k = h.new_is ∙ sym k.new_is
  one_life t u old x y (act.Answers of_game e) h k = one_answered old x y e h k
  one_life t u old x y (act.Closes of_game left) h k = one_closed old x y left h k

  one_end : (old : GameStatus K) (acts : List (Action K)) (x y : GameStatus K) (t u : CommonView) → Goes s t stamp old acts x → Goes s u stamp old acts y → x ≡ y
  one_end old [] x y t u h k = h ∙ sym k
  one_end old (a ∷ acts) x y t u h k =
      one_end k.0 acts x y t u (subst (λ l. Goes s t stamp l acts x) (one_life t u old h.0 k.0 a h.1 k.1) h.2) k.2

-- ---- the runs of one host

module _ {K : Type 0} (s : Keepers K) (game : Judged) (who : ArbiterId) where
  -- by a run's acts the game goes from one life to another
  pub record RunGoes (old : GameStatus K) (run : List (Action K)) (new : GameStatus K) : Type 0 where
    pub common : CommonView
    pub of : IsHostOf game who common
    pub goes : Goes s common game.stamp old (acts_of game.stamp run) new

  -- each later run begins with no game open
  abbrev pub RunsGo : GameStatus K → List (Action K) → List (List (Action K)) → GameStatus K → Type 0
  RunsGo old run [] new = RunGoes old run new
  RunsGo old run (next ∷ later) new = ((end : GameStatus K) × RunGoes old run end) × RunsGo Fresh next later new

  abbrev pub DeedsGo : GameStatus K → List (HostEvent K) → GameStatus K → Type 0
  DeedsGo old deeds new = RunsGo old (first_run deeds) (later_runs deeds) new

  a_run : (run : List (Action K)) → IsRunOfHost s game who run → (end : GameStatus K) × RunGoes Fresh run end
  a_run run r = (r.life, record { common = r.common; of = r.of; goes = r.goes })

  -- all of them lead to where the last one leads
  abbrev pub AllGo : List (Action K) → List (List (Action K)) → Type 0
  AllGo run later = (end : GameStatus K) × RunsGo Fresh run later end × RunGoes Fresh (last_among run later) end

  pub all_go : (run : List (Action K)) (later : List (List (Action K))) → AllByRecursion (IsRunOfHost s game who) (run ∷ later) → AllGo run later
  all_go run [] r = let x = a_run run r.0 in (x.0, x.1, x.1)
  all_go run (next ∷ later) r =
      let rest = all_go next later r.1 in
      (rest.0, (a_run run r.0, rest.1), rest.2)

  module _ (old new : SystemState) where
    abbrev GoesTo : GameStatus K → Type 0
    GoesTo life = Moves s.facts game old who life new

    first_act : (life end : GameStatus K) (a : Action K) (run : List (Action K)) → IsSiteOfLife s.facts life (site_of old who) → GivesIf (is_stamp game.stamp (game_of a)) s.facts game old who a new → RunGoes life (a ∷ run) end
        → (mid : GameStatus K) × GoesTo mid × RunGoes mid run end
    first_act life end a run here g r =
        let x = act_goes s r.common game who r.of old new (is_stamp game.stamp (game_of a)) life end a (acts_of game.stamp run) here g r.goes in
        (x.0, x.1, record { common = r.common; of = r.of; goes = x.2 })

    does : (life end : GameStatus K) (a : Action K) (run : List (Action K)) (later : List (List (Action K))) → IsSiteOfLife s.facts life (site_of old who) → GivesIf (is_stamp game.stamp (game_of a)) s.facts game old who a new → RunsGo life (a ∷ run) later end
        → (mid : GameStatus K) × GoesTo mid × RunsGo mid run later end
    does life end a run [] here g r = first_act life end a run here g r
    does life end a run (next ∷ later) here g r =
        let x = first_act life r.0.0 a run here g r.0.1 in
        (x.0, x.1, ((r.0.0, x.2), r.1))

    pub deed_goes : (life end : GameStatus K) (deed : HostEvent K) (deeds : List (HostEvent K)) → IsSiteOfLife s.facts life (site_of old who) → GivesFor s.facts game old who deed new → DeedsGo life (deed ∷ deeds) end
        → (mid : GameStatus K) × GoesTo mid × DeedsGo mid deeds end
    deed_goes life end (Does a) deeds here g r = does life end a (first_run deeds) (later_runs deeds) here g r
    deed_goes life end Asks deeds here g r = (
      life,
      record { acts = nets.AsksOne who g.0 ∷ []; goes = (new, g.1, refl); there = site_of old who; outputs = listed (request_of g.0.me g.0.kept); is = g.1.net; at = here },
      r,
    )
    deed_goes life end Ends deeds here g r = (Fresh, stop_goes s.facts game who old new life here g, r.1)

  none_left : (life end : GameStatus K) → RunGoes life [] end → end ≡ life
  none_left life end r = r.goes

-- ---- both hosts

module _ {K L : Type 0} (a : Keepers K) (b : Keepers L) (game : Judged) (end_a : GameStatus K) (end_b : GameStatus L) where
  -- steps of the net lead from here, and both sites are where the runs have led
  record Comes (old new : SystemState) : Type 0 where
    acts : List (nets.NetStep Seen)
    goes : NetGoes game old acts new
    at_a : IsSiteOfLife a.facts end_a new.a
    at_b : IsSiteOfLife b.facts end_b new.b

  first_then : (old mid new : SystemState) (acts : List (nets.NetStep Seen)) → NetGoes game old acts mid → Comes mid new → Comes old new
  first_then old mid new acts g c = record { acts = acts ++ c.acts; goes = goes_join game old mid new acts c.acts g c.goes; at_a = c.at_a; at_b = c.at_b }

  comes : (steps : List (Step K L)) (life_a : GameStatus K) (life_b : GameStatus L) (old new : SystemState) → IsSiteOfLife a.facts life_a old.a → IsSiteOfLife b.facts life_b old.b
      → DeedsGo a game A life_a (deeds_a steps) end_a → DeedsGo b game B life_b (deeds_b steps) end_b → Interleaving a.facts b.facts game old steps new → Comes old new
  comes [] life_a life_b old new at_a at_b run_a run_b w = record {
    acts = [];
    goes = w;
    at_a = subst (λ (n : SystemState). IsSiteOfLife a.facts end_a n.a) (sym w) (subst (λ (l : GameStatus K). IsSiteOfLife a.facts l old.a) (sym (none_left a game A life_a end_a run_a)) at_a);
    at_b = subst (λ (n : SystemState). IsSiteOfLife b.facts end_b n.b) (sym w) (subst (λ (l : GameStatus L). IsSiteOfLife b.facts l old.b) (sym (none_left b game B life_b end_b run_b)) at_b);
  }
  comes (AtA deed ∷ steps) life_a life_b old new at_a at_b run_a run_b w =
      let d = deed_goes a game A old w.0 life_a end_a deed (deeds_a steps) at_a w.1 run_a in
      let m = d.1 in
      first_then old w.0 new m.acts m.goes
      (comes steps d.0 life_b w.0 new (subst (λ (n : SystemState). IsSiteOfLife a.facts d.0 n.a) (sym m.is) m.at) (subst (λ (n : SystemState). IsSiteOfLife b.facts life_b n.b) (sym m.is) at_b) d.2 run_b w.2)
  comes (AtB deed ∷ steps) life_a life_b old new at_a at_b run_a run_b w =
      let d = deed_goes b game B old w.0 life_b end_b deed (deeds_b steps) at_b w.1 run_b in
      let m = d.1 in
      first_then old w.0 new m.acts m.goes
      (comes steps life_a d.0 w.0 new (subst (λ (n : SystemState). IsSiteOfLife a.facts life_a n.a) (sym m.is) at_a) (subst (λ (n : SystemState). IsSiteOfLife b.facts d.0 n.b) (sym m.is) m.at) run_a d.2 w.2)

-- the last run has led to one life
stands : {K : Type 0} (s : Keepers K) (game : Judged) (who : ArbiterId) (deeds : List (HostEvent K)) (site : Site) (end : GameStatus K) → RunGoes s game who Fresh (last_run deeds) end → IsSiteOfLife s.facts end site → StandsAt s game deeds site
stands s game who deeds site end r at common life led = subst (λ l. IsSiteOfLife s.facts l site) (one_end s game.stamp Fresh (acts_of game.stamp (last_run deeds)) end life r.common common r.goes led) at

-- steps of the net lead there, and each site is where its host has led
record HaveCome {K L : Type 0} (a : Keepers K) (b : Keepers L) (game : Judged) (steps : List (Step K L)) (net : SystemState) : Type 0 where
  acts : List (nets.NetStep Seen)
  goes : NetGoes game (first_net game) acts net
  at_a : StandsAt a game (deeds_a steps) net.a
  at_b : StandsAt b game (deeds_b steps) net.b

have_come : {K L : Type 0} (a : Keepers K) (b : Keepers L) (game : Judged) (steps : List (Step K L)) (net : SystemState) → AreWoven a b game steps net → HaveCome a b game steps net
have_come a b game steps net w =
    let x = all_go a game A (first_run (deeds_a steps)) (later_runs (deeds_a steps)) w.runs_a in
    let y = all_go b game B (first_run (deeds_b steps)) (later_runs (deeds_b steps)) w.runs_b in
    let c = comes a b game x.0 y.0 steps Fresh Fresh (first_net game) net refl refl x.1 y.1 w.weaves in
    record {
      acts = c.acts;
      goes = c.goes;
      at_a = stands a game A (deeds_a steps) net.a x.0 x.2 c.at_a;
      at_b = stands b game B (deeds_b steps) net.b y.0 y.2 c.at_b;
    }

pub hosts_are_worlds : {K L : Type 0} (a : Keepers K) (b : Keepers L) → HostsAreWorlds a b
hosts_are_worlds a b game steps net w =
    let c = have_come a b game steps net w in
    record { world = arbiters_are_worlds seen_facts game c.acts net c.goes; at_a = c.at_a; at_b = c.at_b }

-- an arbiter that is open at a host has a record of the game
tells_true : {K : Type 0} (s : Keepers K) (game : Judged) (acts : List (nets.NetStep Seen)) (net : SystemState) (who : ArbiterId) (deeds : List (HostEvent K)) → NetGoes game (first_net game) acts net → StandsAt s game deeds (site_of net who) → TellsTheTruth s game deeds
tells_true s game acts net who deeds goes stands common at led =
    let here = stands common (Open at) led in
    arbiters_tell_the_truth seen_facts game acts net goes who at.arbiter here.0 here.1

pub hosts_tell_the_truth : {K L : Type 0} (a : Keepers K) (b : Keepers L) → HostsTellTheTruth a b
hosts_tell_the_truth a b game steps net w =
    let c = have_come a b game steps net w in
    (tells_true a game c.acts net A (deeds_a steps) c.goes c.at_a, tells_true b game c.acts net B (deeds_b steps) c.goes c.at_b)
