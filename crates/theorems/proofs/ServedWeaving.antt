-- Two servers of one game over files come to a net.
use Rattle.std.proofs.Common.{◌≡◌, ◌∙◌, ◌⊎◌, inl, inr, ℕ, ◌<◌, ◌≤◌, Bool, true, false, cond, List, [], ◌∷◌, ◌++◌, Option, Some, None, refl, sym, ap, subst, arith}
use Rattle.std.specs.Prelude.{IfSome, Ok, Err}
use Rattle.std.specs.List.{AllByRecursion}
use Rattle.std.proofs.lemmas.Bool.{cases_lt}
use Rattle.board_core.specs.Delays.{most_delay}
use Rattle.move_msg.specs.Records.{WritesRecord}
use Rattle.move_msg.specs.declared.arbiter_id.ArbiterId.{ArbiterId}
use Rattle.move_msg.specs.declared.arbiter_id.ArbiterId.TheVariants.{A, B}
use Rattle.move_msg.specs.declared.message.Message.{Message}
use Rattle.arbiter_core.specs.Answering.{Answer, Identity, Puts, Refuses as RefusesWith, Sends, request_of}
use Rattle.arbiter_core.specs.Delivers.{Exchange, IsWritten, Lands, Moment, PutsIfAny, RefusesOrSends, answer_at}
use Rattle.arbiter_core.specs.Keeping.{HasBytes}
use Rattle.arbiter_core.specs.Opens as opening
use Rattle.arbiter_core.specs.Opens.{FirstLands, Opens, OpensOver, first_record, running}
use Rattle.arbiter_core.specs.Setups.{SetupView, rules_at}
use Rattle.arbiter_core.specs.Views.{View, spelled_as}
use Rattle.arbiter_core.specs.declared.fault.DeliverFault.TheVariants as deliver
use Rattle.arbiter_core.specs.declared.fault.OpenFault.{OpenFault}
use Rattle.arbiter_core.specs.declared.fault.OpenFault.TheVariants as open_fault
use Rattle.arbiter_core.specs.declared.keeper.Keep.{Keep}
use Rattle.arbiter_core.specs.declared.keeper.Keep.TheVariants.{Good, FailsOld, FailsNew}
use Rattle.arbiter_server.specs.Acts as act
use Rattle.arbiter_server.specs.Acts.{Action, Opening, acts_of, game_of, is_stamp}
use Rattle.arbiter_server.specs.Folders.{Keepers}
use Rattle.arbiter_server.specs.Games.{AnswersTo, ClosesTo, CommonView, Fresh, GameStatus, Goes, GoesByAct, Open, OpensTo, Shut, life_at}
use Rattle.relay_world.specs.Worlds.{Judged, identity, listed}
use Rattle.game_folder.specs.Holdings.{GamesFacts}
use Rattle.served_games.specs.Durable.{left_before}
use Rattle.served_games.specs.Lasting.{left_by}
use Rattle.served_games.specs.PlaceKeepers.{Follows, PlaceKeeper, found_keeper, has_failed, has_put, place_facts, place_keepers}
use Rattle.served_games.specs.ServedGames.{IsOverLeft, life_by}
use Rattle.theorems.specs.Interleavings.{AtA, AtB, HostEvent, Asks, Does, Ends, GivesFor, GivesIf, GivesOwn, Interleaving, IsHostOf, IsRunOfHost, Step, closed_with, deeds_a, deeds_b, first_run, later_runs, open_with, sent_by_act}
use Rattle.theorems.specs.Nets.{FoundAnswered, FoundOpened, IsNoForgery, IsToBePut, Site, SystemState, changed, first_net, sent_with, site_of}
use Rattle.theorems.specs.ServedWeaves.{ActsIf, ActsOver, BothHeld, GoBoth, GoesOver, Held, IsFoundAt, IsFoundIn, IsOpenNow, ServedAreWoven, first_both, held_after, held_if, sent_in}
use Rattle.theorems.proofs.Serving.{opens_up}
use Rattle.theorems.proofs.Weaving.{is_good, is_one, is_setup, still}

abbrev Life : Type 0
Life = GameStatus PlaceKeeper

abbrev Acts : Type 0
Acts = List (Action PlaceKeeper)

none_some : (bytes : List ℕ) → ◌≡◌ {A = Option (List ℕ)} None (Some bytes) → ⊥
none_some bytes e = cc

some_same : (a b : List ℕ) → ◌≡◌ {A = Option (List ℕ)} (Some a) (Some b) → a ≡ b
some_same a b e = cc

not_both : (b : Bool) → b ≡ true → b ≡ false → ⊥
not_both b e f = let g : true ≡ false = sym e ∙ f in cc

-- a put of these bytes left this, where a put of these was one that failed
put_failed : (before now : PlaceKeeper) (sent bytes : List ℕ) → (now ≡ has_put before sent) ⊎ (now ≡ has_failed before sent) → now.unkept ≡ Some bytes → sent ≡ bytes
put_failed before now sent bytes (inl e) un = absurd (none_some bytes (sym (ap (λ (k : PlaceKeeper). k.unkept) e) ∙ un))
put_failed before now sent bytes (inr e) un = some_same sent bytes (sym (ap (λ (k : PlaceKeeper). k.unkept) e) ∙ un)

same_unkept : (before now : PlaceKeeper) (bytes : List ℕ) → now ≡ before → before.unkept ≡ None → now.unkept ≡ Some bytes → ⊥
same_unkept before now bytes e none un = none_some bytes (sym (ap (λ (k : PlaceKeeper). k.unkept) e ∙ none) ∙ un)

-- ---- an opening

module _ (game : Judged) (setup : SetupView) (me : Identity) (before now : PlaceKeeper) (none : before.unkept ≡ None) (bytes : List ℕ) (un : now.unkept ≡ Some bytes) where
  abbrev Unput : opening.OpenResult → Type 0
  Unput told = (told ≡ Err open_fault.KeeperFailed) × (before.kept ≡ None) × IsWritten me.stamp setup.delay (first_record (rules_at setup)) (Some bytes)

  unput_over : (fault : OpenFault) (was : Option (List ℕ)) → before.kept ≡ was → OpensOver place_facts setup me was before now (Err fault) → Unput (Err fault)
  unput_over fault (Some b) is o = absurd (same_unkept before now bytes o.2 none un)
  unput_over fault None is p = (told p.keep p.lands, is, subst (λ (s : List ℕ). WritesRecord s (spelled_as me.stamp setup.delay (first_record (rules_at setup)))) (put_failed p.mid now p.sent bytes p.once un) p.spells)
    where
      told : (keep : Keep) → FirstLands keep setup me before.kept now.kept (Err fault) → ◌≡◌ {A = opening.OpenResult} (Err fault) (Err open_fault.KeeperFailed)
      told Good l = absurd (let e : ◌≡◌ {A = opening.OpenResult} (Err fault) (Ok (running setup me (first_record (rules_at setup)))) = l.0 in cc)
      told FailsOld l = l.0
      told FailsNew l = l.0

  unput : (fault : OpenFault) → Opens place_facts setup me before now (Err fault) → Unput (Err fault)
  unput fault (inl g) = absurd g.stated
  unput fault (inr (inl n)) = absurd (by n.cause)
    where
      by : ((now ≡ before) × HasBytes before.kept) ⊎ ((before.kept ≡ None) × (now ≡ before)) → ⊥
      by (inl c) = same_unkept before now bytes c.0 none un
      by (inr c) = same_unkept before now bytes c.1 none un
  unput fault (inr (inr o)) = unput_over fault before.kept refl o

-- ---- an answer

module _ (at : Moment PlaceKeeper) (e : Exchange PlaceKeeper) (none : at.keeper.unkept ≡ None) (up : at.arbiter.is_down ≡ false) (down : e.after.arbiter.is_down ≡ true) (bytes : List ℕ) (un : e.after.keeper.unkept ≡ Some bytes) where
  abbrev UnputAt : Answer → Type 0
  UnputAt a = (e.told ≡ Err deliver.KeeperFailed) × IsToBePut at.arbiter a (Some bytes)

  unput_at : (a : Answer) → RefusesOrSends at.arbiter at.keeper e.after.keeper e.after.arbiter e.told a → PutsIfAny place_facts at.arbiter at.keeper e.after.keeper e.after.arbiter e.told a → UnputAt a
  unput_at (RefusesWith fault) u p = absurd (same_unkept at.keeper e.after.keeper bytes u.keeper none un)
  unput_at (Sends outputs window) (inl u) p = absurd (same_unkept at.keeper e.after.keeper bytes u.keeper none un)
  unput_at (Sends outputs window) (inr u) p = absurd (same_unkept at.keeper e.after.keeper bytes u.1.keeper none un)
  unput_at (Puts next outputs window) r (inl u) = absurd (same_unkept at.keeper e.after.keeper bytes u.keeper none un)
  unput_at (Puts next outputs window) r (inr p) =
      (told p.keep p.lands, subst (λ (s : List ℕ). WritesRecord s (spelled_as at.arbiter.me.stamp at.arbiter.setup.delay next)) (put_failed at.keeper e.after.keeper p.sent bytes p.once un) p.spells)
    where
      told : (keep : Keep) → Lands keep at.arbiter next outputs window at.keeper.kept e.after.keeper.kept e.after.arbiter e.told → e.told ≡ Err deliver.KeeperFailed
      told Good l = absurd (not_both e.after.arbiter.is_down down (ap (λ (v : View). v.is_down) l.1 ∙ up))
      told FailsOld l = l.0
      told FailsNew l = l.0

-- ---- one server

abbrev arbiter_of : Life → Option View
arbiter_of Fresh = None
arbiter_of (Shut left) = None
arbiter_of (Open at) = Some at.arbiter

abbrev site_at : Life → Option (List ℕ) → Site
site_at life found = open_with found (arbiter_of life)

-- an arbiter that is open runs, and what it put is kept
abbrev InOrder : Life → Type 0
InOrder Fresh = Unit {0}
InOrder (Shut left) = Unit {0}
InOrder (Open at) = (at.keeper.unkept ≡ None) × (at.arbiter.is_down ≡ false)

module _ {G : Type 0} (facts : GamesFacts G) (place : facts.Place) (game : Judged) (who : ArbiterId) where
  abbrev Ks : Keepers PlaceKeeper
  Ks = place_keepers facts place

  -- the acts that are still to come
  record RunAhead (life : Life) (run : Acts) : Type 0 where
    common : CommonView
    of : IsHostOf game who common
    end : Life
    goes : Goes Ks common game.stamp life (acts_of game.stamp run) end

  abbrev AllAhead : Life → Acts → List Acts → Type 0
  AllAhead life run [] = RunAhead life run
  AllAhead life run (next ∷ later) = RunAhead life run × AllAhead Fresh next later

  abbrev DeedsAhead : Life → List (HostEvent PlaceKeeper) → Type 0
  DeedsAhead life deeds = AllAhead life (first_run deeds) (later_runs deeds)

  runs_ahead : (run : Acts) (later : List Acts) → AllByRecursion (IsRunOfHost Ks game who) (run ∷ later) → AllAhead Fresh run later
  runs_ahead run [] r = record { common = r.0.common; of = r.0.of; end = r.0.life; goes = r.0.goes }
  runs_ahead run (next ∷ later) r = (record { common = r.0.common; of = r.0.of; end = r.0.life; goes = r.0.goes }, runs_ahead next later r.1)

  -- ---- one act

  answered_life : (old new : Life) (e : Exchange PlaceKeeper) → AnswersTo Ks old e new → new ≡ life_at e.after
  answered_life Fresh new e h = absurd h
  answered_life (Shut left) new e h = absurd h
  answered_life (Open at) new e h = h.1

  closed_life : (old new : Life) (left : PlaceKeeper) → ClosesTo old left new → new ≡ Shut left
  closed_life Fresh new left h = absurd h
  closed_life (Shut before) new left h = absurd h
  closed_life (Open at) new left h = h.1

  pub act_life : (t : CommonView) (old new : Life) (a : Action PlaceKeeper) → GoesByAct Ks t game.stamp old a new → new ≡ life_by old a
  act_life t old new (act.Unread datagram fault) h = absurd h
  act_life t old new (act.Strange stamp datagram tried why) h = h.2
  act_life t old new (act.Refuses stamp datagram o fault) h = h.new_is
  act_life t old new (act.Opens stamp o v) h = h.new_is
  act_life t old new (act.Answers stamp e) h = answered_life old new e h
  act_life t old new (act.Closes stamp left) h = closed_life old new left h

  clean_before : (t : CommonView) (old new : Life) (o : Opening PlaceKeeper) (told : opening.OpenResult) → OpensTo Ks t game.stamp old o told new → o.before.unkept ≡ None
  clean_before t Fresh new o told h = h.over
  clean_before t (Shut left) new o told h = h.over.0
  clean_before t (Open at) new o told h = absurd h.over

  -- what is found before an opening is what it took
  found_before : (t : CommonView) (before : PlaceKeeper) (old new : Life) (o : Opening PlaceKeeper) (told : opening.OpenResult) → OpensTo Ks t game.stamp old o told new → IsOverLeft (left_before before old) o.before → IsFoundAt before old o.before.kept
  found_before t before Fresh new o told h over = over
  found_before t before (Shut left) new o told h over = over
  found_before t before (Open at) new o told h over = absurd h.over

  module _ (t : CommonView) (of : IsHostOf game who t) (old new : Life) (o : Opening PlaceKeeper) (fault : OpenFault) (h : OpensTo Ks t game.stamp old o (Err fault) new) (start : o.setup.start ≡ game.rules.start) (delay : o.setup.delay ≡ game.rules.delay) where
    refused_found : (kept found : Option (List ℕ)) → kept ≡ o.before.kept → Follows o.now (found_keeper found) → FoundOpened place_facts game o.setup kept o.now (Err fault) found
    refused_found kept found is (inl same) = inl same
    refused_found kept found is (inr put) = inr (by (cases_lt most_delay o.setup.delay))
      where
        abbrev_none : o.before.unkept ≡ None
        abbrev_none = clean_before t old new o (Err fault) h

        by : (most_delay < o.setup.delay) ⊎ (o.setup.delay ≤ most_delay) → (◌≡◌ {A = opening.OpenResult} (Err fault) (Err open_fault.KeeperFailed)) × (kept ≡ None) × IsWritten game.stamp game.rules.delay (first_record (rules_at o.setup)) found
        by (inr few) =
            let g = h.opening.good (is_good game who t of o.setup h.game few) in
            let u = unput game o.setup g.0 o.before o.now abbrev_none put.0 put.1 fault g.2 in
            let me : g.0 ≡ identity game who = is_one game who o.setup g.0 g.1 (is_setup game who t of o.setup h.game start delay).identity in
            unput_is u me
          where
            unput_is : {m : Identity} → Unput game o.setup m o.before o.now abbrev_none put.0 put.1 (Err fault) → m ≡ identity game who → (◌≡◌ {A = opening.OpenResult} (Err fault) (Err open_fault.KeeperFailed)) × (kept ≡ None) × IsWritten game.stamp game.rules.delay (first_record (rules_at o.setup)) found
            unput_is u me = (
              u.0,
              is ∙ u.1,
              subst (λ (f : Option (List ℕ)). IsWritten game.stamp game.rules.delay (first_record (rules_at o.setup)) f) (sym put.2)
                  (subst (λ (d : ℕ). IsWritten game.stamp d (first_record (rules_at o.setup)) (Some put.0)) delay (subst (λ (i : Identity). IsWritten i.stamp o.setup.delay (first_record (rules_at o.setup)) (Some put.0)) me u.2)),
            )
        by (inl more) =
            let b = h.opening.bad (λ good. let few = good.delay in omega (arith, more, few)) in
            absurd (same_unkept o.before o.now put.0 b.1 abbrev_none put.1)

  -- ---- one deed, from what is found after it

  record Back (log : List Message) (h : Held) (deed : HostEvent PlaceKeeper) (later : Option (List ℕ)) : Type 0 where
    found : Option (List ℕ)
    is_found : IsFoundIn h found
    gives : (net : SystemState) → site_of net who ≡ site_at h.life found → net.log ≡ log → GivesFor place_facts game net who deed (changed net who (site_at (held_after game.stamp h deed).life later) (sent_in game.stamp h deed))

  record ActBack (log : List Message) (h : Held) (a : Action PlaceKeeper) (later : Option (List ℕ)) : Type 0 where
    found : Option (List ℕ)
    is_found : IsFoundIn h found
    gives : (net : SystemState) → site_of net who ≡ site_at h.life found → net.log ≡ log → GivesOwn place_facts game net who a (changed net who (site_at (life_by h.life a) later) (sent_by_act a))

  kept_in : (net : SystemState) (life : Life) (found : Option (List ℕ)) → site_of net who ≡ site_at life found → (site_of net who).kept ≡ found
  kept_in net life found at = ap (λ (s : Site). s.kept) at

  module _ (t : CommonView) (of : IsHostOf game who t) (log : List Message) (before : PlaceKeeper) where
    stays_back : (life : Life) (found : Option (List ℕ)) (net : SystemState) → site_of net who ≡ site_at life found → changed net who (site_at life found) [] ≡ net
    stays_back life found net at = ap (λ (s : Site). changed net who s []) (sym at) ∙ sym (still net who)

    answer_order : (before : PlaceKeeper) (life new : Life) (e : Exchange PlaceKeeper) → AnswersTo Ks life e new → (e.after.arbiter.is_down ≡ false → e.after.keeper.unkept ≡ None) → InOrder (life_at e.after)
    answer_order before life new e h kept = by e.after.arbiter.is_down refl
      where
        by : (b : Bool) → e.after.arbiter.is_down ≡ b → InOrder (cond b (Shut e.after.keeper) (Open e.after))
        by true down = tt
        by false runs = (kept runs, runs)

    act_order : (life new : Life) (a : Action PlaceKeeper) → InOrder life → GoesByAct Ks t game.stamp life a new → ActsOver game log (record { before = before; life = life }) a → InOrder (life_by life a)
    act_order life new (act.Unread datagram fault) ok h over = absurd h
    act_order life new (act.Strange stamp datagram tried why) ok h over = ok
    act_order life new (act.Refuses stamp datagram o fault) ok h over = tt
    act_order life new (act.Opens stamp o v) ok h over = (over.kept, opens_up facts place t game who of life new o v h)
    act_order life new (act.Answers stamp e) ok h over = answer_order before life new e h over.kept
    act_order life new (act.Closes stamp left) ok h over = tt

    answer_back : (life new : Life) (stamp : List ℕ) (e : Exchange PlaceKeeper) (later : Option (List ℕ)) → InOrder life → AnswersTo Ks life e new → ActsOver game log (record { before = before; life = life }) (act.Answers stamp e) → IsFoundAt before (life_at e.after) later → ActBack log (record { before = before; life = life }) (act.Answers stamp e) later
    answer_back Fresh new stamp e later ok h over is = absurd h
    answer_back (Shut left) new stamp e later ok h over is = absurd h
    answer_back (Open at) new stamp e later ok h over is = record {
      found = at.keeper.kept;
      is_found = refl;
      gives = λ net here l. record {
        came = subst (λ (x : List Message). IsNoForgery game x e.datagram) (sym l) over.came;
        found = later;
        is_found = subst (λ (s : Site). IfSome s.arbiter (λ v. FoundAnswered place_facts v e later)) (sym here) (found_after e.after.arbiter.is_down refl is);
        net = ap (λ (s : Site). changed net who s (sent_with e.told)) (site_if e.after.arbiter.is_down);
      };
    }
      where
        site_if : (b : Bool) → site_at (cond b (Shut e.after.keeper) (Open e.after)) later ≡ open_with later (cond b None (Some e.after.arbiter))
        site_if true = refl
        site_if false = refl

        found_after : (b : Bool) → e.after.arbiter.is_down ≡ b → IsFoundAt before (cond b (Shut e.after.keeper) (Open e.after)) later → FoundAnswered place_facts at.arbiter e later
        found_after false runs f = inl f
        found_after true down (inl f) = inl f
        found_after true down (inr put) = inr (to (unput_at at e ok.0 ok.1 down put.0 put.1 (answer_at at.arbiter e.datagram) h.0.answered h.0.put))
          where
            to : UnputAt at e ok.0 ok.1 down put.0 put.1 (answer_at at.arbiter e.datagram) → (e.told ≡ Err deliver.KeeperFailed) × IsToBePut at.arbiter (answer_at at.arbiter e.datagram) later
            to u = (u.0, subst (IsToBePut at.arbiter (answer_at at.arbiter e.datagram)) (sym put.2) u.1)

    closing_back : (life new : Life) (stamp : List ℕ) (left : PlaceKeeper) (later : Option (List ℕ)) → InOrder life → ClosesTo life left new → Follows left (found_keeper later) → ActBack log (record { before = before; life = life }) (act.Closes stamp left) later
    closing_back Fresh new stamp left later ok h is = absurd h
    closing_back (Shut was) new stamp left later ok h is = absurd h
    closing_back (Open at) new stamp left later ok h is = record {
      found = at.keeper.kept;
      is_found = refl;
      gives = λ net here l. ap (λ (x : Option (List ℕ)). changed net who (closed_with x) []) (same is ∙ sym (kept_in net (Open at) at.keeper.kept here));
    }
      where
        same : Follows left (found_keeper later) → later ≡ at.keeper.kept
        same (inl e) = e ∙ ap (λ (k : PlaceKeeper). k.kept) h.0
        same (inr put) = absurd (same_unkept at.keeper left put.0 h.0 ok.0 put.1)

    act_back : (life new : Life) (a : Action PlaceKeeper) (later : Option (List ℕ)) → InOrder life → GoesByAct Ks t game.stamp life a new → ActsOver game log (record { before = before; life = life }) a → IsFoundAt before (life_by life a) later → ActBack log (record { before = before; life = life }) a later
    act_back life new (act.Unread datagram fault) later ok h over is = absurd h
    act_back life new (act.Strange stamp datagram tried why) later ok h over is = record { found = later; is_found = is; gives = λ net here l. stays_back life later net here }
    act_back life new (act.Refuses stamp datagram o fault) later ok h over is = record {
      found = o.before.kept;
      is_found = found_before t before life new o (Err fault) h over.over;
      gives = λ net here l. record {
        start = over.game_is.0;
        delay = over.game_is.1;
        kept = sym (kept_in net life o.before.kept here);
        found = later;
        is_found = refused_found t of life new o fault h over.game_is.0 over.game_is.1 (site_of net who).kept later (kept_in net life o.before.kept here) is;
        net = refl;
      };
    }
    act_back life new (act.Opens stamp o v) later ok h over is = record {
      found = o.before.kept;
      is_found = found_before t before life new o (Ok v) h over.over;
      gives = λ net here l. record { start = over.game_is.0; delay = over.game_is.1; kept = sym (kept_in net life o.before.kept here); found = later; is_found = inl is; net = refl };
    }
    act_back life new (act.Answers stamp e) later ok h over is = answer_back life new stamp e later ok h over is
    act_back life new (act.Closes stamp left) later ok h over is = closing_back life new stamp left later ok h is

  -- one of the game or of another one
  record BackIf (b : Bool) (log : List Message) (h : Held) (a : Action PlaceKeeper) (later : Option (List ℕ)) : Type 0 where
    found : Option (List ℕ)
    is_found : IsFoundIn h found
    gives : (net : SystemState) → site_of net who ≡ site_at h.life found → net.log ≡ log → GivesIf b place_facts game net who a (changed net who (site_at (held_if b h a).life later) (cond b (sent_by_act a) []))

  record ActDone (b : Bool) (log : List Message) (h : Held) (a : Action PlaceKeeper) (run : Acts) : Type 0 where
    ahead : RunAhead (held_if b h a).life run
    in_order : InOrder (held_if b h a).life
    back : (later : Option (List ℕ)) → IsFoundIn (held_if b h a) later → BackIf b log h a later

  act_done : (b : Bool) (log : List Message) (h : Held) (t : CommonView) (of : IsHostOf game who t) (end : Life) (a : Action PlaceKeeper) (run : Acts) → InOrder h.life → Goes Ks t game.stamp h.life (cond b (a ∷ acts_of game.stamp run) (acts_of game.stamp run)) end → ActsIf b game log h a → ActDone b log h a run
  act_done true log h t of end a run ok g over = record {
    ahead = record { common = t; of = of; end = end; goes = subst (λ (l : Life). Goes Ks t game.stamp l (acts_of game.stamp run) end) (act_life t h.life g.0 a g.1) g.2 };
    in_order = act_order t of log h.before h.life g.0 a ok g.1 over;
    back = λ later is. let x = act_back t of log h.before h.life g.0 a later ok g.1 over is in record { found = x.found; is_found = x.is_found; gives = x.gives };
  }
  act_done false log h t of end a run ok g over = record {
    ahead = record { common = t; of = of; end = end; goes = g };
    in_order = ok;
    back = λ later is. record { found = later; is_found = is; gives = λ net here l. stays_back t of log h.before h.life later net here };
  }

  record DeedDone (log : List Message) (h : Held) (deed : HostEvent PlaceKeeper) (deeds : List (HostEvent PlaceKeeper)) : Type 0 where
    ahead : DeedsAhead (held_after game.stamp h deed).life deeds
    in_order : InOrder (held_after game.stamp h deed).life
    back : (later : Option (List ℕ)) → IsFoundIn (held_after game.stamp h deed) later → Back log h deed later

  asks_back : (log : List Message) (before : PlaceKeeper) (life : Life) → InOrder life → IsOpenNow life → (later : Option (List ℕ)) → IsFoundAt before life later → Back log (record { before = before; life = life }) Asks later
  asks_back log before Fresh ok open_now later is = absurd open_now
  asks_back log before (Shut left) ok open_now later is = absurd open_now
  asks_back log before (Open at) ok open_now later is = record {
    found = later;
    is_found = is;
    gives = λ net here l. (at.arbiter, record { stands = ap (λ (s : Site). s.arbiter) here; runs = ok.1; net = ap (λ (s : Site). changed net who s (listed (request_of at.arbiter.me at.arbiter.kept))) (sym here) });
  }

  ends_back : (log : List Message) (before : PlaceKeeper) (life : Life) → InOrder life → (later : Option (List ℕ)) → Follows (left_by before life) (found_keeper later) → Back log (record { before = before; life = life }) Ends later
  ends_back log before Fresh ok later is = record { found = later; is_found = is; gives = λ net here l. record { found = later; is_found = inl (sym (kept_in net Fresh later here)); net = refl } }
  ends_back log before (Shut left) ok later is = record { found = later; is_found = is; gives = λ net here l. record { found = later; is_found = inl (sym (kept_in net (Shut left) later here)); net = refl } }
  ends_back log before (Open at) ok later is = record {
    found = at.keeper.kept;
    is_found = refl;
    gives = λ net here l. record { found = later; is_found = inl (same is ∙ sym (kept_in net (Open at) at.keeper.kept here)); net = refl };
  }
    where
      same : Follows at.keeper (found_keeper later) → later ≡ at.keeper.kept
      same (inl e) = e
      same (inr put) = absurd (none_some put.0 (sym ok.0 ∙ put.1))

  does_done : (log : List Message) (h : Held) (a : Action PlaceKeeper) (deeds : List (HostEvent PlaceKeeper)) (later_acts : List Acts) → later_runs deeds ≡ later_acts → InOrder h.life → AllAhead h.life (a ∷ first_run deeds) later_acts → GoesOver game log h (Does a) → DeedDone log h (Does a) deeds
  does_done log h a deeds [] is ok r over =
      let d = act_done (is_stamp game.stamp (game_of a)) log h r.common r.of r.end a (first_run deeds) ok r.goes over in
      record {
        ahead = subst (AllAhead (held_after game.stamp h (Does a)).life (first_run deeds)) (sym is) d.ahead;
        in_order = d.in_order;
        back = λ later found. let x = d.back later found in record { found = x.found; is_found = x.is_found; gives = x.gives };
      }
  does_done log h a deeds (next ∷ more) is ok r over =
      let d = act_done (is_stamp game.stamp (game_of a)) log h r.0.common r.0.of r.0.end a (first_run deeds) ok r.0.goes over in
      record {
        ahead = subst (AllAhead (held_after game.stamp h (Does a)).life (first_run deeds)) (sym is) (d.ahead, r.1);
        in_order = d.in_order;
        back = λ later found. let x = d.back later found in record { found = x.found; is_found = x.is_found; gives = x.gives };
      }

  deed_done : (log : List Message) (h : Held) (deed : HostEvent PlaceKeeper) (deeds : List (HostEvent PlaceKeeper)) → InOrder h.life → DeedsAhead h.life (deed ∷ deeds) → GoesOver game log h deed → DeedDone log h deed deeds
  deed_done log h (Does a) deeds ok r over = does_done log h a deeds (later_runs deeds) refl ok r over
  deed_done log h Asks deeds ok r over = record { ahead = r; in_order = ok; back = λ later is. asks_back log h.before h.life ok over later is }
  deed_done log h Ends deeds ok r over = record { ahead = r.1; in_order = tt; back = λ later is. ends_back log h.before h.life ok later is }

-- ---- both

module _ {G H : Type 0} (facts : GamesFacts G) (place : facts.Place) (others : GamesFacts H) (its : others.Place) (game : Judged) where
  record Woven (old : BothHeld) (steps : List (Step PlaceKeeper PlaceKeeper)) (end : BothHeld) (later its_later : Option (List ℕ)) : Type 0 where
    found : Option (List ℕ)
    is_found : IsFoundIn old.a found
    its_found : Option (List ℕ)
    is_its : IsFoundIn old.b its_found
    weaves : (net : SystemState) → net.a ≡ site_at old.a.life found → net.b ≡ site_at old.b.life its_found → net.log ≡ old.log
        → (last : SystemState) × Interleaving place_facts place_facts game net steps last × (last.a.kept ≡ later) × (last.b.kept ≡ its_later) × (last.log ≡ end.log)

  weave : (old : BothHeld) (steps : List (Step PlaceKeeper PlaceKeeper)) (end : BothHeld) (later its_later : Option (List ℕ)) → InOrder old.a.life → InOrder old.b.life
      → DeedsAhead facts place game A old.a.life (deeds_a steps) → DeedsAhead others its game B old.b.life (deeds_b steps) → GoBoth game old steps end → IsFoundIn end.a later → IsFoundIn end.b its_later → Woven old steps end later its_later
  weave old [] end later its_later ok its_ok x y go is is_its = record {
    found = later;
    is_found = subst (λ (b : BothHeld). IsFoundIn b.a later) go is;
    its_found = its_later;
    is_its = subst (λ (b : BothHeld). IsFoundIn b.b its_later) go is_its;
    weaves = λ net at its_at l. (net, refl, ap (λ (s : Site). s.kept) at, ap (λ (s : Site). s.kept) its_at, l ∙ ap (λ (b : BothHeld). b.log) (sym go));
  }
  weave old (AtA deed ∷ steps) end later its_later ok its_ok x y go is is_its =
      let d = deed_done facts place game A old.log old.a deed (deeds_a steps) ok x go.0 in
      let sent = sent_in game.stamp old.a deed in
      let h = held_after game.stamp old.a deed in
      let w = weave (record { a = h; b = old.b; log = old.log ++ sent }) steps end later its_later d.in_order its_ok d.ahead y go.1 is is_its in
      let b = d.back w.found w.is_found in
      record {
        found = b.found;
        is_found = b.is_found;
        its_found = w.its_found;
        is_its = w.is_its;
        weaves = λ net at its_at l.
            let mid = changed net A (site_at h.life w.found) sent in
            let r = w.weaves mid refl its_at (ap (λ (xs : List Message). xs ++ sent) l) in
            (r.0, (mid, b.gives net at l, r.1), r.2, r.3, r.4);
      }
  weave old (AtB deed ∷ steps) end later its_later ok its_ok x y go is is_its =
      let d = deed_done others its game B old.log old.b deed (deeds_b steps) its_ok y go.0 in
      let sent = sent_in game.stamp old.b deed in
      let h = held_after game.stamp old.b deed in
      let w = weave (record { a = old.a; b = h; log = old.log ++ sent }) steps end later its_later ok d.in_order x d.ahead go.1 is is_its in
      let b = d.back w.its_found w.is_its in
      record {
        found = w.found;
        is_found = w.is_found;
        its_found = b.found;
        is_its = b.is_found;
        weaves = λ net at its_at l.
            let mid = changed net B (site_at h.life w.its_found) sent in
            let r = w.weaves mid at refl (ap (λ (xs : List Message). xs ++ sent) l) in
            (r.0, (mid, b.gives net its_at l, r.1), r.2, r.3, r.4);
      }

nothing_first : (found : Option (List ℕ)) → Follows (found_keeper None) (found_keeper found) → found ≡ None
nothing_first found (inl e) = e
nothing_first found (inr put) = absurd (none_some put.0 put.1)

pub served_are_woven : {G H : Type 0} (facts : GamesFacts G) (others : GamesFacts H) → ServedAreWoven facts others
served_are_woven facts others place its game steps end found its_found runs_a runs_b go is is_its =
    let w = weave facts place others its game (first_both game) steps end found its_found tt tt
    (runs_ahead facts place game A (first_run (deeds_a steps)) (later_runs (deeds_a steps)) runs_a) (runs_ahead others its game B (first_run (deeds_b steps)) (later_runs (deeds_b steps)) runs_b) go is is_its in
    let r = w.weaves (first_net game) (ap (λ (x : Option (List ℕ)). open_with x None) (sym (nothing_first w.found w.is_found))) (ap (λ (x : Option (List ℕ)). open_with x None) (sym (nothing_first w.its_found w.is_its))) refl in
    record { net = r.0; woven = record { runs_a = runs_a; runs_b = runs_b; weaves = r.1 }; at_a = r.2; at_b = r.3; log_is = r.4 }
