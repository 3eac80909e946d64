-- Two hosts of one game come to a world of a schedule.
use Rattle.std.proofs.Common.{◌≡◌, ◌∙◌, ℕ, ◌<◌, ◌≤◌, Bool, true, false, cond, List, [], ◌∷◌, ◌++◌, Option, Some, None, inl, inr, refl, sym, ap, subst, arith}
use Rattle.std.specs.Prelude.{◌⊎◌, IfSome, Ok, Err}
use Rattle.std.proofs.lemmas.Bool.{cases_lt}
use Rattle.std.proofs.lemmas.List.{append-nil}
use Rattle.board_core.specs.declared.parts.Parts.{Parts}
use Rattle.board_core.specs.Delays.{most_delay}
use Rattle.fen_text.specs.Written.{fen_of}
use Rattle.judge_core.specs.Games.{Rules}
use Rattle.judge_core.specs.Tables.{Tables}
use Rattle.move_msg.specs.declared.message.Message.{Message}
use Rattle.move_msg.specs.declared.stamp.Stamp.{Stamp}
use Rattle.move_msg.specs.declared.arbiter_id.ArbiterId.{ArbiterId}
use Rattle.move_msg.specs.declared.arbiter_id.ArbiterId.TheVariants.{A, B}
use Rattle.move_msg.specs.Senders.{who_number}
use Rattle.move_msg.specs.Stamps.{stamp_of}
use Rattle.arbiter_core.specs.declared.fault.DeliverFault.{DeliverFault}
use Rattle.arbiter_core.specs.declared.fault.DeliverFault.TheVariants as deliver
use Rattle.arbiter_core.specs.declared.fault.OpenFault.{OpenFault}
use Rattle.arbiter_core.specs.declared.fault.OpenFault.TheVariants as open_fault
use Rattle.arbiter_core.specs.declared.keeper.Keep.{Keep}
use Rattle.arbiter_core.specs.declared.keeper.Keep.TheVariants.{Good, FailsOld, FailsNew}
use Rattle.arbiter_core.specs.Keeping.{KeeperFacts}
use Rattle.arbiter_core.specs.Setups.{IsGood, IsIdentity, SetupView, rules_at}
use Rattle.arbiter_core.specs.Views.{View}
use Rattle.arbiter_core.specs.Answering.{Answer, Identity, Puts, Refuses, Sends}
use Rattle.arbiter_core.specs.Delivers.{Delivers, Exchange, Lands, Moment, PutsIfAny, Told, answer_at}
use Rattle.arbiter_core.specs.Opens as opening
use Rattle.arbiter_core.specs.Opens.{FirstLands, Opens, OpensIfGood, OpensOver, first_record, running}
use Rattle.arbiter_server.specs.Folders.{Keepers}
use Rattle.arbiter_server.specs.Acts as act
use Rattle.arbiter_server.specs.Acts.{Action, Opening, acts_of, game_of, is_stamp}
use Rattle.arbiter_server.specs.Games as host
use Rattle.arbiter_server.specs.Games.{CommonView, Fresh, Goes, GoesByAct, GameStatus, Open, OpensTo, Shut, life_after, life_at}
use Rattle.relay_world.specs.Worlds.{Judged, identity}
use Rattle.theorems.specs.Nets as nets
use Rattle.theorems.specs.Nets.{AnswersOne, ClosesOne, FoundAnswered, FoundOpened, IsToBePut, SystemState, OpensOne, Site, arbiter_in, changed, first_net, sent_with, site_of}
use Rattle.theorems.specs.Interleavings.{AnswersDatagram, Finds, GivesIf, GivesOwn, IsHostOf, IsSiteOfLife, closed_with, open_with}
use Rattle.theorems.proofs.Seeing.{Seen, seen, seen_delivers, seen_exchange, seen_facts, seen_opens}

-- ---- nets

abbrev pub NetGoes : Judged → SystemState → List (nets.NetStep Seen) → SystemState → Type 0
NetGoes game old acts new = nets.GoesBySteps seen_facts game old acts new

abbrev net_with : SystemState → List Message → SystemState
net_with net log = record { a = net.a; b = net.b; log = log }

abbrev pub closed : SystemState → ArbiterId → SystemState
closed net who = changed net who (closed_with (site_of net who).kept) []

-- a site that stays
pub still : (net : SystemState) (who : ArbiterId) → net ≡ changed net who (site_of net who) []
still net A = ap (net_with net) (sym (append-nil net.log))
still net B = ap (net_with net) (sym (append-nil net.log))

-- a site that is closed after a change
pub close_after : (net : SystemState) (who : ArbiterId) (kept : Option (List ℕ)) (arbiter : Option View) (outputs : List Message) → changed net who (closed_with kept) outputs ≡ closed (changed net who (open_with kept arbiter) outputs) who
close_after net A kept arbiter outputs = ap (λ (l : List Message). net_with (changed net A (closed_with kept) outputs) l) (sym (append-nil (net.log ++ outputs)))
close_after net B kept arbiter outputs = ap (λ (l : List Message). net_with (changed net B (closed_with kept) outputs) l) (sym (append-nil (net.log ++ outputs)))

-- steps of the net lead there, and one site alone changes, to where a life is
pub record Moves {K : Type 0} (facts : KeeperFacts K) (game : Judged) (old : SystemState) (who : ArbiterId) (life : GameStatus K) (new : SystemState) : Type 0 where
  pub acts : List (nets.NetStep Seen)
  pub goes : NetGoes game old acts new
  pub there : Site
  pub outputs : List Message
  pub is : new ≡ changed old who there outputs
  pub at : IsSiteOfLife facts life there

-- ---- a setup of a host

same_who : (a b : ArbiterId) → who_number a ≡ who_number b → a ≡ b
same_who A A e = refl
same_who B B e = refl
same_who A B e = cc
same_who B A e = cc

pub is_one : (game : Judged) (who : ArbiterId) (setup : SetupView) (me : Identity) → IsIdentity setup me → IsIdentity setup (identity game who) → me ≡ identity game who
is_one game who setup me f g = made me.stamp game.stamp me.who who (f.stamp ∙ sym g.stamp) (same_who me.who who (f.who ∙ sym g.who))
  where
    made : (s t : Stamp) (a b : ArbiterId) → s ≡ t → a ≡ b → ◌≡◌ {A = Identity} (record { stamp = s; who = a }) (record { stamp = t; who = b })
    made s t a b e d = cc

made_rules : (p q : Parts) (t u : Tables) (d e : ℕ) → p ≡ q → t ≡ u → d ≡ e → ◌≡◌ {A = Rules} (record { start = p; tables = t; delay = d }) (record { start = q; tables = u; delay = e })
made_rules p q t u d e f g h = cc

one_or_two : (who : ArbiterId) (n : ℕ) → who_number who ≡ n → (n ≡ 1) ⊎ (n ≡ 2)
one_or_two A n e = inl (sym e)
one_or_two B n e = inr (sym e)

module _ (game : Judged) (who : ArbiterId) (t : CommonView) (of : IsHostOf game who t) (setup : SetupView) (is : host.IsSetupOfStamp t game.stamp setup) where
  number : who_number who ≡ setup.me
  number = sym (ap (λ (x : SetupView). x.me) is.common ∙ of.number)

  manifest : t.manifest ≡ setup.manifest
  manifest = sym (ap (λ (x : SetupView). x.manifest) is.common)

  pub is_setup : setup.start ≡ game.rules.start → setup.delay ≡ game.rules.delay → nets.IsSetupOf game who setup
  is_setup start delay = record {
    rules = made_rules setup.start game.rules.start setup.set.tables game.rules.tables setup.delay game.rules.delay start (ap (λ (x : SetupView). x.set.tables) is.common ∙ of.tables) delay;
    identity = record {
      stamp = is.game.stamped ∙ ap (λ (m : List ℕ). stamp_of setup.name (fen_of setup.start) m setup.delay) manifest;
      who = number;
    };
  }

  pub is_good : setup.delay ≤ most_delay → IsGood setup
  is_good few = record { name = is.game.is_name; me = one_or_two who setup.me number; delay = few }

-- ---- what an opening tells

module _ {K : Type 0} (facts : KeeperFacts K) (setup : SetupView) (me : Identity) (before now : K) (v : View) where
  pub no_fault : (fault : OpenFault) → ◌≡◌ {A = opening.OpenResult} (Ok v) (Err fault) → ⊥
  no_fault fault e = cc

  up_over : (was : Option (List ℕ)) → OpensOver facts setup me was before now (Ok v) → v.is_down ≡ false
  up_over None p = landed p.keep p.lands
    where
      landed : (keep : Keep) → FirstLands keep setup me (facts.kept before) (facts.kept now) (Ok v) → v.is_down ≡ false
      landed Good l =
          let e : ◌≡◌ {A = opening.OpenResult} (Ok v) (Ok (running setup me (first_record (rules_at setup)))) = l.0 in
          let is : v ≡ running setup me (first_record (rules_at setup)) = cc in
          ap (λ (x : View). x.is_down) is
      landed FailsOld l = absurd (no_fault open_fault.KeeperFailed l.0)
      landed FailsNew l = absurd (no_fault open_fault.KeeperFailed l.0)
  up_over (Some bytes) q = ap (λ (x : View). x.is_down) q.1.0

  -- an arbiter that is opened runs
  pub is_up : Opens facts setup me before now (Ok v) → v.is_down ≡ false
  is_up (inl g) = absurd (no_fault open_fault.KeeperFailed g.answer)
  is_up (inr (inl n)) = absurd (no_fault open_fault.OutOfMemory n.answer)
  is_up (inr (inr o)) = up_over (facts.kept before) o

two_faults : (told : opening.OpenResult) → told ≡ Err open_fault.BadSetup → told ≡ Err open_fault.KeeperFailed → ⊥
two_faults told e f =
    let bad : open_fault.BadSetup ≡ open_fault.KeeperFailed = cc in
    absurd (cc)

-- ---- what an answer tells

two_tellings : (told : Told) (f : DeliverFault) (outputs : List Message) → told ≡ Ok outputs → told ≡ Err f → ⊥
two_tellings told f outputs e h = cc

no_memory : (told : Told) → told ≡ Err deliver.OutOfMemory → told ≡ Err deliver.KeeperFailed → ⊥
no_memory told e f =
    let bad : deliver.OutOfMemory ≡ deliver.KeeperFailed = cc in
    absurd (cc)

-- an arbiter whose put failed is down
fails_down : {K : Type 0} (facts : KeeperFacts K) (v new : View) (before now : K) (told : Told) (found : Option (List ℕ)) (a : Answer) → PutsIfAny facts v before now new told a → told ≡ Err deliver.KeeperFailed → IsToBePut v a found → new.is_down ≡ true
fails_down facts v new before now told found (Refuses fault) p e to = absurd to
fails_down facts v new before now told found (Sends outputs window) p e to = absurd to
fails_down facts v new before now told found (Puts next outputs window) (inl u) e to = absurd (no_memory told u.answer e)
fails_down facts v new before now told found (Puts next outputs window) (inr p) e to = landed p.keep p.lands
  where
    landed : (keep : Keep) → Lands keep v next outputs window (facts.kept before) (facts.kept now) new told → new.is_down ≡ true
    landed Good l = absurd (two_tellings told deliver.KeeperFailed outputs l.0 e)
    landed FailsOld l = ap (λ (x : View). x.is_down) l.1
    landed FailsNew l = ap (λ (x : View). x.is_down) l.1

-- ---- one host

module _ {K : Type 0} (s : Keepers K) (t : CommonView) (game : Judged) (who : ArbiterId) (of : IsHostOf game who t) (old new : SystemState) where
  abbrev GoesTo : GameStatus K → Type 0
  GoesTo life = Moves s.facts game old who life new

  abbrev IsHere : GameStatus K → Type 0
  IsHere life = IsSiteOfLife s.facts life (site_of old who)

  moved : (life later : GameStatus K) → later ≡ life → GoesTo life → GoesTo later
  moved life later e m = subst GoesTo (sym e) m

  stays : (life : GameStatus K) → IsHere life → new ≡ old → GoesTo life
  stays life here e = record { acts = []; goes = e; there = site_of old who; outputs = []; is = e ∙ still old who; at = here }

  closes : (life : GameStatus K) → IsSiteOfLife s.facts life (closed_with (site_of old who).kept) → new ≡ closed old who → GoesTo life
  closes life at e = record { acts = ClosesOne who ∷ []; goes = (new, e, refl); there = closed_with (site_of old who).kept; outputs = []; is = e; at = at }

  -- ---- an opening

  module _ (o : Opening K) (told : opening.OpenResult) (f : Finds s.facts game old who o told new) where
    opened_at : (told : opening.OpenResult) → ((v : View) → told ≡ Ok v → v.is_down ≡ false) → FoundOpened s.facts game o.setup (site_of old who).kept o.now told f.found → IsSiteOfLife s.facts (life_after o.now told) (open_with f.found (arbiter_in told))
    opened_at (Err fault) up found = refl
    opened_at (Ok v) up (inl e) = (refl, up v refl, e)
    opened_at (Ok v) up (inr to) = absurd (no_fault s.facts o.setup (identity game who) o.before o.now v open_fault.KeeperFailed to.0)

    bad_is : told ≡ Err open_fault.BadSetup → o.now ≡ o.before → new ≡ closed old who
    bad_is e same = f.net ∙ ap (λ (x : Option (List ℕ)). changed old who (open_with x (arbiter_in told)) []) (found f.is_found) ∙ ap (λ (x : opening.OpenResult). changed old who (open_with (site_of old who).kept (arbiter_in x)) []) e
      where
        found : FoundOpened s.facts game o.setup (site_of old who).kept o.now told f.found → f.found ≡ (site_of old who).kept
        found (inl is) = is ∙ ap s.facts.kept same ∙ f.kept
        found (inr to) = absurd (two_faults told e to.0)

    opens : nets.IsSetupOf game who o.setup → Opens s.facts o.setup (identity game who) o.before o.now told → GoesTo (life_after o.now told)
    opens setup is = record {
      acts = OpensOne who (seen s.facts o.before) (seen s.facts o.now) told ∷ [];
      goes = (
        new,
        record {
          site = open_with f.found (arbiter_in told);
          is = record { setup = o.setup; is_setup = setup; kept = f.kept; opens = seen_opens s.facts o.setup (identity game who) o.before o.now told is; arbiter = refl; found = f.is_found };
          net = f.net;
        },
        refl,
      );
      there = open_with f.found (arbiter_in told);
      outputs = [];
      is = f.net;
      at = opened_at told (λ v e. is_up s.facts o.setup (identity game who) o.before o.now v (subst (Opens s.facts o.setup (identity game who) o.before o.now) e is)) f.is_found;
    }

    opening_goes : (life later : GameStatus K) → OpensTo s t game.stamp life o told later → GoesTo later
    opening_goes life later h = moved (life_after o.now told) later h.new_is (by_delay (cases_lt most_delay o.setup.delay))
      where
        setup : nets.IsSetupOf game who o.setup
        setup = is_setup game who t of o.setup h.game f.start f.delay

        by_delay : (most_delay < o.setup.delay) ⊎ (o.setup.delay ≤ most_delay) → GoesTo (life_after o.now told)
        by_delay (inr few) =
            let g = h.opening.good (is_good game who t of o.setup h.game few) in
            opens setup (subst (λ (me : Identity). Opens s.facts o.setup me o.before o.now told) (is_one game who o.setup g.0 g.1 setup.identity) g.2)
        by_delay (inl more) =
            let b = h.opening.bad (λ good. let few = good.delay in omega (arith, more, few)) in
            closes (life_after o.now told) (subst (λ (x : opening.OpenResult). IsSiteOfLife s.facts (life_after o.now x) (closed_with (site_of old who).kept)) (sym b.0) refl) (bad_is b.0 b.1)

  -- ---- an answer

  module _ (at : Moment K) (here : IsHere (Open at)) (e : Exchange K) (h : AnswersDatagram s.facts game old who e new) (d : Delivers s.facts at e) where
    found_so : FoundAnswered s.facts at.arbiter e h.found
    found_so = subst (λ (x : Option View). IfSome x (λ v. FoundAnswered s.facts v e h.found)) here.0 h.is_found

    abbrev AfterIt : SystemState
    AfterIt = changed old who (open_with h.found (Some e.after.arbiter)) (sent_with e.told)

    answers : nets.GoesByStep seen_facts game old (AnswersOne who at.arbiter (seen s.facts at.keeper) (seen_exchange s.facts e)) AfterIt
    answers = record {
      site = open_with h.found (Some e.after.arbiter);
      is = record { stands = here.0; runs = here.1; kept = sym here.2; came = h.came; delivers = seen_delivers s.facts at.arbiter at.keeper e d; arbiter = refl; found = found_so };
      net = refl;
    }

    kept_so : e.after.arbiter.is_down ≡ false → h.found ≡ s.facts.kept e.after.keeper
    kept_so up = by_found found_so
      where
        by_found : FoundAnswered s.facts at.arbiter e h.found → h.found ≡ s.facts.kept e.after.keeper
        by_found (inl is) = is
        by_found (inr to) =
            let down : e.after.arbiter.is_down ≡ true = fails_down s.facts at.arbiter e.after.arbiter at.keeper e.after.keeper e.told h.found (answer_at at.arbiter e.datagram) d.put to.0 to.1 in
            absurd (cc)

    answer_goes : (down : Bool) → e.after.arbiter.is_down ≡ down → GoesTo (cond down (Shut e.after.keeper) (Open e.after))
    answer_goes false up =
        let is : new ≡ AfterIt = h.net ∙ ap (λ (b : Bool). changed old who (open_with h.found (cond b None (Some e.after.arbiter))) (sent_with e.told)) up in
        record {
          acts = AnswersOne who at.arbiter (seen s.facts at.keeper) (seen_exchange s.facts e) ∷ [];
          goes = (AfterIt, answers, is);
          there = open_with h.found (Some e.after.arbiter);
          outputs = sent_with e.told;
          is = is;
          at = (refl, up, kept_so up);
        }
    answer_goes true down =
        let is : new ≡ changed old who (closed_with h.found) (sent_with e.told) = h.net ∙ ap (λ (b : Bool). changed old who (open_with h.found (cond b None (Some e.after.arbiter))) (sent_with e.told)) down in
        record {
          acts = AnswersOne who at.arbiter (seen s.facts at.keeper) (seen_exchange s.facts e) ∷ ClosesOne who ∷ [];
          goes = (AfterIt, answers, (new, is ∙ after_it who, refl));
          there = closed_with h.found;
          outputs = sent_with e.told;
          is = is;
          at = refl;
        }
      where
        after_it : (who : ArbiterId) → changed old who (closed_with h.found) (sent_with e.told) ≡ closed (changed old who (open_with h.found (Some e.after.arbiter)) (sent_with e.told)) who
        after_it who = close_after old who h.found (Some e.after.arbiter) (sent_with e.told)

  answering_goes : (life later : GameStatus K) (e : Exchange K) → IsHere life → host.AnswersTo s life e later → AnswersDatagram s.facts game old who e new → GoesTo later
  answering_goes Fresh later e here to h = absurd to
  answering_goes (Shut left) later e here to h = absurd to
  answering_goes (Open at) later e here to h = moved (life_at e.after) later to.1 (answer_goes at here e h to.0 e.after.arbiter.is_down refl)

  closing_goes : (life later : GameStatus K) (left : K) → host.ClosesTo life left later → new ≡ closed old who → GoesTo later
  closing_goes Fresh later left to e = absurd to
  closing_goes (Shut before) later left to e = absurd to
  closing_goes (Open at) later left to e = moved (Shut left) later to.1 (closes (Shut left) refl e)

  -- ---- an act

  own_goes : (life later : GameStatus K) (a : Action K) → IsHere life → GoesByAct s t game.stamp life a later → GivesOwn s.facts game old who a new → GoesTo later
  own_goes life later (act.Unread datagram fault) here to g = absurd to
  own_goes life later (act.Strange stamp datagram tried why) here to g = moved life later to.2 (stays life here g)
  own_goes life later (act.Refuses stamp datagram o fault) here to g = opening_goes o (Err fault) g life later to
  own_goes life later (act.Opens stamp o arbiter) here to g = opening_goes o (Ok arbiter) g life later to
  own_goes life later (act.Answers stamp e) here to g = answering_goes life later e here to g
  own_goes life later (act.Closes stamp left) here to g = closing_goes life later left to g

  -- one of the game or of another one, before the other acts of the game
  pub act_goes : (b : Bool) (life end : GameStatus K) (a : Action K) (own : List (Action K)) → IsHere life → GivesIf b s.facts game old who a new → Goes s t game.stamp life (cond b (a ∷ own) own) end
      → (mid : GameStatus K) × GoesTo mid × Goes s t game.stamp mid own end
  act_goes true life end a own here g r = (r.0, own_goes life r.0 a here r.1 g, r.2)
  act_goes false life end a own here g r = (life, stays life here g, r)
