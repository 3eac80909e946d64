-- The end of a run, at which its process may be stopped within a put.
use Rattle.std.proofs.Common.{◌≡◌, ◌∙◌, ℕ, false, List, [], ◌∷◌, Option, Some, None, inl, inr, refl, sym, ap, subst, arith}
use Rattle.std.specs.Prelude.{◌⊎◌, Err}
use Rattle.move_msg.specs.declared.stamp.Stamp.{Stamp}
use Rattle.move_msg.specs.declared.arbiter_id.ArbiterId.{ArbiterId}
use Rattle.move_msg.proofs.RecordLaws.{is_spelled}
use Rattle.arbiter_core.specs.declared.fault.DeliverFault.TheVariants as deliver
use Rattle.arbiter_core.specs.declared.fault.OpenFault.TheVariants as open_fault
use Rattle.arbiter_core.specs.declared.keeper.Keep.TheVariants.{FailsNew}
use Rattle.arbiter_core.specs.Keeping.{KeeperFacts}
use Rattle.arbiter_core.specs.Setups.{SetupView, rules_at}
use Rattle.arbiter_core.specs.Views.{View, spelled_as}
use Rattle.arbiter_core.specs.Recording.{Recorded}
use Rattle.arbiter_core.specs.Answering.{Answer, Identity, Puts, Refuses, Sends}
use Rattle.arbiter_core.specs.Delivers.{Delivers, Exchange, IsSpelled, IsWritten, PutsIfAny, RefusesOrSends, answer_at, downed, exchange, moment}
use Rattle.arbiter_core.specs.Opens.{PutsFirst, first_record}
use Rattle.arbiter_server.specs.Games.{Fresh, GameStatus, Open, Shut}
use Rattle.relay_world.specs.Worlds.{Judged, identity}
use Rattle.theorems.specs.Nets as nets
use Rattle.theorems.specs.Nets.{AnswersOne, ClosesOne, IsToBePut, SystemState, OpensOne, changed, site_of}
use Rattle.theorems.specs.Interleavings.{IsCutAtFirst, IsSiteCutAtPut, IsSiteOfLife, Stops, closed_with, open_with}
use Rattle.theorems.proofs.Seeing.{Seen, seen_facts}
use Rattle.theorems.proofs.Weaving.{Moves, close_after, closed}

-- bytes that are written of a record are a record
spelled : (stamp : Stamp) (delay : ℕ) (kept : Recorded) (bytes : Option (List ℕ)) → IsWritten stamp delay kept bytes → IsSpelled stamp delay kept bytes
spelled stamp delay kept None w = w
spelled stamp delay kept (Some bytes) w = is_spelled bytes (spelled_as stamp delay kept) w

abbrev before : Option (List ℕ) → Seen
before kept = record { kept = kept; faults = 0 }

abbrev after : Option (List ℕ) → Seen
after kept = record { kept = kept; faults = 1 }

-- ---- an answer's put

-- the put failed, and what was to be put is found
abbrev cut_exchange : View → List ℕ → Option (List ℕ) → Exchange Seen
cut_exchange v datagram found = exchange datagram (Err deliver.KeeperFailed) (moment (downed v) (after found))

abbrev CutPut : View → Option (List ℕ) → Option (List ℕ) → Answer → Type 0
CutPut v kept found a = PutsIfAny seen_facts v (before kept) (after found) (downed v) (Err deliver.KeeperFailed) a

cut_put : (v : View) (kept found : Option (List ℕ)) (a : Answer) → IsToBePut v a found → CutPut v kept found a
cut_put v kept found (Refuses fault) to = absurd to
cut_put v kept found (Sends outputs window) to = absurd to
cut_put v kept None (Puts next outputs window) to = absurd to
cut_put v kept (Some bytes) (Puts next outputs window) to =
    inr (record { keep = FailsNew; stated = tt; lands = (refl, refl, spelled v.me.stamp v.setup.delay next (Some bytes) to); written = inr to; sent = bytes; spells = to; once = tt; cause = λ e. inl (omega arith) })

cut_sends : (v : View) (kept found : Option (List ℕ)) (a : Answer) → IsToBePut v a found → RefusesOrSends v (before kept) (after found) (downed v) (Err deliver.KeeperFailed) a
cut_sends v kept found (Refuses fault) to = absurd to
cut_sends v kept found (Sends outputs window) to = absurd to
cut_sends v kept found (Puts next outputs window) to = tt

cut_delivers : (v : View) (kept found : Option (List ℕ)) (datagram : List ℕ) → IsToBePut v (answer_at v datagram) found → Delivers seen_facts (moment v (before kept)) (cut_exchange v datagram found)
cut_delivers v kept found datagram to = record { answered = cut_sends v kept found (answer_at v datagram) to; put = cut_put v kept found (answer_at v datagram) to }

-- ---- the first put

cut_first : (setup : SetupView) (me : Identity) (found : Option (List ℕ)) → IsWritten me.stamp setup.delay (first_record (rules_at setup)) found → PutsFirst seen_facts setup me (before None) (after found) (Err open_fault.KeeperFailed)
cut_first setup me None w = absurd w
cut_first setup me (Some bytes) w =
    record { keep = FailsNew; stated = tt; lands = (refl, spelled me.stamp setup.delay (first_record (rules_at setup)) (Some bytes) w); written = inr w; mid = before None; got = tt; sent = bytes; spells = w; once = tt; cause = λ e. inl (omega arith) }

-- ---- a stop

none_some : (arbiter : Option View) (v : View) → arbiter ≡ None → arbiter ≡ Some v → ⊥
none_some arbiter v e f = cc

-- an arbiter that is open at a site runs
is_up : {K : Type 0} (facts : KeeperFacts K) (life : GameStatus K) (kept : Option (List ℕ)) (arbiter : Option View) (v : View) → IsSiteOfLife facts life (open_with kept arbiter) → arbiter ≡ Some v → v.is_down ≡ false
is_up facts Fresh kept arbiter v here e = absurd (none_some arbiter v here e)
is_up facts (Shut left) kept arbiter v here e = absurd (none_some arbiter v here e)
is_up facts (Open at) kept arbiter v here e =
    let same : at.arbiter ≡ v = one at.arbiter v (sym here.0 ∙ e) in
    subst (λ (x : View). x.is_down ≡ false) same here.1
  where
    one : (x y : View) → ◌≡◌ {A = Option View} (Some x) (Some y) → x ≡ y
    one x y e = cc

module _ {K : Type 0} (facts : KeeperFacts K) (game : Judged) (who : ArbiterId) (old new : SystemState) where
  abbrev Ended : Type 0
  Ended = Moves facts game old who Fresh new

  abbrev DownAt : Option (List ℕ) → View → SystemState
  DownAt found v = changed old who (open_with found (Some (downed v))) []

  -- nothing was put
  at_rest : (found : Option (List ℕ)) → new ≡ changed old who (closed_with found) [] → found ≡ (site_of old who).kept → Ended
  at_rest found is same =
      let net : new ≡ closed old who = is ∙ ap (λ (x : Option (List ℕ)). changed old who (closed_with x) []) same in
      record { acts = ClosesOne who ∷ []; goes = (new, net, refl); there = closed_with (site_of old who).kept; outputs = []; is = net; at = refl }

  at_put : (found : Option (List ℕ)) (c : IsSiteCutAtPut game old.log (site_of old who) found) → new ≡ changed old who (closed_with found) [] → c.arbiter.is_down ≡ false → Ended
  at_put found c is up = record {
    acts = AnswersOne who c.arbiter (before (site_of old who).kept) (cut_exchange c.arbiter c.datagram found) ∷ ClosesOne who ∷ [];
    goes = (DownAt found c.arbiter, answers, (new, is ∙ close_after old who found (Some (downed c.arbiter)) [], refl));
    there = closed_with found;
    outputs = [];
    is = is;
    at = refl;
  }
    where
      answers : nets.GoesByStep seen_facts game old (AnswersOne who c.arbiter (before (site_of old who).kept) (cut_exchange c.arbiter c.datagram found)) (DownAt found c.arbiter)
      answers = record {
        site = open_with found (Some (downed c.arbiter));
        is = record { stands = c.stands; runs = up; kept = refl; came = c.came; delivers = cut_delivers c.arbiter (site_of old who).kept found c.datagram c.put; arbiter = refl; found = inl refl };
        net = refl;
      }

  at_first : (found : Option (List ℕ)) → IsCutAtFirst game who (site_of old who) found → new ≡ changed old who (closed_with found) [] → Ended
  at_first found c is = record {
    acts = OpensOne who (before None) (after found) (Err open_fault.KeeperFailed) ∷ [];
    goes = (
      new,
      record {
        site = closed_with found;
        is = record { setup = c.setup; is_setup = c.is_setup; kept = sym c.none; opens = inr (inr (cut_first c.setup (identity game who) found c.put)); arbiter = refl; found = inl refl };
        net = is;
      },
      refl,
    );
    there = closed_with found;
    outputs = [];
    is = is;
    at = refl;
  }

  pub stop_goes : (life : GameStatus K) → IsSiteOfLife facts life (site_of old who) → Stops game old who new → Ended
  stop_goes life here st = by_cut st.is_found
    where
      by_cut : (st.found ≡ (site_of old who).kept) ⊎ (IsSiteCutAtPut game old.log (site_of old who) st.found ⊎ IsCutAtFirst game who (site_of old who) st.found) → Ended
      by_cut (inl same) = at_rest st.found st.net same
      by_cut (inr (inl c)) = at_put st.found c st.net (is_up facts life (site_of old who).kept (site_of old who).arbiter c.arbiter here c.stands)
      by_cut (inr (inr c)) = at_first st.found c st.net
