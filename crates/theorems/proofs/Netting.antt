-- Two arbiters over keepers come to a world of a schedule.
use Rattle.std.proofs.Common.{◌≡◌, ℕ, false, List, [], ◌∷◌, ◌++◌, Option, Some, None, Result, Ok, Err, sym, refl, ap, ◌∙◌, subst, inl, inr}
use Rattle.std.specs.Prelude.{◌⊎◌, IfSome, slice_get}
use Rattle.std.proofs.lemmas.Bool.{cond-false}
use Rattle.std.proofs.lemmas.List.{append-nil}
use Rattle.judge_core.specs.Games.{Rules}
use Rattle.move_msg.specs.declared.stamp.Stamp.{Stamp}
use Rattle.move_msg.specs.declared.arbiter_id.ArbiterId.{ArbiterId}
use Rattle.move_msg.specs.declared.arbiter_id.ArbiterId.TheVariants.{A, B}
use Rattle.move_msg.specs.declared.message.Message.{Message}
use Rattle.move_msg.specs.declared.message.Message.TheVariants.{Move, Ack, Verdict, Fetch}
use Rattle.move_msg.proofs.RecordLaws.{is_spelled}
use Rattle.arbiter_core.specs.declared.fault.DeliverFault.{DeliverFault}
use Rattle.arbiter_core.specs.declared.fault.DeliverFault.TheVariants as deliver
use Rattle.arbiter_core.specs.declared.fault.OpenFault.{OpenFault}
use Rattle.arbiter_core.specs.declared.fault.OpenFault.TheVariants as opening
use Rattle.arbiter_core.specs.declared.keeper.Keep.{Keep}
use Rattle.arbiter_core.specs.declared.keeper.Keep.TheVariants.{Good, FailsOld, FailsNew}
use Rattle.arbiter_core.specs.Keeping.{KeeperFacts}
use Rattle.arbiter_core.specs.Setups.{SetupView, rules_at}
use Rattle.arbiter_core.specs.Views.{View, spelled_as}
use Rattle.arbiter_core.specs.Recording.{Recorded, ReorderBuffer}
use Rattle.arbiter_core.specs.Answering.{Answer, Identity, Refuses, Sends, Puts, answer_heard, answer_to, request_of}
use Rattle.arbiter_core.specs.Delivers.{Exchange, IsSpelled, IsWritten, Lands, PutsIfAny, RefusesOrSends, Told as Answered, Unchanged, answer_at, downed, heard}
use Rattle.arbiter_core.specs.Opens.{FirstLands, IsResumed, IsWhole, OpenResult as Opened, Opens, OpensOver, PutsFirst, Resumes, first_record, running}
use Rattle.relay_world.specs.declared.event.Event.{Event}
use Rattle.relay_world.specs.declared.event.Event.TheVariants.{Deliver, Restart, Ask}
use Rattle.relay_world.specs.Worlds.{Down, Judged, Running, Side, SideLife, World, answered, delivered, first_world, happens, hears, hears_at, identity, listed, restarted, side_in, wants, with_side, world_after_all}
use Rattle.relay_world.specs.Headline.{IsFaithful, IsFrontOf}
use Rattle.relay_world.specs.Runs.{KeptIs}
use Rattle.theorems.specs.Nets.{NetStep, AnswersOne, Answering, AsksOne, Asking, ClosesOne, FoundAnswered, FoundOpened, GoesBySteps, GoesByStep, IsHeeded, IsOfWorld, IsSetupOf, IsToBePut, SystemState, OpensOne, OpeningInNet, Site, arbiter_in, changed, first_net, sent_with, site_of}
use Rattle.relay_world.proofs.Hearing.{written_too}
use Rattle.relay_world.proofs.Reopening.{one_whole}
use Rattle.relay_world.proofs.Pairing.{whole_of}
use Rattle.relay_world.proofs.Steps.{Holds, first_holds, right_of, run_goes, side_at}
use Rattle.relay_world.proofs.Schedules.{after_append, holds_after}
use Rattle.relay_world.proofs.Faithful.{faithful_of}

-- ---- a site stands for a side of a world

pub record RunsAt (game : Judged) (who : ArbiterId) (v : View) (side : Side) : Type 0 where
  pub rules : rules_at v.setup ≡ game.rules
  pub me : v.me ≡ identity game who
  pub is : v.is_down ≡ false → (side.life ≡ Running v.window) × (side.kept ≡ Some v.kept)

-- of an arbiter that is closed nothing is said, and of one that is down nothing but whose it is
abbrev pub RunsSo : Judged → ArbiterId → Option View → Side → Type 0
RunsSo game who None side = Unit {0}
RunsSo game who (Some v) side = RunsAt game who v side

pub record Shows (game : Judged) (who : ArbiterId) (found : Option (List ℕ)) (arbiter : Option View) (side : Side) : Type 0 where
  pub kept : KeptIs game.stamp game.rules.delay found side.kept
  pub runs : RunsSo game who arbiter side

pub record ShowsNet (game : Judged) (net : SystemState) (world : World) : Type 0 where
  pub a : Shows game A net.a.kept net.a.arbiter world.a
  pub b : Shows game B net.b.kept net.b.arbiter world.b
  pub log : net.log ≡ world.log

-- events lead from this world to one for which the net stands
abbrev pub Stands : Judged → World → SystemState → Type 0
Stands game from net = (events : List Event) × ShowsNet game net (world_after_all game from events)

-- ---- an answer

-- what an answer leaves: all as it was, or what a put with some outcome leaves
abbrev Comes : Judged → ArbiterId → Option (List ℕ) → View → List Message → Recorded → ReorderBuffer → Answer → Type 0
Comes game who found new outputs old window a =
    (Shows game who found (Some new) (record { kept = Some old; life = Running window }) × (outputs ≡ []))
    ⊎ ((keep : Keep) × Shows game who found (Some new) (answered keep old window a).0 × (outputs ≡ (answered keep old window a).1))

no_two : (told : Answered) (f g : DeliverFault) → told ≡ Err f → told ≡ Err g → f ≡ g
no_two told f g e h = cc

not_both : (told : Answered) (outputs : List Message) (f : DeliverFault) → told ≡ Ok outputs → told ≡ Err f → ⊥
not_both told outputs f e h = cc

module _ {K : Type 0} (facts : KeeperFacts K) (game : Judged) (who : ArbiterId) (v : View) (rules : rules_at v.setup ≡ game.rules) (me : v.me ≡ identity game who) (up : v.is_down ≡ false) where
  abbrev Found : View → K → K → Answered → Answer → Option (List ℕ) → Type 0
  Found new before now told a found = (found ≡ facts.kept now) ⊎ ((told ≡ Err deliver.KeeperFailed) × IsToBePut v a found)

  -- what is spelled or written by its setup is so by the game
  at_game : (Written : Stamp → ℕ → Type 0) → Written v.me.stamp v.setup.delay → Written game.stamp game.rules.delay
  at_game Written l = subst (λ (r : Rules). Written game.stamp r.delay) rules (subst (λ (x : Identity). Written x.stamp v.setup.delay) me l)

  -- all is as it was
  stays : (new : View) (before now : K) (told wanted : Answered) (found : Option (List ℕ)) → Unchanged v before now new told wanted → IsWritten game.stamp game.rules.delay v.kept (facts.kept before) → found ≡ facts.kept now → Shows game who found (Some new) (record { kept = Some v.kept; life = Running v.window })
  stays new before now told wanted found u kept is = record {
    kept = subst (λ (x : Option (List ℕ)). KeptIs game.stamp game.rules.delay x (Some v.kept)) (sym (is ∙ ap facts.kept u.keeper)) kept;
    runs = subst (λ (x : View). RunsAt game who x (record { kept = Some v.kept; life = Running v.window })) (sym u.arbiter) (record { rules = rules; me = me; is = λ _. (refl, refl) });
  }

  -- one that is down
  down : (new : View) (found : Option (List ℕ)) (side : Side) → new ≡ downed v → KeptIs game.stamp game.rules.delay found side.kept → Shows game who found (Some new) side
  down new found side is kept = record {
    kept = kept;
    runs = subst (λ (x : View). RunsAt game who x side) (sym is) (record { rules = rules; me = me; is = λ e. absurd (cc) });
  }

  pub answer_comes : (new : View) (before now : K) (told : Answered) (found : Option (List ℕ)) (a : Answer) → IsWritten game.stamp game.rules.delay v.kept (facts.kept before) → RefusesOrSends v before now new told a → PutsIfAny facts v before now new told a → Found new before now told a found → Comes game who found new (sent_with told) v.kept v.window a
  answer_comes new before now told found (Refuses f) kept r p (inl is) = inl (stays new before now told (Err f) found r kept is, ap sent_with r.answer)
  answer_comes new before now told found (Refuses f) kept r p (inr to) = absurd to.1
  answer_comes new before now told found (Sends outputs later) kept (inl r) p (inl is) =
      inr (
        Good,
        record {
          kept = subst (λ (x : Option (List ℕ)). KeptIs game.stamp game.rules.delay x (Some v.kept)) (sym (is ∙ ap facts.kept r.keeper)) kept;
          runs = subst (λ (x : View). RunsAt game who x (record { kept = Some v.kept; life = Running later })) (sym r.arbiter) (record { rules = rules; me = me; is = λ _. (refl, refl) });
        },
        ap sent_with r.answer,
      )
  answer_comes new before now told found (Sends outputs later) kept (inr r) p (inl is) = inl (stays new before now told (Err deliver.OutOfMemory) found r.1 kept is, ap sent_with r.1.answer)
  answer_comes new before now told found (Sends outputs later) kept r p (inr to) = absurd to.1
  answer_comes new before now told found (Puts next outputs later) kept r (inl u) (inl is) = inl (stays new before now told (Err deliver.OutOfMemory) found u kept is, ap sent_with u.answer)
  answer_comes new before now told found (Puts next outputs later) kept r (inl u) (inr to) =
      let bad : deliver.OutOfMemory ≡ deliver.KeeperFailed = no_two told deliver.OutOfMemory deliver.KeeperFailed u.answer to.0 in
      absurd (cc)
  answer_comes new before now told found (Puts next outputs later) kept r (inr q) at = landed q.keep q.lands at
    where
      by_bytes : (facts.kept now ≡ facts.kept before) ⊎ IsWritten v.me.stamp v.setup.delay next (facts.kept now) → IsSpelled game.stamp game.rules.delay next (facts.kept now) → IsWritten game.stamp game.rules.delay next (facts.kept now)
      by_bytes (inl same) h = written_too game.stamp game.rules.delay v.kept next (facts.kept now) (subst (IsWritten game.stamp game.rules.delay v.kept) (sym same) kept) h
      by_bytes (inr w) h = at_game (λ x d. IsWritten x d next (facts.kept now)) w

      written : IsSpelled v.me.stamp v.setup.delay next (facts.kept now) → IsWritten game.stamp game.rules.delay next (facts.kept now)
      written h = by_bytes q.written (at_game (λ x d. IsSpelled x d next (facts.kept now)) h)

      to_be_put : IsWritten v.me.stamp v.setup.delay next found → IsWritten game.stamp game.rules.delay next found
      to_be_put w = at_game (λ x d. IsWritten x d next found) w

      landed : (o : Keep) → Lands o v next outputs later (facts.kept before) (facts.kept now) new told → Found new before now told (Puts next outputs later) found → Comes game who found new (sent_with told) v.kept v.window (Puts next outputs later)
      landed Good l (inl is) = inr (
        Good,
        record {
          kept = subst (λ (x : Option (List ℕ)). KeptIs game.stamp game.rules.delay x (Some next)) (sym is) (written l.2);
          runs = subst (λ (x : View). RunsAt game who x (record { kept = Some next; life = Running later })) (sym l.1) (record { rules = rules; me = me; is = λ _. (refl, refl) });
        },
        ap sent_with l.0,
      )
      landed Good l (inr to) = absurd (not_both told outputs deliver.KeeperFailed l.0 to.0)
      landed FailsOld l (inl is) = inr (FailsOld, down new found (record { kept = Some v.kept; life = Down }) l.1 (subst (λ (x : Option (List ℕ)). KeptIs game.stamp game.rules.delay x (Some v.kept)) (sym (is ∙ l.2)) kept), ap sent_with l.0)
      landed FailsOld l (inr to) = inr (FailsNew, down new found (record { kept = Some next; life = Down }) l.1 (to_be_put to.1), ap sent_with l.0)
      landed FailsNew l (inl is) = inr (FailsNew, down new found (record { kept = Some next; life = Down }) l.1 (subst (λ (x : Option (List ℕ)). KeptIs game.stamp game.rules.delay x (Some next)) (sym is) (written l.2)), ap sent_with l.0)
      landed FailsNew l (inr to) = inr (FailsNew, down new found (record { kept = Some next; life = Down }) l.1 (to_be_put to.1), ap sent_with l.0)

-- ---- an opening

no_open : (told : Opened) (v : View) (f : OpenFault) → told ≡ Ok v → told ≡ Err f → ⊥
no_open told v f e h = cc

-- what an opening leaves: no step of the world, or a restart
abbrev Reopens : Judged → ArbiterId → Option (List ℕ) → Opened → Side → Type 0
Reopens game who found told side =
    Shows game who found (arbiter_in told) side ⊎ ((keep : Keep) × Shows game who found (arbiter_in told) (restarted game.rules keep side.kept))

module _ {K : Type 0} (facts : KeeperFacts K) (game : Judged) (who : ArbiterId) (setup : SetupView) (is_setup : IsSetupOf game who setup) where
  abbrev First : Recorded
  First = first_record (rules_at setup)

  abbrev FoundSo : Option (List ℕ) → K → Opened → Option (List ℕ) → Type 0
  FoundSo old now told found = FoundOpened facts game setup old now told found

  -- the first record, by the rules of the game
  first_kept : (found : Option (List ℕ)) → IsWritten game.stamp game.rules.delay First found → IsWritten game.stamp game.rules.delay (first_record game.rules) found
  first_kept found w = subst (λ (r : Rules). IsWritten game.stamp game.rules.delay (first_record r) found) is_setup.rules w

  at_game_too : (Written : ℕ → Type 0) → Written setup.delay → Written game.rules.delay
  at_game_too Written l = subst (λ (r : Rules). Written r.delay) is_setup.rules l

  -- the first record is found, and no arbiter is open
  first_found : (old found : Option (List ℕ)) (told : Opened) (f : OpenFault) (life : SideLife) (kept : Option Recorded) → told ≡ Err f → old ≡ None → KeptIs game.stamp game.rules.delay old kept → IsWritten game.stamp game.rules.delay First found → Reopens game who found told (record { kept = kept; life = life })
  first_found old found told f life None is e k w = inr (FailsNew, record { kept = first_kept found w; runs = rw is tt })
  first_found old found told f life (Some r) is e k w = absurd (subst (IsWritten game.stamp game.rules.delay r) e k)

  -- what was kept stays, and no arbiter is open
  closed : (old found : Option (List ℕ)) (now : K) (told : Opened) (f : OpenFault) (life : SideLife) (kept : Option Recorded) → told ≡ Err f → KeptIs game.stamp game.rules.delay old kept → facts.kept now ≡ old → FoundSo old now told found → Reopens game who found told (record { kept = kept; life = life })
  closed old found now told f life kept is k still (inl same) = inl (record { kept = subst (λ (x : Option (List ℕ)). KeptIs game.stamp game.rules.delay x kept) (sym (same ∙ still)) k; runs = rw is tt })
  closed old found now told f life kept is k still (inr to) = first_found old found told f life kept is to.1 k to.2

  -- the first record was put over nothing
  put_first : (old found : Option (List ℕ)) (before now : K) (told : Opened) (life : SideLife) (kept : Option Recorded) → facts.kept before ≡ old → old ≡ None → KeptIs game.stamp game.rules.delay old kept → PutsFirst facts setup (identity game who) before now told → FoundSo old now told found → Reopens game who found told (record { kept = kept; life = life })
  put_first old found before now told life (Some r) same e k q at = absurd (subst (IsWritten game.stamp game.rules.delay r) e k)
  put_first old found before now told life None same e k q at = landed q.keep q.lands at
    where
      by_bytes : (facts.kept now ≡ facts.kept before) ⊎ IsWritten game.stamp setup.delay First (facts.kept now) → IsSpelled game.stamp setup.delay First (facts.kept now) → IsWritten game.stamp setup.delay First (facts.kept now)
      by_bytes (inl still) h = absurd (subst (IsSpelled game.stamp setup.delay First) (still ∙ same ∙ e) h)
      by_bytes (inr w) h = w

      written : IsSpelled game.stamp setup.delay First (facts.kept now) → IsWritten game.stamp game.rules.delay First (facts.kept now)
      written h = at_game_too (λ d. IsWritten game.stamp d First (facts.kept now)) (by_bytes q.written h)

      landed : (o : Keep) → FirstLands o setup (identity game who) (facts.kept before) (facts.kept now) told → FoundSo old now told found → Reopens game who found told (record { kept = None; life = life })
      landed Good l (inl is) = inr (
        Good,
        record {
          kept = first_kept found (subst (IsWritten game.stamp game.rules.delay First) (sym is) (written l.1));
          runs = rw l.0 (record { rules = is_setup.rules; me = refl; is = λ _. (refl, ap (λ (r : Rules). Some (first_record r)) (sym is_setup.rules)) });
        },
      )
      landed Good l (inr to) = absurd (no_open told (running setup (identity game who) First) opening.KeeperFailed l.0 to.0)
      landed FailsOld l at = closed old found now told opening.KeeperFailed life None l.0 k (l.1 ∙ same) at
      landed FailsNew l (inl is) = first_found old found told opening.KeeperFailed life None l.0 e k (subst (IsWritten game.stamp game.rules.delay First) (sym is) (written l.1))
      landed FailsNew l (inr to) = first_found old found told opening.KeeperFailed life None l.0 e k to.2

  -- an arbiter runs from the bytes that are kept, or they are refused
  resumes : (old found : Option (List ℕ)) (bytes : List ℕ) (now : K) (told : Opened) (life : SideLife) (kept : Option Recorded) → old ≡ Some bytes → KeptIs game.stamp game.rules.delay old kept → IfSome kept (IsWhole game.rules) → facts.kept now ≡ old → Resumes setup (identity game who) bytes told → FoundSo old now told found → Reopens game who found told (record { kept = kept; life = life })
  resumes old found bytes now told life None is k whole still r at = let bad : old ≡ None = k in absurd (cc)
  resumes old found bytes now (Err fault) life (Some one) is k whole still r at = closed old found now (Err fault) fault life (Some one) refl k still at
  resumes old found bytes now (Ok v) life (Some one) is k whole still r (inr to) = absurd (no_open (Ok v) v opening.KeeperFailed refl to.0)
  resumes old found bytes now (Ok v) life (Some one) is k whole still r (inl same) =
      let written : IsWritten game.stamp game.rules.delay one (Some bytes) = subst (IsWritten game.stamp game.rules.delay one) is k in
      let told_so : IsResumed game.rules game.stamp bytes v.kept = subst (λ (x : Rules). IsResumed x game.stamp bytes v.kept) is_setup.rules r.1 in
      let one_is : v.kept ≡ one = one_whole game.rules game.stamp bytes v.kept one told_so (is_spelled bytes (spelled_as game.stamp game.rules.delay one) written, whole) in
      let runs : RunsAt game who (running setup (identity game who) v.kept) (restarted game.rules Good (Some one)) = record { rules = is_setup.rules; me = refl; is = λ _. (refl, ap Some (sym one_is)) } in
      inr (
        Good,
        record {
          kept = subst (λ (x : Option (List ℕ)). KeptIs game.stamp game.rules.delay x (Some one)) (sym (same ∙ still)) k;
          runs = subst (λ (x : View). RunsAt game who x (restarted game.rules Good (Some one))) (sym r.0) runs;
        },
      )

  pub reopens : (old found : Option (List ℕ)) (before now : K) (told : Opened) (life : SideLife) (kept : Option Recorded) → facts.kept before ≡ old → KeptIs game.stamp game.rules.delay old kept → IfSome kept (IsWhole game.rules) → Opens facts setup (identity game who) before now told → FoundSo old now told found → Reopens game who found told (record { kept = kept; life = life })
  reopens old found before now told life kept same k whole (inl g) at = closed old found now told opening.KeeperFailed life kept g.answer k (g.still ∙ same) at
  reopens old found before now told life kept same k whole (inr (inl g)) at = closed old found now told opening.OutOfMemory life kept g.answer k (g.still ∙ same) at
  reopens old found before now told life kept same k whole (inr (inr o)) at = over (facts.kept before) same o
    where
      over : (bytes : Option (List ℕ)) → bytes ≡ old → OpensOver facts setup (identity game who) bytes before now told → Reopens game who found told (record { kept = kept; life = life })
      over None e q = put_first old found before now told life kept same (sym e) k q at
      over (Some bytes) e q = resumes old found bytes now told life kept (sym e) k whole (q.0 ∙ same) q.1 at

-- ---- the steps of the net

pub shows_at : (game : Judged) (net : SystemState) (world : World) (who : ArbiterId) → ShowsNet game net world → Shows game who (site_of net who).kept (site_of net who).arbiter (side_in world who)
shows_at game net world A h = h.a
shows_at game net world B h = h.b

-- one site changes as its side does
turned_shows : (game : Judged) (net : SystemState) (world : World) (who : ArbiterId) (site : Site) (outputs : List Message) (late : Side × List Message) → ShowsNet game net world → Shows game who site.kept site.arbiter late.0 → outputs ≡ late.1 → ShowsNet game (changed net who site outputs) (with_side world who late)
turned_shows game net world A site outputs late h s e = record { a = s; b = h.b; log = ap (λ (xs : List Message). net.log ++ xs) e ∙ ap (λ (xs : List Message). xs ++ late.1) h.log }
turned_shows game net world B site outputs late h s e = record { a = h.a; b = s; log = ap (λ (xs : List Message). net.log ++ xs) e ∙ ap (λ (xs : List Message). xs ++ late.1) h.log }

-- one site changes, and no side does
still_shows : (game : Judged) (net : SystemState) (world : World) (who : ArbiterId) (site : Site) (outputs : List Message) → ShowsNet game net world → Shows game who site.kept site.arbiter (side_in world who) → outputs ≡ [] → ShowsNet game (changed net who site outputs) world
still_shows game net world A site outputs h s e = record { a = s; b = h.b; log = ap (λ (xs : List Message). net.log ++ xs) e ∙ append-nil net.log ∙ h.log }
still_shows game net world B site outputs h s e = record { a = h.a; b = s; log = ap (λ (xs : List Message). net.log ++ xs) e ∙ append-nil net.log ∙ h.log }

-- a net that a further event leads to
by_event : (game : Judged) (from : World) (net : SystemState) (events : List Event) (event : Event) (world : World) → happens game (world_after_all game from events) event ≡ world → ShowsNet game net world → Stands game from net
by_event game from net events event world is h =
    (events ++ event ∷ [], subst (ShowsNet game net) (sym is ∙ sym (after_append game from events (event ∷ []))) h)

pub deliver_is : (game : Judged) (world : World) (who : ArbiterId) (i : ℕ) (keep : Keep) (m : Message) → slice_get world.log i ≡ Some m → happens game world (Deliver who i keep) ≡ with_side world who (hears keep (side_in world who) (λ old window. answer_to game.rules (identity game who) old window m))
unfolding happens
deliver_is game world who i keep m e = ap (delivered game world who keep) e

restart_is : (game : Judged) (world : World) (who : ArbiterId) (keep : Keep) → happens game world (Restart who keep) ≡ with_side world who (restarted game.rules keep (side_in world who).kept, [])
unfolding happens
restart_is game world who keep = refl

ask_is : (game : Judged) (world : World) (who : ArbiterId) → happens game world (Ask who) ≡ with_side world who (side_in world who, wants (identity game who) (side_in world who).kept (side_in world who).life)
unfolding happens
ask_is game world who = refl

pub running_hears : (keep : Keep) (kept : Option Recorded) (life : SideLife) (old : Recorded) (window : ReorderBuffer) (respond : Recorded → ReorderBuffer → Answer) → kept ≡ Some old → life ≡ Running window → hears_at keep kept life respond ≡ answered keep old window (respond old window)
running_hears keep kept life old window respond e f = rw (e, f) refl

same_side : (side : Side) (old : Recorded) (window : ReorderBuffer) → side.life ≡ Running window → side.kept ≡ Some old → side ≡ record { kept = Some old; life = Running window }
same_side side old window e f = made side.kept side.life f e
  where
    made : (kept : Option Recorded) (life : SideLife) → kept ≡ Some old → life ≡ Running window → ◌≡◌ {A = Side} (record { kept = kept; life = life }) (record { kept = Some old; life = Running window })
    made kept life e f = cc

-- a message is heeded, or nothing comes of it
heeded : (rules : Rules) (me : Identity) (old : Recorded) (window : ReorderBuffer) (m : Message) → IsHeeded m ⊎ (answer_to rules me old window m ≡ Sends [] window)
unfolding answer_to
heeded rules me old window (Move stamp sender number m) = inl tt
heeded rules me old window (Ack stamp who count) = inr refl
heeded rules me old window (Verdict stamp who ply verdict) = inr refl
heeded rules me old window (Fetch stamp who number wanted) = inl tt

front_of : (game : Judged) (world : World) (who : ArbiterId) → IsFaithful game world → IfSome (side_in world who).kept (IsFrontOf game.rules game.moves)
front_of game world A f = f.a
front_of game world B f = f.b

-- from any world in which all holds
module _ {K : Type 0} (facts : KeeperFacts K) (game : Judged) (from : World) (held : Holds game from) where
  holds_then : (events : List Event) → Holds game (world_after_all game from events)
  holds_then events = (run_goes game from events held).holds

  opening_goes : (old new : SystemState) (who : ArbiterId) (before now : K) (told : Opened) → Stands game from old → OpeningInNet facts game old who before now told new → Stands game from new
  opening_goes old new who before now told s o =
      let events : List Event = s.0 in
      let world : World = world_after_all game from events in
      let shows = shows_at game old world who s.1 in
      let whole = whole_of game.rules game.moves (side_in world who).kept (side_at game world who (holds_then events)).kept in
      subst (Stands game from) (sym o.net) (by_cases events world refl s.1 (reopens facts game who o.is.setup o.is.is_setup (site_of old who).kept o.site.kept before now told (side_in world who).life (side_in world who).kept o.is.kept shows.kept whole o.is.opens o.is.found))
    where
      by_cases : (events : List Event) (world : World) → world ≡ world_after_all game from events → ShowsNet game old world → Reopens game who o.site.kept told (side_in world who) → Stands game from (changed old who o.site [])
      by_cases events world e h (inl r) =
          (events, subst (ShowsNet game (changed old who o.site [])) e (still_shows game old world who o.site [] h (subst (λ (x : Option View). Shows game who o.site.kept x (side_in world who)) (sym o.is.arbiter) r) refl))
      by_cases events world e h (inr r) =
          let late : Side × List Message = (restarted game.rules r.0 (side_in world who).kept, []) in
          by_event game from (changed old who o.site []) events (Restart who r.0) (with_side world who late)
          (subst (λ (w : World). happens game w (Restart who r.0) ≡ with_side world who late) e (restart_is game world who r.0))
          (turned_shows game old world who o.site [] late h (subst (λ (x : Option View). Shows game who o.site.kept x (restarted game.rules r.0 (side_in world who).kept)) (sym o.is.arbiter) r.1) refl)

  answering_goes : (old new : SystemState) (who : ArbiterId) (v : View) (before : K) (e : Exchange K) → Stands game from old → Answering facts game old who v before e new → Stands game from new
  answering_goes old new who v before e s o =
      let events : List Event = s.0 in
      let world : World = world_after_all game from events in
      let shows = shows_at game old world who s.1 in
      let runs : RunsAt game who v (side_in world who) = subst (λ (x : Option View). RunsSo game who x (side_in world who)) o.is.stands shows.runs in
      subst (Stands game from) (sym o.net) (by_heard events world refl s.1 shows.kept runs (heard game.stamp e.datagram) refl)
    where
      by_heard : (events : List Event) (world : World) → world ≡ world_after_all game from events → ShowsNet game old world → KeptIs game.stamp game.rules.delay (site_of old who).kept (side_in world who).kept → RunsAt game who v (side_in world who) → (said : Result Message DeliverFault) → heard game.stamp e.datagram ≡ said → Stands game from (changed old who o.site (sent_with e.told))
      by_heard events world at h kept runs said is = by_said said is answer (answer_comes facts game who v runs.rules runs.me o.is.runs e.after.arbiter before e.after.keeper e.told o.site.kept (answer_heard game.rules (identity game who) v.kept v.window said) written (subst (RefusesOrSends v before e.after.keeper e.after.arbiter e.told) answer o.is.delivers.answered) (subst (PutsIfAny facts v before e.after.keeper e.after.arbiter e.told) answer o.is.delivers.put) (found o.is.found))
        where
          life : (side_in world who).life ≡ Running v.window
          life = (runs.is o.is.runs).0

          is_kept : (side_in world who).kept ≡ Some v.kept
          is_kept = (runs.is o.is.runs).1

          side : side_in world who ≡ record { kept = Some v.kept; life = Running v.window }
          side = same_side (side_in world who) v.kept v.window life is_kept

          written : IsWritten game.stamp game.rules.delay v.kept (facts.kept before)
          written = subst (λ (x : Option (List ℕ)). IsWritten game.stamp game.rules.delay v.kept x) (sym o.is.kept) (subst (KeptIs game.stamp game.rules.delay (site_of old who).kept) is_kept kept)

          answer : answer_at v e.datagram ≡ answer_heard game.rules (identity game who) v.kept v.window said
          answer =
              cond-false v.is_down (Refuses deliver.Down) (answer_heard (rules_at v.setup) v.me v.kept v.window (heard v.me.stamp e.datagram)) o.is.runs
              ∙ ap (λ (x : Rules). answer_heard x v.me v.kept v.window (heard v.me.stamp e.datagram)) runs.rules
              ∙ ap (λ (x : Identity). answer_heard game.rules x v.kept v.window (heard x.stamp e.datagram)) runs.me
              ∙ ap (answer_heard game.rules (identity game who) v.kept v.window) is

          found : FoundAnswered facts v e o.site.kept → (o.site.kept ≡ facts.kept e.after.keeper) ⊎ ((e.told ≡ Err deliver.KeeperFailed) × IsToBePut v (answer_heard game.rules (identity game who) v.kept v.window said) o.site.kept)
          found (inl f) = inl f
          found (inr f) = inr (f.0, subst (λ (a : Answer). IsToBePut v a o.site.kept) answer f.1)

          unchanged : Shows game who o.site.kept (Some e.after.arbiter) (record { kept = Some v.kept; life = Running v.window }) → sent_with e.told ≡ [] → Stands game from (changed old who o.site (sent_with e.told))
          unchanged shows none = (
            events,
            subst (ShowsNet game (changed old who o.site (sent_with e.told))) at
                (still_shows game old world who o.site (sent_with e.told) h
                (subst (λ (x : Option View). Shows game who o.site.kept x (side_in world who)) (sym o.is.arbiter) (subst (Shows game who o.site.kept (Some e.after.arbiter)) (sym side) shows)) none),
          )

          quiet : Comes game who o.site.kept e.after.arbiter (sent_with e.told) v.kept v.window (Sends [] v.window) → Stands game from (changed old who o.site (sent_with e.told))
          quiet (inl c) = unchanged c.0 c.1
          quiet (inr c) = unchanged c.1 c.2

          by_message : (m : Message) → heard game.stamp e.datagram ≡ Ok m → Comes game who o.site.kept e.after.arbiter (sent_with e.told) v.kept v.window (answer_to game.rules (identity game who) v.kept v.window m) → IsHeeded m ⊎ (answer_to game.rules (identity game who) v.kept v.window m ≡ Sends [] v.window) → Stands game from (changed old who o.site (sent_with e.told))
          by_message m is c (inr none) = quiet (subst (Comes game who o.site.kept e.after.arbiter (sent_with e.told) v.kept v.window) none c)
          by_message m is (inl c) (inl holds) = unchanged c.0 c.1
          by_message m is (inr c) (inl holds) =
              let sent = o.is.came m is holds in
              let there : slice_get world.log sent.0 ≡ Some m = subst (λ (xs : List Message). slice_get xs sent.0 ≡ Some m) h.log sent.1 in
              let late : Side × List Message = answered c.0 v.kept v.window (answer_to game.rules (identity game who) v.kept v.window m) in
              let step : happens game world (Deliver who sent.0 c.0) ≡ with_side world who late =
              deliver_is game world who sent.0 c.0 m there
              ∙ ap (with_side world who) (running_hears c.0 (side_in world who).kept (side_in world who).life v.kept v.window (λ old window. answer_to game.rules (identity game who) old window m) is_kept life) in
              by_event game from (changed old who o.site (sent_with e.told)) events (Deliver who sent.0 c.0) (with_side world who late)
              (subst (λ (w : World). happens game w (Deliver who sent.0 c.0) ≡ with_side world who late) at step)
              (turned_shows game old world who o.site (sent_with e.told) late h (subst (λ (x : Option View). Shows game who o.site.kept x late.0) (sym o.is.arbiter) c.1) c.2)

          by_said : (said : Result Message DeliverFault) → heard game.stamp e.datagram ≡ said → answer_at v e.datagram ≡ answer_heard game.rules (identity game who) v.kept v.window said → Comes game who o.site.kept e.after.arbiter (sent_with e.told) v.kept v.window (answer_heard game.rules (identity game who) v.kept v.window said) → Stands game from (changed old who o.site (sent_with e.told))
          by_said (Err fault) is same (inl c) = unchanged c.0 c.1
          by_said (Err fault) is same (inr c) = unchanged c.1 c.2
          by_said (Ok m) is same c = by_message m is c (heeded game.rules (identity game who) v.kept v.window m)

  asking_goes : (old new : SystemState) (who : ArbiterId) (v : View) → Stands game from old → Asking old who v new → Stands game from new
  asking_goes old new who v s o =
      let events : List Event = s.0 in
      let world : World = world_after_all game from events in
      let shows = shows_at game old world who s.1 in
      let runs : RunsAt game who v (side_in world who) = subst (λ (x : Option View). RunsSo game who x (side_in world who)) o.stands shows.runs in
      let late : Side × List Message = (side_in world who, wants (identity game who) (side_in world who).kept (side_in world who).life) in
      let said : listed (request_of v.me v.kept) ≡ wants (identity game who) (side_in world who).kept (side_in world who).life =
      ap (λ (x : Identity). listed (request_of x v.kept)) runs.me ∙ sym (asks (side_in world who).kept (side_in world who).life (runs.is o.runs).1 (runs.is o.runs).0) in
      subst (Stands game from) (sym o.net)
      (by_event game from (changed old who (site_of old who) (listed (request_of v.me v.kept))) events (Ask who) (with_side world who late) (ask_is game world who)
      (turned_shows game old world who (site_of old who) (listed (request_of v.me v.kept)) late s.1 shows said))
    where
      asks : (kept : Option Recorded) (life : SideLife) → kept ≡ Some v.kept → life ≡ Running v.window → wants (identity game who) kept life ≡ listed (request_of (identity game who) v.kept)
      asks kept life e f = rw (e, f) refl

  closing_goes : (old new : SystemState) (who : ArbiterId) → Stands game from old → new ≡ changed old who (record { kept = (site_of old who).kept; arbiter = None }) [] → Stands game from new
  closing_goes old new who s e =
      let world : World = world_after_all game from s.0 in
      let shows = shows_at game old world who s.1 in
      subst (Stands game from) (sym e) (s.0, still_shows game old world who (record { kept = (site_of old who).kept; arbiter = None }) [] s.1 (record { kept = shows.kept; runs = tt }) refl)

  goes_on : (old new : SystemState) (act : NetStep K) → Stands game from old → GoesByStep facts game old act new → Stands game from new
  goes_on old new (OpensOne who before now told) s o = opening_goes old new who before now told s o
  goes_on old new (AnswersOne who v before e) s o = answering_goes old new who v before e s o
  goes_on old new (AsksOne who v) s o = asking_goes old new who v s o
  goes_on old new (ClosesOne who) s o = closing_goes old new who s o

  pub goes : (old new : SystemState) (acts : List (NetStep K)) → Stands game from old → GoesBySteps facts game old acts new → Stands game from new
  goes old new [] s e = subst (Stands game from) (sym e) s
  goes old new (act ∷ acts) s g = goes g.0 new acts (goes_on old g.0 act s g.1) g.2

-- from the first world
module _ {K : Type 0} (facts : KeeperFacts K) (game : Judged) where
  first_stands : Stands game (first_world game) (first_net game)
  first_stands = ([], record { a = record { kept = refl; runs = tt }; b = record { kept = refl; runs = tt }; log = refl })

  pub stands_there : (acts : List (NetStep K)) (net : SystemState) → GoesBySteps facts game (first_net game) acts net → Stands game (first_world game) net
  stands_there acts net g = goes facts game (first_world game) (first_holds game) (first_net game) net acts first_stands g

  -- an arbiter that runs has the record of its side of the world
  pub runs_true : (net : SystemState) → Stands game (first_world game) net → (who : ArbiterId) (v : View) → (site_of net who).arbiter ≡ Some v → v.is_down ≡ false → IsFrontOf game.rules game.moves v.kept
  runs_true net s who v e up =
      let world : World = world_after_all game (first_world game) s.0 in
      let shows = shows_at game net world who s.1 in
      let runs : RunsAt game who v (side_in world who) = subst (λ (x : Option View). RunsSo game who x (side_in world who)) e shows.runs in
      subst (λ (x : Option Recorded). IfSome x (IsFrontOf game.rules game.moves)) (runs.is up).1
      (front_of game world who (faithful_of game world (right_of game world (holds_after game s.0))))

  pub arbiters_tell_the_truth : (acts : List (NetStep K)) (net : SystemState) → GoesBySteps facts game (first_net game) acts net → (who : ArbiterId) (v : View) → (site_of net who).arbiter ≡ Some v → v.is_down ≡ false → IsFrontOf game.rules game.moves v.kept
  arbiters_tell_the_truth acts net g = runs_true net (stands_there acts net g)

  pub arbiters_are_worlds : (acts : List (NetStep K)) (net : SystemState) → GoesBySteps facts game (first_net game) acts net → IsOfWorld game net
  arbiters_are_worlds acts net g =
      let s = stands_there acts net g in
      record {
        events = s.0;
        a = s.1.a.kept;
        b = s.1.b.kept;
        log = s.1.log;
        faithful = faithful_of game (world_after_all game (first_world game) s.0) (right_of game (world_after_all game (first_world game) s.0) (holds_after game s.0));
      }
