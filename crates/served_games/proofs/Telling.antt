-- What one act of a game leaves of what was told.
use Rattle.std.proofs.Common.{◌≡◌, ◌⊎◌, inl, inr, ◌≤◌, ◌+◌, ◌∙◌, ℕ, true, false, List, [], ◌∷◌, length, length-append, take, Option, Some, None, refl, sym, ap, subst, arith}
use Rattle.std.specs.Prelude.{Ok, Err}
use Rattle.std.specs.List.{AllByRecursion}
use Rattle.std.proofs.lemmas.Bool.{both_ways}
use Rattle.std.proofs.lemmas.List.{take-append-le, take_all}
use Rattle.judge_core.specs.Games.{Rules}
use Rattle.move_msg.proofs.RecordLaws.{is_spelled, one_record}
use Rattle.move_msg.specs.Records.{SpellsRecord, WritesRecord}
use Rattle.move_msg.specs.declared.message.Message.{Message}
use Rattle.move_msg.specs.declared.message.Message.TheVariants.{Move, Ack, Verdict, Fetch}
use Rattle.move_msg.specs.declared.record_bytes.Record.{Record}
use Rattle.move_msg.specs.declared.stamp.Stamp.{Stamp}
use Rattle.arbiter_core.specs.Answering.{Answer, Identity, Puts, Refuses as RefusesWith, Sends}
use Rattle.arbiter_core.specs.Delivers.{Delivers, Exchange, IsSpelled, Lands, Moment, PutsIfAny, RefusesOrSends, Told, answer_at, downed, heard, moment, with_record, with_window}
use Rattle.arbiter_core.specs.Keeping.{HasBytes}
use Rattle.arbiter_core.specs.Laws.{Grows, IsOwn, PutsGrow}
use Rattle.arbiter_core.specs.Opens as opening
use Rattle.arbiter_core.specs.Opens.{FirstLands, IsOpening, IsResumed, IsWhole, first_record, running}
use Rattle.arbiter_core.specs.Recording.{Recorded, ReorderBuffer, move_count, reaches}
use Rattle.arbiter_core.specs.Setups.{IsGood, SetupView, rules_at}
use Rattle.arbiter_core.specs.Views.{View, spelled_as}
use Rattle.arbiter_core.specs.declared.fault.DeliverFault.{DeliverFault}
use Rattle.arbiter_core.specs.declared.fault.DeliverFault.TheVariants as deliver
use Rattle.arbiter_core.specs.declared.fault.OpenFault.{OpenFault}
use Rattle.arbiter_core.specs.declared.fault.OpenFault.TheVariants.{BadSetup, KeeperFailed, BadRecord, OtherStamp, OutOfMemory}
use Rattle.arbiter_core.specs.declared.keeper.Keep.{Keep}
use Rattle.arbiter_core.specs.declared.keeper.Keep.TheVariants.{Good, FailsOld, FailsNew}
use Rattle.arbiter_server.proofs.FoundLaws.{own_whole}
use Rattle.arbiter_server.proofs.OpenedLaws.{good_unless}
use Rattle.arbiter_server.proofs.Telling.{AllTell, IsHonest, answer_honest, on_and_on, still_on}
use Rattle.arbiter_server.proofs.Turns.{GoesFrom, goes_nowhere}
use Rattle.arbiter_server.specs.Lives.{GoesOn, StillHolds}
use Rattle.arbiter_server.specs.Serving.{outputs_of}
use Rattle.served_games.specs.Lasting.{IsToBePut}
use Rattle.served_games.specs.PlaceKeepers.{Follows, PlaceKeeper, has_failed, has_put, place_facts}

-- ---- what was told still holds

first_ones : (a b : Recorded) → GoesOn a b → (n : ℕ) → n ≡ move_count a → (n ≤ move_count b) × (take n b.moves ≡ take n a.moves)
first_ones a b g n is =
    let long : length b.moves ≡ length a.moves + length g.more = ap length g.moves ∙ length-append a.moves g.more in
    let fit : n ≤ length a.moves = omega arith in
    (omega arith, ap (take n) g.moves ∙ take-append-le n a.moves g.more fit)

pub still_tells : (a b : Recorded) → GoesOn a b → (outputs : List Message) → AllTell a outputs → AllByRecursion (StillHolds a b) outputs
still_tells a b g [] h = tt
still_tells a b g (Move stamp sender number m ∷ ms) h = (tt, still_tells a b g ms h.1)
still_tells a b g (Ack stamp who n ∷ ms) h = (first_ones a b g n h.0, still_tells a b g ms h.1)
still_tells a b g (Verdict stamp who ply v ∷ ms) h =
    let same : b ≡ a = g.ended v h.0.0 in ((ap (λ (x : Recorded). x.verdict) same ∙ h.0.0, ap move_count same ∙ sym h.0.1), still_tells a b g ms h.1)
still_tells a b g (Fetch stamp who number wanted ∷ ms) h = (tt, still_tells a b g ms h.1)

-- ---- what is kept

module _ (setup : SetupView) where
  -- a record of the game with this setup is kept that goes on from this one
  pub record Holds (stamp : Stamp) (r : Recorded) (o : Option (List ℕ)) : Type 0 where
    pub bytes : List ℕ
    pub there : o ≡ Some bytes
    pub kept : Recorded
    pub is : IsResumed (rules_at setup) stamp bytes kept
    pub goes_on : GoesOn r kept

  holds_at : (stamp : Stamp) (r : Recorded) (o p : Option (List ℕ)) → p ≡ o → Holds stamp r o → Holds stamp r p
  holds_at stamp r o p same h = record { bytes = h.bytes; there = same ∙ h.there; kept = h.kept; is = h.is; goes_on = h.goes_on }

  holds_from : (stamp : Stamp) (a b : Recorded) (o : Option (List ℕ)) → GoesOn a b → Holds stamp b o → Holds stamp a o
  holds_from stamp a b o g h = record { bytes = h.bytes; there = h.there; kept = h.kept; is = h.is; goes_on = on_and_on a b h.kept g h.goes_on }

  pub none_held : (stamp : Stamp) (r : Recorded) (o : Option (List ℕ)) → o ≡ None → Holds stamp r o → ⊥
  none_held stamp r o none h = let f : ◌≡◌ {A = Option (List ℕ)} None (Some h.bytes) = sym none ∙ h.there in cc

  -- whichever the next start finds
  pub record KeepsAll (stamp : Stamp) (r : Recorded) (k : PlaceKeeper) : Type 0 where
    pub kept : Holds stamp r k.kept
    pub unkept : (bytes : List ℕ) → k.unkept ≡ Some bytes → Holds stamp r (Some bytes)

  pub followed : (stamp : Stamp) (r : Recorded) (k next : PlaceKeeper) → KeepsAll stamp r k → Follows k next → Holds stamp r next.kept
  followed stamp r k next h (inl same) = holds_at stamp r k.kept next.kept same h.kept
  followed stamp r k next h (inr p) = holds_at stamp r (Some p.0) next.kept p.2 (h.unkept p.0 p.1)

  pub keeps_at : (stamp : Stamp) (r : Recorded) (k l : PlaceKeeper) → l ≡ k → KeepsAll stamp r k → KeepsAll stamp r l
  keeps_at stamp r k l same h = subst (KeepsAll stamp r) (sym same) h

  pub keeps_from : (stamp : Stamp) (a b : Recorded) (k : PlaceKeeper) → GoesOn a b → KeepsAll stamp b k → KeepsAll stamp a k
  keeps_from stamp a b k g h = record { kept = holds_from stamp a b k.kept g h.kept; unkept = λ bytes is. holds_from stamp a b (Some bytes) g (h.unkept bytes is) }

  none_unkept : (stamp : Stamp) (r : Recorded) (k : PlaceKeeper) → k.unkept ≡ None → (bytes : List ℕ) → k.unkept ≡ Some bytes → Holds stamp r (Some bytes)
  none_unkept stamp r k none bytes is = absurd (let f : ◌≡◌ {A = Option (List ℕ)} None (Some bytes) = sym none ∙ is in cc)

  -- ---- one arbiter

  -- an arbiter of this setup, whose record is kept
  pub record Sound (at : Moment PlaceKeeper) : Type 0 where
    pub of_setup : at.arbiter.setup ≡ setup
    pub bytes : List ℕ
    pub there : at.keeper.kept ≡ Some bytes
    pub spelled : SpellsRecord bytes (spelled_as at.arbiter.me.stamp at.arbiter.setup.delay at.arbiter.kept)
    pub own : IsOwn (rules_at at.arbiter.setup) at.arbiter.kept
    pub none : at.keeper.unkept ≡ None

  pub keeps_now : (at : Moment PlaceKeeper) → Sound at → KeepsAll at.arbiter.me.stamp at.arbiter.kept at.keeper
  keeps_now at s = record {
    kept = record {
      bytes = s.bytes;
      there = s.there;
      kept = at.arbiter.kept;
      is = subst (λ (x : SetupView). IsResumed (rules_at x) at.arbiter.me.stamp s.bytes at.arbiter.kept) s.of_setup (s.spelled, own_whole (rules_at at.arbiter.setup) at.arbiter.kept s.own);
      goes_on = still_on at.arbiter.kept;
    };
    unkept = none_unkept at.arbiter.me.stamp at.arbiter.kept at.keeper s.none;
  }

  -- bytes that the arbiter is to put
  pub next_held : (at : Moment PlaceKeeper) (s : Sound at) (next : Recorded) (sent : List ℕ) → Grows (rules_at at.arbiter.setup) at.arbiter.kept next → GoesOn at.arbiter.kept next → WritesRecord sent (spelled_as at.arbiter.me.stamp at.arbiter.setup.delay next) → Holds at.arbiter.me.stamp at.arbiter.kept (Some sent)
  next_held at s next sent grows on writes = record {
    bytes = sent;
    there = refl;
    kept = next;
    is = subst (λ (x : SetupView). IsResumed (rules_at x) at.arbiter.me.stamp sent next) s.of_setup (is_spelled sent (spelled_as at.arbiter.me.stamp at.arbiter.setup.delay next) writes, own_whole (rules_at at.arbiter.setup) next grows.own);
    goes_on = on;
  }

  -- ---- a delivery

  -- what it leaves: the arbiter goes on from where it was, its answer tells what it has recorded then, which is kept
  pub record Delivered (old after : Moment PlaceKeeper) (told : Told) : Type 0 where
    pub goes : GoesFrom old.arbiter after.arbiter
    pub tells : AllTell after.arbiter.kept (outputs_of told)
    pub held : KeepsAll after.arbiter.me.stamp after.arbiter.kept after.keeper
    pub up : after.arbiter.is_down ≡ false → Sound after

  to_after : (old after : Moment PlaceKeeper) (told : Told) (v : View) (k : PlaceKeeper) (so : Told) → after.arbiter ≡ v → after.keeper ≡ k → told ≡ so → Delivered old (moment v k) so → Delivered old after told
  to_after old after told v k so is same answer d =
      subst (λ (w : View). Delivered old (moment w after.keeper) told) (sym is)
      (subst (λ (x : PlaceKeeper). Delivered old (moment v x) told) (sym same)
      (subst (λ (t : Told). Delivered old (moment v k) t) (sym answer) d))

  module _ (old : Moment PlaceKeeper) (s : Sound old) where
    stays : (fault : DeliverFault) → Delivered old old (Err fault)
    stays fault = record { goes = goes_nowhere old.arbiter; tells = tt; held = keeps_now old s; up = λ _. s }

    sends : (outputs : List Message) (window : ReorderBuffer) → AllTell old.arbiter.kept outputs → Delivered old (moment (with_window old.arbiter window) old.keeper) (Ok outputs)
    sends outputs window tells = record {
      goes = record { setup = refl; me = refl; goes_on = still_on old.arbiter.kept };
      tells = tells;
      held = keeps_now old s;
      up = λ _. record { of_setup = s.of_setup; bytes = s.bytes; there = s.there; spelled = s.spelled; own = s.own; none = s.none };
    }

    module _ (next : Recorded) (outputs : List Message) (window : ReorderBuffer) (sent : List ℕ) (writes : WritesRecord sent (spelled_as old.arbiter.me.stamp old.arbiter.setup.delay next)) (grows : Grows (rules_at old.arbiter.setup) old.arbiter.kept next) (on : GoesOn old.arbiter.kept next) where
      put_sound : Sound (moment (with_record old.arbiter next window) (has_put old.keeper sent))
      put_sound = record { of_setup = s.of_setup; bytes = sent; there = refl; spelled = is_spelled sent (spelled_as old.arbiter.me.stamp old.arbiter.setup.delay next) writes; own = grows.own; none = refl }

      put : AllTell next outputs → Delivered old (moment (with_record old.arbiter next window) (has_put old.keeper sent)) (Ok outputs)
      put tells = record {
        goes = record { setup = refl; me = refl; goes_on = on };
        tells = tells;
        held = keeps_now (moment (with_record old.arbiter next window) (has_put old.keeper sent)) put_sound;
        up = λ _. put_sound;
      }

      -- where it failed, that or what was kept before is found
      failed : (now : PlaceKeeper) → now.kept ≡ old.keeper.kept → ((bytes : List ℕ) → now.unkept ≡ Some bytes → bytes ≡ sent) → Delivered old (moment (downed old.arbiter) now) (Err deliver.KeeperFailed)
      failed now same once = record {
        goes = record { setup = refl; me = refl; goes_on = still_on old.arbiter.kept };
        tells = tt;
        held = record {
          kept = holds_at old.arbiter.me.stamp old.arbiter.kept old.keeper.kept now.kept same (keeps_now old s).kept;
          unkept = λ bytes is. subst (λ (b : List ℕ). Holds old.arbiter.me.stamp old.arbiter.kept (Some b)) (sym (once bytes is)) (next_held old s next sent grows on writes);
        };
        up = λ up. absurd (both_ways true up refl);
      }

      -- what is kept doesn't spell the next record, if that wasn't put
      not_kept : (now : Option (List ℕ)) → now ≡ old.keeper.kept → IsSpelled old.arbiter.me.stamp old.arbiter.setup.delay next now → ⊥
      not_kept now same spelled =
          let there : IsSpelled old.arbiter.me.stamp old.arbiter.setup.delay next (Some s.bytes) = subst (IsSpelled old.arbiter.me.stamp old.arbiter.setup.delay next) (same ∙ s.there) spelled in
          let one : spelled_as old.arbiter.me.stamp old.arbiter.setup.delay next ≡ spelled_as old.arbiter.me.stamp old.arbiter.setup.delay old.arbiter.kept = one_record s.bytes _ _ there s.spelled in
          let count : move_count next ≡ move_count old.arbiter.kept = ap (λ (x : Record). length x.moves) one in
          let more = grows.more in
          omega arith

      once_unkept : (now : PlaceKeeper) → (now ≡ has_put old.keeper sent) ⊎ (now ≡ has_failed old.keeper sent) → (bytes : List ℕ) → now.unkept ≡ Some bytes → bytes ≡ sent
      once_unkept now (inl is) bytes some = absurd (let f : ◌≡◌ {A = Option (List ℕ)} None (Some bytes) = sym (ap (λ (k : PlaceKeeper). k.unkept) is) ∙ some in cc)
      once_unkept now (inr is) bytes some = let f : ◌≡◌ {A = Option (List ℕ)} (Some bytes) (Some sent) = sym some ∙ ap (λ (k : PlaceKeeper). k.unkept) is in cc

      landed : (now : PlaceKeeper) → (now ≡ has_put old.keeper sent) ⊎ (now ≡ has_failed old.keeper sent) → AllTell next outputs → IsSpelled old.arbiter.me.stamp old.arbiter.setup.delay next now.kept → Delivered old (moment (with_record old.arbiter next window) now) (Ok outputs)
      landed now (inl is) tells spelled = subst (λ (k : PlaceKeeper). Delivered old (moment (with_record old.arbiter next window) k) (Ok outputs)) (sym is) (put tells)
      landed now (inr is) tells spelled = absurd (not_kept now.kept (ap (λ (k : PlaceKeeper). k.kept) is) spelled)

      lands : (now : PlaceKeeper) (new : View) (told : Told) (keep : Keep) → (keep ≡ Good) ⊎ (keep ≡ FailsOld) → (now ≡ has_put old.keeper sent) ⊎ (now ≡ has_failed old.keeper sent) → AllTell next outputs → Lands keep old.arbiter next outputs window old.keeper.kept now.kept new told → Delivered old (moment new now) told
      lands now new told Good stated once tells l = to_after old (moment new now) told (with_record old.arbiter next window) now (Ok outputs) l.1 refl l.0 (landed now once tells l.2)
      lands now new told FailsOld stated once tells l = to_after old (moment new now) told (downed old.arbiter) now (Err deliver.KeeperFailed) l.1 refl l.0 (failed now l.2 (once_unkept now once))
      lands now new told FailsNew (inl is) once tells l = absurd (let f : ◌≡◌ {A = Keep} FailsNew Good = is in cc)
      lands now new told FailsNew (inr is) once tells l = absurd (let f : ◌≡◌ {A = Keep} FailsNew FailsOld = is in cc)

    by_answer : PutsGrow → (e : Exchange PlaceKeeper) (a : Answer) → a ≡ answer_at old.arbiter e.datagram → IsHonest old.arbiter.kept a → RefusesOrSends old.arbiter old.keeper e.after.keeper e.after.arbiter e.told a → PutsIfAny place_facts old.arbiter old.keeper e.after.keeper e.after.arbiter e.told a → Delivered old e.after e.told
    by_answer grow e (RefusesWith fault) is honest h p = to_after old e.after e.told old.arbiter old.keeper (Err fault) h.arbiter h.keeper h.answer (stays fault)
    by_answer grow e (Sends outputs window) is honest (inl h) p = to_after old e.after e.told (with_window old.arbiter window) old.keeper (Ok outputs) h.arbiter h.keeper h.answer (sends outputs window honest)
    by_answer grow e (Sends outputs window) is honest (inr h) p =
        let u = h.1 in to_after old e.after e.told old.arbiter old.keeper (Err deliver.OutOfMemory) u.arbiter u.keeper u.answer (stays deliver.OutOfMemory)
    by_answer grow e (Puts next outputs window) is honest h (inl p) = to_after old e.after e.told old.arbiter old.keeper (Err deliver.OutOfMemory) p.arbiter p.keeper p.answer (stays deliver.OutOfMemory)
    by_answer grow e (Puts next outputs window) is honest h (inr p) =
        let g = grow old.arbiter e.datagram next outputs window s.own (sym is) in
        let more = g.more in
        lands next outputs window p.sent p.spells g (honest.1 (omega arith)) e.after.keeper e.after.arbiter e.told p.keep p.stated p.once honest.0 p.lands

    pub delivered : PutsGrow → (e : Exchange PlaceKeeper) → Delivers place_facts old e → Delivered old e.after e.told
    delivered grow e d =
        by_answer grow e (answer_at old.arbiter e.datagram) refl
        (answer_honest (rules_at old.arbiter.setup) old.arbiter.me old.arbiter.kept old.arbiter.window old.arbiter.is_down (heard old.arbiter.me.stamp e.datagram)) d.answered d.put

    -- what the process was stopped at putting
    pub to_be_put : PutsGrow → (datagram : List ℕ) (a : Answer) (bytes : List ℕ) → a ≡ answer_at old.arbiter datagram → IsHonest old.arbiter.kept a → IsToBePut old.arbiter a bytes → Holds old.arbiter.me.stamp old.arbiter.kept (Some bytes)
    to_be_put grow datagram (RefusesWith fault) bytes is honest p = absurd p
    to_be_put grow datagram (Sends outputs window) bytes is honest p = absurd p
    to_be_put grow datagram (Puts next outputs window) bytes is honest p =
        let g = grow old.arbiter datagram next outputs window s.own (sym is) in
        let more = g.more in
        next_held old s next bytes g (honest.1 (omega arith)) p

    pub put_held : PutsGrow → (datagram bytes : List ℕ) → IsToBePut old.arbiter (answer_at old.arbiter datagram) bytes → Holds old.arbiter.me.stamp old.arbiter.kept (Some bytes)
    put_held grow datagram bytes p =
        to_be_put grow datagram (answer_at old.arbiter datagram) bytes refl
        (answer_honest (rules_at old.arbiter.setup) old.arbiter.me old.arbiter.kept old.arbiter.window old.arbiter.is_down (heard old.arbiter.me.stamp datagram)) p

  -- ---- an opening

  whole_own : (rules : Rules) (kept : Recorded) → IsWhole rules kept → IsOwn rules kept
  whole_own rules kept w =
      let all : take (length w.game) w.game ≡ w.game = take_all (length w.game) w.game (omega arith) in
      subst (IsOwn rules) (sym w.is) (record { ruled = refl; reached = subst (λ ms. reaches rules ms (length ms) ≡ true) (sym all) w.reached })

  not_failed : (v : View) (fault : OpenFault) → ◌≡◌ {A = opening.OpenResult} (Ok v) (Err fault) → ⊥
  not_failed v fault e = cc

  module _ (before now : PlaceKeeper) (none : before.unkept ≡ None) where
    module _ (v : View) where
      runs_from : (me : Identity) (kept : Recorded) (bytes : List ℕ) → v ≡ running setup me kept → now.kept ≡ Some bytes → SpellsRecord bytes (spelled_as me.stamp setup.delay kept) → IsOwn (rules_at setup) kept → now.unkept ≡ None → Sound (moment v now)
      runs_from me kept bytes is there spelled own clean =
          let run : Sound (moment (running setup me kept) now) = record { of_setup = refl; bytes = bytes; there = there; spelled = spelled; own = own; none = clean } in
          subst (λ (w : View). Sound (moment w now)) (sym is) run

      first_put : (me : Identity) (mid : PlaceKeeper) (sent : List ℕ) → WritesRecord sent (spelled_as me.stamp setup.delay (first_record (rules_at setup))) → v ≡ running setup me (first_record (rules_at setup)) → IsSpelled me.stamp setup.delay (first_record (rules_at setup)) now.kept → mid.kept ≡ None → (now ≡ has_put mid sent) ⊎ (now ≡ has_failed mid sent) → Sound (moment v now)
      first_put me mid sent writes is spelled nothing (inl put) =
          runs_from me (first_record (rules_at setup)) sent is (ap (λ (k : PlaceKeeper). k.kept) put) (is_spelled sent (spelled_as me.stamp setup.delay (first_record (rules_at setup))) writes) (record { ruled = refl; reached = refl }) (ap (λ (k : PlaceKeeper). k.unkept) put)
      first_put me mid sent writes is spelled nothing (inr fails) =
          absurd (subst (IsSpelled me.stamp setup.delay (first_record (rules_at setup))) (ap (λ (k : PlaceKeeper). k.kept) fails ∙ nothing) spelled)

      first_sound : (me : Identity) (mid : PlaceKeeper) (sent : List ℕ) → WritesRecord sent (spelled_as me.stamp setup.delay (first_record (rules_at setup))) → mid.kept ≡ None → (now ≡ has_put mid sent) ⊎ (now ≡ has_failed mid sent) → (keep : Keep) → FirstLands keep setup me before.kept now.kept (Ok v) → Sound (moment v now)
      first_sound me mid sent writes nothing once Good lands =
          let e : ◌≡◌ {A = opening.OpenResult} (Ok v) (Ok (running setup me (first_record (rules_at setup)))) = lands.0 in
          let is : v ≡ running setup me (first_record (rules_at setup)) = cc in
          first_put me mid sent writes is lands.1 nothing once
      first_sound me mid sent writes nothing once FailsOld lands = absurd (not_failed v KeeperFailed lands.0)
      first_sound me mid sent writes nothing once FailsNew lands = absurd (not_failed v KeeperFailed lands.0)

      over_sound : (me : Identity) (was : Option (List ℕ)) → before.kept ≡ was → opening.OpensOver place_facts setup me was before now (Ok v) → Sound (moment v now)
      over_sound me None is h = first_sound me h.mid h.sent h.spells (ap (λ (k : PlaceKeeper). k.kept) h.got ∙ is) h.once h.keep h.lands
      over_sound me (Some bytes) is h = runs_from me v.kept bytes h.1.0 (h.0 ∙ is) h.1.1.0 (whole_own (rules_at setup) v.kept h.1.1.1) (ap (λ (k : PlaceKeeper). k.unkept) h.2 ∙ none)

      opens_sound : (me : Identity) → opening.Opens place_facts setup me before now (Ok v) → Sound (moment v now)
      opens_sound me (inl h) = absurd (not_failed v KeeperFailed h.answer)
      opens_sound me (inr (inl h)) = absurd (not_failed v OutOfMemory h.answer)
      opens_sound me (inr (inr h)) = over_sound me before.kept refl h

      pub opened_sound : IsOpening place_facts setup before now (Ok v) → Sound (moment v now)
      opened_sound o =
          let g = o.good (good_unless setup (λ bad. not_failed v BadSetup (o.bad bad).0)) in
          opens_sound g.0 g.2

    module _ (stamp : Stamp) (r : Recorded) (held : Holds stamp r before.kept) where
      -- an arbiter that is opened over a record runs from it
      pub record Resumed (v : View) : Type 0 where
        pub stamp_is : v.me.stamp ≡ stamp
        pub goes_on : GoesOn r v.kept

      pub resumed : (v : View) → IsOpening place_facts setup before now (Ok v) → Resumed v
      resumed v o =
          let g = o.good (good_unless setup (λ bad. not_failed v BadSetup (o.bad bad).0)) in
          by g.0 g.2
        where
          over : (me : Identity) → opening.OpensOver place_facts setup me (Some held.bytes) before now (Ok v) → Resumed v
          over me h =
              let one = one_record held.bytes _ _ h.1.1.0 held.is.0 in
              let same : held.kept ≡ v.kept = ap (λ (x : Record). record { moves = x.moves; verdict = x.verdict }) (sym one) in
              record {
                stamp_is = ap (λ (w : View). w.me.stamp) h.1.0 ∙ ap (λ (x : Record). x.stamp) one;
                goes_on = subst (GoesOn r) same held.goes_on;
              }

          by : (me : Identity) → opening.Opens place_facts setup me before now (Ok v) → Resumed v
          by me (inl h) = absurd (not_failed v KeeperFailed h.answer)
          by me (inr (inl h)) = absurd (not_failed v OutOfMemory h.answer)
          by me (inr (inr h)) = over me (subst (λ (o : Option (List ℕ)). opening.OpensOver place_facts setup me o before now (Ok v)) held.there h)

      -- where none is opened over a record, nothing is changed
      still_there : (fault : OpenFault) (me : Identity) → opening.Opens place_facts setup me before now (Err fault) → now ≡ before
      still_there fault me (inl h) = absurd h.stated
      still_there fault me (inr (inl h)) = by h.cause
        where
          by : ((now ≡ before) × HasBytes before.kept) ⊎ ((before.kept ≡ None) × (now ≡ before)) → now ≡ before
          by (inl c) = c.0
          by (inr c) = c.1
      still_there fault me (inr (inr h)) = (subst (λ (o : Option (List ℕ)). opening.OpensOver place_facts setup me o before now (Err fault)) held.there h).2

      by_good : (fault : OpenFault) → ((IsGood setup → ⊥) → ⊥) → IsOpening place_facts setup before now (Err fault) → now ≡ before
      by_good fault not_bad o = let g = o.good (good_unless setup not_bad) in still_there fault g.0 g.2

      not_good : (me : Identity) → opening.Opens place_facts setup me before now (Err BadSetup) → ⊥
      not_good me (inl h) = h.stated
      not_good me (inr (inl h)) = let x : ◌≡◌ {A = opening.OpenResult} (Err BadSetup) (Err OutOfMemory) = h.answer in cc
      not_good me (inr (inr h)) = (subst (λ (o : Option (List ℕ)). opening.OpensOver place_facts setup me o before now (Err BadSetup)) held.there h).1

      not_bad_setup : (fault : OpenFault) → (◌≡◌ {A = opening.OpenResult} (Err fault) (Err BadSetup) → ⊥) → IsOpening place_facts setup before now (Err fault) → now ≡ before
      not_bad_setup fault other o = by_good fault (λ bad. other (o.bad bad).0) o

      pub refused : (fault : OpenFault) → IsOpening place_facts setup before now (Err fault) → now ≡ before
      refused BadSetup o = (o.bad (λ good. let g = o.good good in not_good g.0 g.2)).1
      refused KeeperFailed o = not_bad_setup KeeperFailed (λ e. cc) o
      refused BadRecord o = not_bad_setup BadRecord (λ e. cc) o
      refused OtherStamp o = not_bad_setup OtherStamp (λ e. cc) o
      refused OutOfMemory o = not_bad_setup OutOfMemory (λ e. cc) o
