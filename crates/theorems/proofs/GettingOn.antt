-- Two hosts that take the moves of a game in order get on with it.
use Rattle.std.proofs.Common.{◌≡◌, ◌∙◌, ℕ, ◌+◌, ◌<◌, ◌≤◌, Bool, true, false, cond, List, [], ◌∷◌, ◌++◌, length, min, Option, Some, None, zero, suc, inl, inr, refl, sym, ap, subst, arith}
use Rattle.std.specs.Prelude.{◌⊎◌, ◌≢◌, Err, IfSome, IsSome, is_ok, slice_get, slice_index}
use Rattle.std.proofs.lemmas.Bool.{and_from, cond-false, cond_both, eq-eqb}
use Rattle.std.proofs.lemmas.Slice.Eq.{bytes_eq-Decides}
use Rattle.board_core.specs.declared.moves.Move.{Move as Word}
use Rattle.judge_core.specs.Games.{Rules}
use Rattle.move_msg.specs.declared.arbiter_id.ArbiterId.{ArbiterId}
use Rattle.move_msg.specs.declared.arbiter_id.ArbiterId.TheVariants.{A, B}
use Rattle.move_msg.specs.declared.arbiter_id.Sender.{Sender}
use Rattle.move_msg.specs.declared.message.Message.{Message}
use Rattle.move_msg.specs.declared.message.Message.TheVariants.{Move}
use Rattle.move_msg.specs.declared.record_bytes.Record.{Record}
use Rattle.move_msg.specs.declared.stamp.Stamp.{Stamp}
use Rattle.move_msg.specs.Records.{WritesRecord, record_frame}
use Rattle.move_msg.proofs.RecordLaws.{is_spelled, one_record_spelling}
use Rattle.arbiter_core.specs.declared.fault.DeliverFault.TheVariants as deliver
use Rattle.arbiter_core.specs.declared.keeper.Keep.{Keep}
use Rattle.arbiter_core.specs.declared.keeper.Keep.TheVariants.{Good, FailsOld, FailsNew}
use Rattle.arbiter_core.specs.Keeping.{KeeperFacts}
use Rattle.arbiter_core.specs.Setups.{rules_at}
use Rattle.arbiter_core.specs.Views.{View, spelled_as}
use Rattle.arbiter_core.specs.Recording.{Recorded, ReorderBuffer, last_ply, move_count, record_at}
use Rattle.arbiter_core.specs.Answering.{Answer, Identity, Puts, Refuses, Sends, answer_heard, answer_to, told_now}
use Rattle.arbiter_core.specs.Delivers.{Delivers, Exchange, IsWritten, Lands, Moment, PutsIfAny, RefusesOrSends, Told, answer_at, heard}
use Rattle.arbiter_server.specs.Acts as act
use Rattle.arbiter_server.specs.Acts.{Action, acts_of, game_of, is_stamp}
use Rattle.arbiter_server.specs.Folders.{Keepers}
use Rattle.arbiter_server.specs.Games.{AnswersTo, Fresh, GameStatus, Goes, Open, Shut}
use Rattle.relay_world.specs.declared.event.Event.{Event}
use Rattle.relay_world.specs.declared.event.Event.TheVariants.{Ask, Deliver, Noise, Restart}
use Rattle.relay_world.specs.Worlds.{Closed, Down, Judged, Running, Side, SideLife, World, answered, delivered, first_world, happens, hears, hears_at, identity, restarted, side_in, wants, with_side, world_after_all}
use Rattle.relay_world.specs.Headline.{IsRecordOf, kept_count}
use Rattle.relay_world.specs.InOrder.{brings, is_running, is_same_arbiter}
use Rattle.relay_world.specs.Runs.{KeptIs}
use Rattle.relay_world.proofs.Faithful.{faithful_of}
use Rattle.relay_world.proofs.Progress.{runs_still}
use Rattle.relay_world.proofs.Rising.{rises, turned_side}
use Rattle.relay_world.proofs.Schedules.{grows_at}
use Rattle.relay_world.proofs.Steps.{Holds, IsSound, all_at, first_holds, right_of, run_goes, side_at}
use Rattle.relay_world.proofs.Whole.{at_last}
use Rattle.theorems.specs.Nets.{NetStep, Site, SystemState, changed, first_net, sent_with, site_of}
use Rattle.theorems.specs.Interleavings.{AnswersDatagram, AreWoven, AtA, AtB, Asks, Does, Ends, GivesFor, GivesIf, HostEvent, Interleaving, IsSiteOfLife, Step, deeds_a, deeds_b, first_run, if_up, later_runs, open_with}
use Rattle.theorems.specs.Progress.{AreLegal, BothGetOn, GetsOn, HasTold, HostsGetOn, IsTaken, IsWhole, TakesAll, TakesMove, TakesMoves}
use Rattle.theorems.proofs.Acking.{has_moves}
use Rattle.theorems.proofs.Joining.{DeedsGo, RunGoes, RunsGo, all_go, deed_goes}
use Rattle.theorems.proofs.Netting as netting
use Rattle.theorems.proofs.Netting.{RunsAt, RunsSo, ShowsNet, deliver_is, running_hears, shows_at}
use Rattle.theorems.proofs.Replying.{Reports, among_later, reports, tells_all, told_later}
use Rattle.theorems.proofs.Seeing.{Seen, seen_facts}
use Rattle.theorems.proofs.Weaving.{NetGoes}

-- ---- a record is written in one way

version : (s : List ℕ) (d : ℕ) (b : List ℕ) → slice_index (record_frame s d b) 2 ≡ 2
unfolding record_frame
version s d b = refl

one_written : (s t : List ℕ) (r : Record) → WritesRecord s r → WritesRecord t r → s ≡ t
one_written s t r w x =
    one_record_spelling s t r (is_spelled s r w) (is_spelled t r x)
    (ap (λ (bytes : List ℕ). slice_index bytes 2) w.text ∙ version r.stamp r.delay w.body ∙ sym (version r.stamp r.delay x.body) ∙ sym (ap (λ (bytes : List ℕ). slice_index bytes 2) x.text))

one_found : (stamp : Stamp) (delay : ℕ) (kept : Recorded) (a b : Option (List ℕ)) → IsWritten stamp delay kept a → IsWritten stamp delay kept b → a ≡ b
one_found stamp delay kept None b f g = absurd f
one_found stamp delay kept (Some s) None f g = absurd g
one_found stamp delay kept (Some s) (Some t) f g = ap Some (one_written s t (spelled_as stamp delay kept) f g)

-- ---- what an answer records

-- the record behind an answer, where a put lands
abbrev recorded_by : Recorded → Answer → Recorded
recorded_by old (Refuses fault) = old
recorded_by old (Sends outputs later) = old
recorded_by old (Puts next outputs later) = next

-- so a side that hears it records
hears_so : (old : Recorded) (window : ReorderBuffer) (a : Answer) → (answered Good old window a).0.kept ≡ Some (recorded_by old a)
hears_so old window (Refuses fault) = refl
hears_so old window (Sends outputs later) = refl
hears_so old window (Puts next outputs later) = refl

-- an arbiter that has this record runs
record Records (old : View) (next : Recorded) (new : View) : Type 0 where
  kept : new.kept ≡ next
  same : new.is_down ≡ old.is_down

module _ {K : Type 0} (facts : KeeperFacts K) (old new : View) (before now : K) (told : Told) (memory : told ≢ Err deliver.OutOfMemory) (kept : told ≢ Err deliver.KeeperFailed) where
  -- an arbiter that isn't refused memory, and whose put doesn't fail, records what it answers
  records : (a : Answer) → RefusesOrSends old before now new told a → PutsIfAny facts old before now new told a → Records old (recorded_by old.kept a) new
  records (Refuses fault) r p = record { kept = ap (λ (v : View). v.kept) r.arbiter; same = ap (λ (v : View). v.is_down) r.arbiter }
  records (Sends outputs later) (inl r) p = record { kept = ap (λ (v : View). v.kept) r.arbiter; same = ap (λ (v : View). v.is_down) r.arbiter }
  records (Sends outputs later) (inr r) p = absurd (memory r.1.answer)
  records (Puts next outputs later) r (inl u) = absurd (memory u.answer)
  records (Puts next outputs later) r (inr p) = landed p.keep p.lands
    where
      landed : (keep : Keep) → Lands keep old next outputs later (facts.kept before) (facts.kept now) new told → Records old next new
      landed Good l = record { kept = ap (λ (v : View). v.kept) l.1; same = ap (λ (v : View). v.is_down) l.1 }
      landed FailsOld l = absurd (kept l.0)
      landed FailsNew l = absurd (kept l.0)

  -- what it reports goes out
  sends : (me : Identity) (a : Answer) → RefusesOrSends old before now new told a → PutsIfAny facts old before now new told a → Reports me old.kept a → sent_with told ≡ told_now me (recorded_by old.kept a)
  sends me (Refuses fault) r p is = absurd is
  sends me (Sends outputs later) (inl r) p is = ap sent_with r.answer ∙ is
  sends me (Sends outputs later) (inr r) p is = absurd (memory r.1.answer)
  sends me (Puts next outputs later) r (inl u) is = absurd (memory u.answer)
  sends me (Puts next outputs later) r (inr p) is = landed p.keep p.lands
    where
      landed : (keep : Keep) → Lands keep old next outputs later (facts.kept before) (facts.kept now) new told → sent_with told ≡ told_now me next
      landed Good l = ap sent_with l.0 ∙ is
      landed FailsOld l = absurd (kept l.0)
      landed FailsNew l = absurd (kept l.0)

-- ---- how far a host is

-- So many first moves are kept, or as many as the game reaches; something is kept, where these are any; and where they are all, it has been told.
record HasGot (game : Judged) (who : ArbiterId) (n : ℕ) (world : World) : Type 0 where
  low : min n (last_ply game.rules game.moves) ≤ kept_count (side_in world who).kept
  some : 0 < n → IsSome (side_in world who).kept
  told : AreLegal game → 0 < n → last_ply game.rules game.moves ≤ n → HasTold game who world.log

same_who : (who : ArbiterId) → is_same_arbiter who who ≡ true
same_who A = refl
same_who B = refl

-- A running arbiter hears the move with the next number.
module _ (game : Judged) (short : length game.moves ≤ 4096) (world : World) (holds : Holds game world) (who : ArbiterId) (old : Recorded) (window : ReorderBuffer) (life : (side_in world who).life ≡ Running window) (kept : (side_in world who).kept ≡ Some old) where
  hears_move : (n i : ℕ) (sender : Sender) (m : Word) → slice_get world.log i ≡ Some (Move game.stamp sender n m) → min n (last_ply game.rules game.moves) ≤ move_count old
      → min (n + 1) (last_ply game.rules game.moves) ≤ move_count (recorded_by old (answer_to game.rules (identity game who) old window (Move game.stamp sender n m)))
  hears_move n i sender m there low =
      let event : Event = Deliver who i Good in
      let answer : Answer = answer_to game.rules (identity game who) old window (Move game.stamp sender n m) in
      let late : World = happens game world event in
      let runs : is_running (side_in world who).life ≡ true = rw life refl in
      let comes : brings world who n event ≡ true = and_from _ _ (same_who who) (rw there (eq-eqb n n refl)) in
      let is : late ≡ with_side world who (answered Good old window answer) =
      deliver_is game world who i Good (Move game.stamp sender n m) there
      ∙ ap (with_side world who) (running_hears Good (side_in world who).kept (side_in world who).life old window (λ x w. answer_to game.rules (identity game who) x w (Move game.stamp sender n m)) kept life) in
      let there_kept : (side_in late who).kept ≡ Some (recorded_by old answer) =
      ap (λ (w : World). (side_in w who).kept) is ∙ ap (λ (s : Side). s.kept) (turned_side world who (answered Good old window answer)) ∙ hears_so old window answer in
      let count : kept_count (side_in world who).kept ≡ move_count old = ap kept_count kept in
      let up : min (n + 1) (last_ply game.rules game.moves) ≤ kept_count (side_in late who).kept =
      rises game world who event n holds short comes runs (runs_still game world who i runs) (subst (λ k. min n (last_ply game.rules game.moves) ≤ k) (sym count) low) in
      subst (λ k. min (n + 1) (last_ply game.rules game.moves) ≤ k) (ap kept_count there_kept) up

move_reports : (game : Judged) → AreLegal game → length game.moves ≤ 4096 → (who : ArbiterId) (old : Recorded) (window : ReorderBuffer) (n : ℕ) (sender : Sender) (m : Word) → IsRecordOf game.rules game.moves old → slice_get game.moves n ≡ Some m
    → min n (last_ply game.rules game.moves) ≤ move_count old → Reports (identity game who) old (answer_to game.rules (identity game who) old window (Move game.stamp sender n m))
unfolding answer_to
move_reports game legal short who old window n sender m held there low = reports game legal short who old window n m held there (is_within game.moves n m there) low
  where
    is_within : (moves : List Word) (k : ℕ) (w : Word) → slice_get moves k ≡ Some w → k < length moves
    is_within [] k w e = cc
    is_within (x ∷ moves) zero w e = omega arith
    is_within (x ∷ moves) (suc k) w e = let lt = is_within moves k w e in omega (arith, lt)

-- ---- what is kept isn't lost

answered_stays : (keep : Keep) (old : Recorded) (window : ReorderBuffer) (a : Answer) → IsSome (answered keep old window a).0.kept
answered_stays keep old window (Refuses fault) = refl
answered_stays keep old window (Sends outputs later) = refl
answered_stays Good old window (Puts next outputs later) = refl
answered_stays FailsOld old window (Puts next outputs later) = refl
answered_stays FailsNew old window (Puts next outputs later) = refl

heard_stays : (keep : Keep) (kept : Option Recorded) (life : SideLife) (respond : Recorded → ReorderBuffer → Answer) → IsSome kept → IsSome (hears_at keep kept life respond).0.kept
heard_stays keep None life respond h = cc
heard_stays keep (Some old) Closed respond h = refl
heard_stays keep (Some old) Down respond h = refl
heard_stays keep (Some old) (Running window) respond h = answered_stays keep old window (respond old window)

restarted_stays : (rules : Rules) (keep : Keep) (kept : Option Recorded) → IsSome kept → IsSome (restarted rules keep kept).kept
restarted_stays rules keep None h = cc
restarted_stays rules keep (Some old) h = refl

with_stays : (world : World) (to who : ArbiterId) (late : Side × List Message) → (IsSome (side_in world to).kept → IsSome late.0.kept) → IsSome (side_in world who).kept → IsSome (side_in (with_side world to late) who).kept
with_stays world A A late f h = f h
with_stays world B B late f h = f h
with_stays world A B late f h = h
with_stays world B A late f h = h

delivered_stays : (game : Judged) (world : World) (to who : ArbiterId) (keep : Keep) (o : Option Message) → IsSome (side_in world who).kept → IsSome (side_in (delivered game world to keep o) who).kept
delivered_stays game world to who keep None h = h
delivered_stays game world to who keep (Some m) h =
    with_stays world to who (hears keep (side_in world to) (λ old window. answer_to game.rules (identity game to) old window m))
    (heard_stays keep (side_in world to).kept (side_in world to).life (λ old window. answer_to game.rules (identity game to) old window m)) h

happens_stays : (game : Judged) (world : World) (event : Event) (who : ArbiterId) → IsSome (side_in world who).kept → IsSome (side_in (happens game world event) who).kept
unfolding happens
happens_stays game world (Deliver to i keep) who h = delivered_stays game world to who keep (slice_get world.log i) h
happens_stays game world (Noise to bytes keep) who h =
    cond_both (is_ok (heard game.stamp bytes.items)) world _ (λ (w : World). IsSome (side_in w who).kept) (λ _. h)
    (λ _. with_stays world to who _ (heard_stays keep (side_in world to).kept (side_in world to).life (λ old window. answer_heard game.rules (identity game to) old window (heard game.stamp bytes.items))) h)
happens_stays game world (Ask to) who h = with_stays world to who (side_in world to, wants (identity game to) (side_in world to).kept (side_in world to).life) (λ k. k) h
happens_stays game world (Restart to keep) who h = with_stays world to who (restarted game.rules keep (side_in world to).kept, []) (restarted_stays game.rules keep (side_in world to).kept) h

all_stays : (game : Judged) (world : World) (events : List Event) (who : ArbiterId) → IsSome (side_in world who).kept → IsSome (side_in (world_after_all game world events) who).kept
all_stays game world [] who h = h
all_stays game world (event ∷ events) who h = all_stays game (happens game world event) events who (happens_stays game world event who h)

-- ---- a net that stands for a world, and goes on

record At (game : Judged) (net : SystemState) (world : World) : Type 0 where
  shows : ShowsNet game net world
  holds : Holds game world

-- it stands for a later world then, in which each host is as far
record Later (game : Judged) (early : World) (net : SystemState) : Type 0 where
  world : World
  at : At game net world
  still : (who : ArbiterId) (n : ℕ) → HasGot game who n early → HasGot game who n world

moves_on : (game : Judged) (old new : SystemState) (world : World) (acts : List (NetStep Seen)) → At game old world → NetGoes game old acts new → Later game world new
moves_on game old new world acts at g =
    let s = netting.goes seen_facts game world at.holds old new acts ([], at.shows) g in
    let go = run_goes game world s.0 at.holds in
    record {
      world = world_after_all game world s.0;
      at = record { shows = s.1; holds = go.holds };
      still = λ who n h. let grown = (grows_at game world (world_after_all game world s.0) who go).count in let low = h.low in
          record {
            low = omega (arith, grown, low);
            some = λ lt. all_stays game world s.0 who (h.some lt);
            told = λ legal lt le. told_later game who world.log (world_after_all game world s.0).log (λ m among. (among.0, go.log among.0 m among.1)) (h.told legal lt le);
          };
    }

changed_site : (net : SystemState) (who : ArbiterId) (site : Site) (outputs : List Message) → site_of (changed net who site outputs) who ≡ site
changed_site net A site outputs = refl
changed_site net B site outputs = refl

changed_log : (net : SystemState) (who : ArbiterId) (site : Site) (outputs : List Message) → (changed net who site outputs).log ≡ net.log ++ outputs
changed_log net A site outputs = refl
changed_log net B site outputs = refl

-- ---- one host

module _ {K : Type 0} (s : Keepers K) (game : Judged) (short : length game.moves ≤ 4096) (who : ArbiterId) (old new : SystemState) (world late : World) (at : At game old world) (then_at : At game new late) where
  module _ (n : ℕ) (stamp : List ℕ) (e : Exchange K) (t : IsTaken game n stamp e) (g : AnswersDatagram s.facts game old who e new) (far : HasGot game who n world) where
    -- an arbiter that is open takes the move
    taken_at : (m : Moment K) → IsSiteOfLife s.facts (Open m) (site_of old who) → Delivers s.facts m e → HasGot game who (n + 1) late
    taken_at m here d = record {
      low = subst (λ (o : Option Recorded). min (n + 1) (last_ply game.rules game.moves) ≤ kept_count o) (sym is_late) up;
      some = λ _. subst (λ (o : Option Recorded). IsSome o) (sym is_late) refl;
      told = told;
    }
      where
        v : View
        v = m.arbiter

        move : Message
        move = Move game.stamp t.sender n t.move

        answer : Answer
        answer = answer_to game.rules (identity game who) v.kept v.window move

        runs : RunsAt game who v (side_in world who)
        runs = subst (λ (x : Option View). RunsSo game who x (side_in world who)) here.0 (shows_at game old world who at.shows).runs

        kept : (side_in world who).kept ≡ Some v.kept
        kept = (runs.is here.1).1

        answer_is : answer_at v e.datagram ≡ answer
        answer_is =
            cond-false v.is_down (Refuses deliver.Down) (answer_heard (rules_at v.setup) v.me v.kept v.window (heard v.me.stamp e.datagram)) here.1
            ∙ ap (λ (x : Rules). answer_heard x v.me v.kept v.window (heard v.me.stamp e.datagram)) runs.rules
            ∙ ap (λ (x : Identity). answer_heard game.rules x v.kept v.window (heard x.stamp e.datagram)) runs.me
            ∙ ap (answer_heard game.rules (identity game who) v.kept v.window) t.brings

        next : Records v (recorded_by v.kept answer) e.after.arbiter
        next = records s.facts v e.after.arbiter m.keeper e.after.keeper e.told t.memory t.kept answer
            (subst (RefusesOrSends v m.keeper e.after.keeper e.after.arbiter e.told) answer_is d.answered)
            (subst (PutsIfAny s.facts v m.keeper e.after.keeper e.after.arbiter e.told) answer_is d.put)

        sent : (i : ℕ) × (slice_get old.log i ≡ Some move)
        sent = g.came move t.brings tt

        there : slice_get world.log sent.0 ≡ Some move
        there = subst (λ (log : List Message). slice_get log sent.0 ≡ Some move) at.shows.log sent.1

        low : min n (last_ply game.rules game.moves) ≤ move_count v.kept
        low = subst (λ k. min n (last_ply game.rules game.moves) ≤ k) (ap kept_count kept) far.low

        up : min (n + 1) (last_ply game.rules game.moves) ≤ move_count (recorded_by v.kept answer)
        up = hears_move game short world at.holds who v.kept v.window (runs.is here.1).0 kept n sent.0 t.sender t.move there low

        is_up : e.after.arbiter.is_down ≡ false
        is_up = next.same ∙ here.1

        stands : (site_of new who).arbiter ≡ Some e.after.arbiter
        stands =
            ap (λ (x : SystemState). (site_of x who).arbiter) g.net
            ∙ ap (λ (x : Site). x.arbiter) (changed_site old who (open_with g.found (if_up e.after.arbiter)) (sent_with e.told))
            ∙ ap (λ (b : Bool). cond b None (Some e.after.arbiter)) is_up

        late_runs : RunsAt game who e.after.arbiter (side_in late who)
        late_runs = subst (λ (x : Option View). RunsSo game who x (side_in late who)) stands (shows_at game new late who then_at.shows).runs

        is_late : (side_in late who).kept ≡ Some (recorded_by v.kept answer)
        is_late = (late_runs.is is_up).1 ∙ ap Some next.kept

        sound : slice_get game.moves n ≡ Some t.move
        sound = all_at (IsSound game.rules game.moves (kept_count world.a.kept) (kept_count world.b.kept)) world.log sent.0 move at.holds.log there

        held : IsRecordOf game.rules game.moves v.kept
        held = subst (λ (o : Option Recorded). IfSome o (IsRecordOf game.rules game.moves)) kept (side_at game world who at.holds).kept

        late_held : IsRecordOf game.rules game.moves (recorded_by v.kept answer)
        late_held = subst (λ (o : Option Recorded). IfSome o (IsRecordOf game.rules game.moves)) is_late (side_at game late who then_at.holds).kept

        told : AreLegal game → 0 < n + 1 → last_ply game.rules game.moves ≤ n + 1 → HasTold game who late.log
        told legal lt le =
            let reported : Reports (identity game who) v.kept answer = move_reports game legal short who v.kept v.window n t.sender t.move held sound low in
            let goes_out : sent_with e.told ≡ told_now (identity game who) (recorded_by v.kept answer) =
            sends s.facts v e.after.arbiter m.keeper e.after.keeper e.told t.memory t.kept (identity game who) answer
            (subst (RefusesOrSends v m.keeper e.after.keeper e.after.arbiter e.told) answer_is d.answered)
            (subst (PutsIfAny s.facts v m.keeper e.after.keeper e.after.arbiter e.told) answer_is d.put) reported in
            let all : HasTold game who (sent_with e.told) = subst (HasTold game who) (sym goes_out) (tells_all game legal short who (recorded_by v.kept answer) late_held (omega (arith, le, up))) in
            let log : new.log ≡ old.log ++ sent_with e.told = ap (λ (x : SystemState). x.log) g.net ∙ changed_log old who (open_with g.found (if_up e.after.arbiter)) (sent_with e.told) in
            subst (HasTold game who) (sym log ∙ then_at.shows.log) (told_later game who (sent_with e.told) (old.log ++ sent_with e.told) (among_later old.log (sent_with e.told)) all)

    taken : (life mid : GameStatus K) → IsSiteOfLife s.facts life (site_of old who) → AnswersTo s life e mid → HasGot game who (n + 1) late
    taken Fresh mid here to = absurd to
    taken (Shut left) mid here to = absurd to
    taken (Open m) mid here to = taken_at m here to.0

  -- the run that an act is of
  its_run : (life end : GameStatus K) (a : Action K) (run : List (Action K)) (later : List (List (Action K))) → RunsGo s game who life (a ∷ run) later end → (to : GameStatus K) × RunGoes s game who life (a ∷ run) to
  its_run life end a run [] r = (end, r)
  its_run life end a run (next ∷ later) r = r.0

  deed_takes : (life end : GameStatus K) (deed : HostEvent K) (deeds : List (HostEvent K)) (n : ℕ) → TakesMove game n deed → IsSiteOfLife s.facts life (site_of old who) → GivesFor s.facts game old who deed new → DeedsGo s game who life (deed ∷ deeds) end
      → HasGot game who n world → HasGot game who (n + 1) late
  deed_takes life end (Does (act.Answers stamp e)) deeds n t here g r far =
      let a : Action K = act.Answers stamp e in
      let own : is_stamp game.stamp (game_of a) ≡ true = (bytes_eq-Decides stamp game.stamp).1 t.own in
      let run = its_run life end a (first_run deeds) (later_runs deeds) r in
      let goes : Goes s run.1.common game.stamp life (a ∷ acts_of game.stamp (first_run deeds)) run.0 =
      subst (λ (b : Bool). Goes s run.1.common game.stamp life (cond b (a ∷ acts_of game.stamp (first_run deeds)) (acts_of game.stamp (first_run deeds))) run.0) own run.1.goes in
      taken n stamp e t (subst (λ (b : Bool). GivesIf b s.facts game old who a new) own g) far life goes.0 here goes.1
  deed_takes life end (Does (act.Unread datagram fault)) deeds n t here g r far = absurd t
  deed_takes life end (Does (act.Strange stamp datagram tried why)) deeds n t here g r far = absurd t
  deed_takes life end (Does (act.Refuses stamp datagram o fault)) deeds n t here g r far = absurd t
  deed_takes life end (Does (act.Opens stamp o arbiter)) deeds n t here g r far = absurd t
  deed_takes life end (Does (act.Closes stamp left)) deeds n t here g r far = absurd t
  deed_takes life end Asks deeds n t here g r far = absurd t
  deed_takes life end Ends deeds n t here g r far = absurd t

-- ---- both hosts

no_further : (game : Judged) (who : ArbiterId) (n to : ℕ) (world : World) → to ≤ n → HasGot game who n world → HasGot game who to world
no_further game who n to world le far = let low = far.low in record {
  low = omega (arith, le, low);
  some = λ lt. far.some (omega (arith, le, lt));
  told = λ legal lt end. far.told legal (omega (arith, le, lt)) (omega (arith, le, end));
}

-- what comes of a deed, whether it takes the next move or not
next_from : {K R : Type 0} (game : Judged) (who : ArbiterId) (n to : ℕ) (deed : HostEvent K) (deeds : List (HostEvent K)) (world : World) → (TakesMove game n deed → HasGot game who (n + 1) world) → HasGot game who n world
    → (TakesMove game n deed × TakesMoves game (n + 1) to deeds) ⊎ TakesMoves game n to deeds → ((k : ℕ) → TakesMoves game k to deeds → HasGot game who k world → R) → R
next_from game who n to deed deeds world further still (inl t) go = go (n + 1) t.1 (further t.0)
next_from game who n to deed deeds world further still (inr t) go = go n t still

module _ {K L : Type 0} (a : Keepers K) (b : Keepers L) (game : Judged) (short : length game.moves ≤ 4096) (end_a : GameStatus K) (end_b : GameStatus L) (to_a to_b : ℕ) where
  -- the net stands for a world in which both are so far
  record Arrives (net : SystemState) : Type 0 where
    world : World
    at : At game net world
    far_a : HasGot game A to_a world
    far_b : HasGot game B to_b world

  arrives : (steps : List (Step K L)) (life_a : GameStatus K) (life_b : GameStatus L) (old new : SystemState) (world : World) (n m : ℕ) → At game old world → IsSiteOfLife a.facts life_a old.a → IsSiteOfLife b.facts life_b old.b
      → DeedsGo a game A life_a (deeds_a steps) end_a → DeedsGo b game B life_b (deeds_b steps) end_b → Interleaving a.facts b.facts game old steps new
      → TakesMoves game n to_a (deeds_a steps) → TakesMoves game m to_b (deeds_b steps) → HasGot game A n world → HasGot game B m world → Arrives new
  arrives [] life_a life_b old new world n m at at_a at_b run_a run_b w take_a take_b far_a far_b = record {
    world = world;
    at = subst (λ (x : SystemState). At game x world) (sym w) at;
    far_a = no_further game A n to_a world take_a far_a;
    far_b = no_further game B m to_b world take_b far_b;
  }
  arrives (AtA deed ∷ steps) life_a life_b old new world n m at at_a at_b run_a run_b w take_a take_b far_a far_b =
      let d = deed_goes a game A old w.0 life_a end_a deed (deeds_a steps) at_a w.1 run_a in
      let moves = d.1 in
      let l = moves_on game old w.0 world moves.acts at moves.goes in
      let here_a = subst (λ (x : SystemState). IsSiteOfLife a.facts d.0 x.a) (sym moves.is) moves.at in
      let here_b = subst (λ (x : SystemState). IsSiteOfLife b.facts life_b x.b) (sym moves.is) at_b in
      next_from game A n to_a deed (deeds_a steps) l.world
      (λ t. deed_takes a game short A old w.0 world l.world at l.at life_a end_a deed (deeds_a steps) n t at_a w.1 run_a far_a) (l.still A n far_a) take_a
      (λ k take far. arrives steps d.0 life_b w.0 new l.world k m l.at here_a here_b d.2 run_b w.2 take take_b far (l.still B m far_b))
  arrives (AtB deed ∷ steps) life_a life_b old new world n m at at_a at_b run_a run_b w take_a take_b far_a far_b =
      let d = deed_goes b game B old w.0 life_b end_b deed (deeds_b steps) at_b w.1 run_b in
      let moves = d.1 in
      let l = moves_on game old w.0 world moves.acts at moves.goes in
      let here_a = subst (λ (x : SystemState). IsSiteOfLife a.facts life_a x.a) (sym moves.is) at_a in
      let here_b = subst (λ (x : SystemState). IsSiteOfLife b.facts d.0 x.b) (sym moves.is) moves.at in
      next_from game B m to_b deed (deeds_b steps) l.world
      (λ t. deed_takes b game short B old w.0 world l.world at l.at life_b end_b deed (deeds_b steps) m t at_b w.1 run_b far_b) (l.still B m far_b) take_b
      (λ k take far. arrives steps life_a d.0 w.0 new l.world n k l.at here_a here_b run_a d.2 w.2 take_a take (l.still A n far_a) far)

-- ---- from the beginning

nothing_yet : (game : Judged) (who : ArbiterId) (world : World) → HasGot game who 0 world
nothing_yet game who world = record { low = omega arith; some = λ lt. absurd (omega (arith, lt)); told = λ legal lt le. absurd (omega (arith, lt)) }

at_first : (game : Judged) → At game (first_net game) (first_world game)
at_first game = record { shows = record { a = record { kept = refl; runs = tt }; b = record { kept = refl; runs = tt }; log = refl }; holds = first_holds game }

takes_none : {K : Type 0} (game : Judged) (deeds : List (HostEvent K)) → TakesMoves game 0 0 deeds
takes_none game [] = omega arith
takes_none game (deed ∷ deeds) = inr (takes_none game deeds)

module _ {K L : Type 0} (a : Keepers K) (b : Keepers L) (game : Judged) (short : length game.moves ≤ 4096) (steps : List (Step K L)) (net : SystemState) (w : AreWoven a b game steps net) where
  abbrev last : ℕ
  last = last_ply game.rules game.moves

  -- where each host took so many moves
  record BothAt (n m : ℕ) : Type 0 where
    world : World
    at : At game net world
    far_a : HasGot game A n world
    far_b : HasGot game B m world

  both_at : (n m : ℕ) → TakesMoves game 0 n (deeds_a steps) → TakesMoves game 0 m (deeds_b steps) → BothAt n m
  both_at n m take_a take_b =
      let x = all_go a game A (first_run (deeds_a steps)) (later_runs (deeds_a steps)) w.runs_a in
      let y = all_go b game B (first_run (deeds_b steps)) (later_runs (deeds_b steps)) w.runs_b in
      let r = arrives a b game short x.0 y.0 n m steps Fresh Fresh (first_net game) net (first_world game) 0 0 (at_first game) refl refl x.1 y.1 w.weaves take_a take_b (nothing_yet game A (first_world game)) (nothing_yet game B (first_world game)) in
      record { world = r.world; at = r.at; far_a = r.far_a; far_b = r.far_b }

  -- a side that is as far as the game goes has the record of the game
  whole : (found : Option (List ℕ)) (kept : Option Recorded) → KeptIs game.stamp game.rules.delay found kept → IfSome kept (IsRecordOf game.rules game.moves) → last ≤ kept_count kept → IsSome kept → IsWhole game found
  whole found None is held enough here = cc
  whole found (Some kept) is held enough here = subst (λ (x : Recorded). IsWritten game.stamp game.rules.delay x found) (at_last game.rules game.moves kept held enough) is

  gets_a : GetsOn game (deeds_a steps) net.a.kept
  gets_a n t =
      let r = both_at n 0 t (takes_none game (deeds_b steps)) in
      has_moves game (min n last) net.a.kept r.world.a.kept r.at.shows.a.kept (faithful_of game r.world (right_of game r.world r.at.holds)).a r.far_a.low

  gets_b : GetsOn game (deeds_b steps) net.b.kept
  gets_b n t =
      let r = both_at 0 n (takes_none game (deeds_a steps)) t in
      has_moves game (min n last) net.b.kept r.world.b.kept r.at.shows.b.kept (faithful_of game r.world (right_of game r.world r.at.holds)).b r.far_b.low

  all_a : TakesAll game (deeds_a steps) → IsWhole game net.a.kept
  all_a (n, lt, le, t) =
      let r = both_at n 0 t (takes_none game (deeds_b steps)) in
      let low : min n last ≤ kept_count r.world.a.kept = r.far_a.low in
      whole net.a.kept r.world.a.kept r.at.shows.a.kept r.at.holds.a.kept (omega (arith, le, low)) (r.far_a.some lt)

  all_b : TakesAll game (deeds_b steps) → IsWhole game net.b.kept
  all_b (n, lt, le, t) =
      let r = both_at 0 n (takes_none game (deeds_a steps)) t in
      let low : min n last ≤ kept_count r.world.b.kept = r.far_b.low in
      whole net.b.kept r.world.b.kept r.at.shows.b.kept r.at.holds.b.kept (omega (arith, le, low)) (r.far_b.some lt)

  tells_a : AreLegal game → TakesAll game (deeds_a steps) → HasTold game A net.log
  tells_a legal (n, lt, le, t) =
      let r = both_at n 0 t (takes_none game (deeds_b steps)) in
      subst (HasTold game A) (sym r.at.shows.log) (r.far_a.told legal lt le)

  tells_b : AreLegal game → TakesAll game (deeds_b steps) → HasTold game B net.log
  tells_b legal (n, lt, le, t) =
      let r = both_at 0 n (takes_none game (deeds_a steps)) t in
      subst (HasTold game B) (sym r.at.shows.log) (r.far_b.told legal lt le)

  get_on : BothGetOn game (deeds_a steps) (deeds_b steps) net
  get_on = record { on_a = gets_a; on_b = gets_b; whole_a = all_a; whole_b = all_b; told_a = tells_a; told_b = tells_b; one = λ t u. one_found game.stamp game.rules.delay (record_at game.rules game.moves last) net.a.kept net.b.kept (all_a t) (all_b u) }

pub hosts_get_on : {K L : Type 0} (a : Keepers K) (b : Keepers L) → HostsGetOn a b
hosts_get_on a b game steps net short w = get_on a b game short steps net w
