-- A delivery is the step of its side.
use Rattle.std.proofs.Common.{◌≡◌, ◌≢◌, ℕ, ◌+◌, ◌-◌, cond, ◌||◌, Bool, true, false, List, [], ◌∷◌, ◌++◌, Option, Some, None, Result, Ok, Err, sym, refl, ap, ◌∙◌, subst, inl, inr}
use Rattle.std.specs.Prelude.{MatchBool, ◌⊎◌, is_some, is_none, nat_lt, nat_le}
use Rattle.std.specs.Str.{bytes_eq}
use Rattle.std.proofs.lemmas.Bool.{cond-true, cond-false, cond_both}
use Rattle.board_core.specs.declared.moves.Move.{Move as Moves}
use Rattle.judge_core.specs.Games.{Rules, position_after_all}
use Rattle.move_msg.specs.declared.message.Message.{Message}
use Rattle.move_msg.specs.declared.message.Message.TheVariants.{Move, Ack, Verdict, Fetch}
use Rattle.move_msg.specs.declared.message.MessageFault.{MessageFault}
use Rattle.move_msg.specs.Heard.{heard_in}
use Rattle.move_msg.specs.Messages.{stamp_in}
use Rattle.move_msg.specs.Numbers.{most_moves}
use Rattle.move_msg.specs.declared.stamp.Stamp.{Stamp}
use Rattle.move_msg.specs.Records.{WritesRecord}
use Rattle.move_msg.proofs.RecordLaws.{is_spelled, one_record}
use Rattle.arbiter_core.specs.declared.fault.DeliverFault.{DeliverFault}
use Rattle.arbiter_core.specs.declared.fault.DeliverFault.TheVariants.{IllegalMove, KeeperFailed, OutOfMemory, Stranger, TooFarAhead, TooLong, Down as IsDown}
use Rattle.arbiter_core.specs.declared.keeper.Keep.{Keep}
use Rattle.arbiter_core.specs.declared.keeper.Keep.TheVariants.{Good, FailsOld, FailsNew}
use Rattle.arbiter_core.specs.Recording.{Recorded, ReorderBuffer, advance, move_count}
use Rattle.arbiter_core.specs.Answering.{Identity, Answer, Refuses, Sends, Puts, answer_heard, answer_to, answer_to_move, puts, told_now, waits_too}
use Rattle.arbiter_core.specs.Memory.{Memory, memory_facts}
use Rattle.arbiter_core.specs.Setups.{SetupView, rules_at}
use Rattle.arbiter_core.specs.Views.{View, spelled_as}
use Rattle.arbiter_core.specs.Delivers.{ReturnsAnswer, Told, answer_at, answer_of, heard, in_game, moment, RefusesOrSends, PutsIfAny, Unchanged, Lands, IsSpelled, IsWritten}
use Rattle.relay_world.specs.Worlds.{Side, SideLife, Closed, Down, Running, answer_to_datagram, answered, hears, hears_at}
use Rattle.relay_world.specs.Inside.Seats.{IsDelivered, IsStarved, PlaceIs, PlaceView, SeatIs, SeatView, Open, StandsForSide, Steps, TakesAt, AnswerTakesMemory, seat}
use Rattle.relay_world.specs.Runs.{KeptIs}

-- what was sent, where a refusal sends nothing
abbrev pub sent_in : Told → List Message
sent_in (Ok outputs) = outputs
sent_in (Err fault) = []

-- bytes that are written of one record and spell another are written of that one, since it is the same
pub written_too : (stamp : Stamp) (delay : ℕ) (old next : Recorded) (bytes : Option (List ℕ)) → IsWritten stamp delay old bytes → IsSpelled stamp delay next bytes → IsWritten stamp delay next bytes
written_too stamp delay old next None w h = absurd w
written_too stamp delay old next (Some t) w h = subst (WritesRecord t) (one_record t (spelled_as stamp delay old) (spelled_as stamp delay next) (is_spelled t (spelled_as stamp delay old) w) h) w

-- of an arbiter that runs
running : (me : Identity) (setup : SetupView) (v new : View) (k kn : Memory) (keep : Keep) (a : Answer) (told : Told) → v.is_down ≡ false → v.setup ≡ setup → v.me ≡ me → k.keep ≡ keep → KeptIs me.stamp setup.delay k.kept (Some v.kept) → RefusesOrSends v k kn new told a → PutsIfAny memory_facts v k kn new told a → told ≢ Err OutOfMemory → Steps me setup (Open new) kn (sent_in told) (answered keep v.kept v.window a)
running me setup v new k kn keep (Refuses f) told up s m e kept r p n =
    record {
      stands = record {
        place_is = subst (λ (x : View). PlaceIs me setup (Open x) (record { kept = Some v.kept; life = Running v.window })) (sym r.arbiter) (s, m, rw up (refl, refl));
        kept = subst (λ (x : Memory). KeptIs me.stamp setup.delay x.kept (Some v.kept)) (sym r.keeper) kept;
      };
      sent = ap sent_in r.answer;
    }
running me setup v new k kn keep (Sends outputs later) told up s m e kept (inl r) p n =
    record {
      stands = record {
        place_is = subst (λ (x : View). PlaceIs me setup (Open x) (record { kept = Some v.kept; life = Running later })) (sym r.arbiter) (s, m, rw up (refl, refl));
        kept = subst (λ (x : Memory). KeptIs me.stamp setup.delay x.kept (Some v.kept)) (sym r.keeper) kept;
      };
      sent = ap sent_in r.answer;
    }
running me setup v new k kn keep (Sends outputs later) told up s m e kept (inr r) p n = absurd (n r.1.answer)
running me setup v new k kn keep (Puts next outputs later) told up s m e kept r (inl u) n = absurd (n u.answer)
running me setup v new k kn keep (Puts next outputs later) told up s m e kept r (inr q) n = landed q.keep (sym e ∙ q.stated) q.lands
  where
    at_me : (Written : Stamp → ℕ → Option (List ℕ) → Type 0) → Written v.me.stamp v.setup.delay kn.kept → Written me.stamp setup.delay kn.kept
    at_me Written l = subst (λ (x : SetupView). Written me.stamp x.delay kn.kept) s (subst (λ (x : Identity). Written x.stamp v.setup.delay kn.kept) m l)

    by_bytes : (kn.kept ≡ k.kept) ⊎ IsWritten v.me.stamp v.setup.delay next kn.kept → IsSpelled me.stamp setup.delay next kn.kept → IsWritten me.stamp setup.delay next kn.kept
    by_bytes (inl same) l = written_too me.stamp setup.delay v.kept next kn.kept (subst (IsWritten me.stamp setup.delay v.kept) (sym same) kept) l
    by_bytes (inr w) l = at_me (λ x d bytes. IsWritten x d next bytes) w

    written : IsSpelled v.me.stamp v.setup.delay next kn.kept → IsWritten me.stamp setup.delay next kn.kept
    written l = by_bytes q.written (at_me (λ x d bytes. IsSpelled x d next bytes) l)

    landed : (o : Keep) → keep ≡ o → Lands o v next outputs later k.kept kn.kept new told → Steps me setup (Open new) kn (sent_in told) (answered keep v.kept v.window (Puts next outputs later))
    landed Good is l = rw is (record {
      stands = record {
        place_is = subst (λ (x : View). PlaceIs me setup (Open x) (record { kept = Some next; life = Running later })) (sym l.1) (s, m, rw up (refl, refl));
        kept = written l.2;
      };
      sent = ap sent_in l.0;
    })
    landed FailsOld is l = rw is (record {
      stands = record {
        place_is = subst (λ (x : View). PlaceIs me setup (Open x) (record { kept = Some v.kept; life = Down })) (sym l.1) (s, m, refl);
        kept = subst (λ (x : Option (List ℕ)). KeptIs me.stamp setup.delay x (Some v.kept)) (sym l.2) kept;
      };
      sent = ap sent_in l.0;
    })
    landed FailsNew is l = rw is (record {
      stands = record {
        place_is = subst (λ (x : View). PlaceIs me setup (Open x) (record { kept = Some next; life = Down })) (sym l.1) (s, m, refl);
        kept = written l.2;
      };
      sent = ap sent_in l.0;
    })

pub delivered_steps : (me : Identity) (setup : SetupView) (v new : View) (old k kn : Memory) (side : Side) (keep : Keep) (heard : Result Message DeliverFault) (told : Told) → StandsForSide me setup (Open v) old side → k.kept ≡ old.kept → k.keep ≡ keep → ReturnsAnswer memory_facts (moment v k) (answer_of v heard) told (moment new kn) → told ≢ Err OutOfMemory → Steps me setup (Open new) kn (sent_in told) (hears keep side (λ kept window. answer_heard (rules_at setup) me kept window heard))
delivered_steps me setup v new old k kn side keep heard told h ke e answers n = by_cases v.is_down refl
  where
    by_cases : (b : Bool) → v.is_down ≡ b → Steps me setup (Open new) kn (sent_in told) (hears keep side (λ kept window. answer_heard (rules_at setup) me kept window heard))
    by_cases true d =
        let life : side.life ≡ Down = subst (λ b. MatchBool b (side.life ≡ Down) ((side.life ≡ Running v.window) × (side.kept ≡ Some v.kept))) d h.place_is.2 in
        let u : Unchanged v k kn new told (Err IsDown) = subst (RefusesOrSends v k kn new told) (cond-true v.is_down (Refuses IsDown) (answer_heard (rules_at v.setup) v.me v.kept v.window heard) d) answers.answered in
        let at : Steps me setup (Open new) kn (sent_in told) (side, []) = record {
          stands = record {
            place_is = subst (λ (x : View). PlaceIs me setup (Open x) side) (sym u.arbiter) h.place_is;
            kept = subst (λ (x : Option (List ℕ)). KeptIs me.stamp setup.delay x side.kept) (sym (ap (λ (m : Memory). m.kept) u.keeper ∙ ke)) h.kept;
          };
          sent = ap sent_in u.answer;
        } in
        subst (Steps me setup (Open new) kn (sent_in told)) (sym (still_down side.kept side.life life)) at
      where
        still_down : (kept : Option Recorded) (life : SideLife) → life ≡ Down → hears_at keep kept life (λ one window. answer_heard (rules_at setup) me one window heard) ≡ (record { kept = kept; life = life }, [])
        still_down None life e = refl
        still_down (Some x) Down e = refl
        still_down (Some x) Closed e = refl
        still_down (Some x) (Running w) e = absurd (cc)
    by_cases false d =
        let run = subst (λ b. MatchBool b (side.life ≡ Down) ((side.life ≡ Running v.window) × (side.kept ≡ Some v.kept))) d h.place_is.2 in
        let s : v.setup ≡ setup = h.place_is.0 in
        let m : v.me ≡ me = h.place_is.1 in
        let is : answer_of v heard ≡ answer_heard (rules_at setup) me v.kept v.window heard =
        cond-false v.is_down (Refuses IsDown) (answer_heard (rules_at v.setup) v.me v.kept v.window heard) d
        ∙ ap (λ (x : SetupView). answer_heard (rules_at x) v.me v.kept v.window heard) s
        ∙ ap (λ (x : Identity). answer_heard (rules_at setup) x v.kept v.window heard) m in
        let kept : KeptIs me.stamp setup.delay k.kept (Some v.kept) = subst (λ (x : Option (List ℕ)). KeptIs me.stamp setup.delay x (Some v.kept)) (sym ke) (subst (KeptIs me.stamp setup.delay old.kept) run.1 h.kept) in
        rw (run.0, run.1) (running me setup v new k kn keep (answer_heard (rules_at setup) me v.kept v.window heard) told d s m e kept (subst (RefusesOrSends v k kn new told) is answers.answered) (subst (PutsIfAny memory_facts v k kn new told) is answers.put) n)

-- a seat with an open arbiter
pub delivered_replica : (datagram : List ℕ) (v new : View) (k kn : Memory) (told : Told) → ReturnsAnswer memory_facts (moment v k) (answer_at v datagram) told (moment new kn) → told ≢ Err OutOfMemory → IsDelivered k.keep datagram (seat (Open v) k) (seat (Open new) kn) (sent_in told)
delivered_replica datagram v new k kn told answers n me setup side stands =
    let same : heard v.me.stamp datagram ≡ heard me.stamp datagram = ap (λ (i : Identity). heard i.stamp datagram) stands.place_is.1 in
    delivered_steps me setup v new k k kn side k.keep (heard me.stamp datagram) told stands refl refl (subst (λ (s : Result Message DeliverFault). ReturnsAnswer memory_facts (moment v k) (answer_of v s) told (moment new kn)) same answers) n

-- the outcome of the next put is set first
pub set_first : (keep : Keep) (datagram : List ℕ) (place : PlaceView) (old k : Memory) (late : SeatView) (outputs : List Message) → k.kept ≡ old.kept → k.keep ≡ keep → IsDelivered k.keep datagram (seat place k) late outputs → IsDelivered keep datagram (seat place old) late outputs
set_first keep datagram place old k late outputs kept is h me setup side stands =
    subst (λ (x : Keep). Steps me setup late.place late.keeper outputs (hears x side (answer_to_datagram (rules_at setup) me datagram))) is
    (h me setup side (record { place_is = stands.place_is; kept = subst (λ (x : Option (List ℕ)). KeptIs me.stamp setup.delay x side.kept) (sym kept) stands.kept }))

-- a closed seat hears nothing
pub shut_steps : (me : Identity) (setup : SetupView) (place : PlaceView) (old k : Memory) (side : Side) (keep : Keep) (respond : Recorded → ReorderBuffer → Answer) → StandsForSide me setup place old side → k.kept ≡ old.kept → side.life ≡ Closed → Steps me setup place k [] (hears keep side respond)
shut_steps me setup place old k side keep respond h ke life =
    subst (Steps me setup place k []) (sym (still_shut side.kept side.life life)) (record {
      stands = record {
        place_is = h.place_is;
        kept = subst (λ (x : Option (List ℕ)). KeptIs me.stamp setup.delay x side.kept) (sym ke) h.kept;
      };
      sent = refl;
    })
  where
    still_shut : (kept : Option Recorded) (life : SideLife) → life ≡ Closed → hears_at keep kept life respond ≡ (record { kept = kept; life = life }, [])
    still_shut None life e = refl
    still_shut (Some x) Down e = refl
    still_shut (Some x) Closed e = refl
    still_shut (Some x) (Running w) e = absurd (cc)

-- ---- want of memory

-- a refusal is never for want of memory
abbrev IsNoWant : Answer → Type 0
IsNoWant (Refuses fault) = fault ≢ OutOfMemory
IsNoWant (Sends outputs window) = Unit {0}
IsNoWant (Puts next outputs window) = Unit {0}

move_no_want : (r : Rules) (me : Identity) (old : Recorded) (window : ReorderBuffer) (number : ℕ) (m : Moves) → IsNoWant (answer_to_move r me old window number m)
move_no_want r me old window number m =
    let k : ℕ = move_count old in
    let a5 : Answer = puts me old window (advance r old.moves m window) in
    let a4 : Answer = cond (is_none (position_after_all r.start (old.moves ++ m ∷ []))) (Refuses IllegalMove) a5 in
    let a3 : Answer = cond (nat_lt k number) (Sends (Ack me.stamp me.who k ∷ []) (waits_too window (number - (k + 1)) m)) a4 in
    let a2 : Answer = cond (nat_le (k + 32) number) (Refuses TooFarAhead) a3 in
    let a1 : Answer = cond (is_some old.verdict || nat_lt number k) (Sends (told_now me old) window) a2 in
    cond_both (nat_le most_moves number) (Refuses TooLong) a1 IsNoWant (λ _ e. cc) (λ _.
    cond_both (is_some old.verdict || nat_lt number k) (Sends (told_now me old) window) a2 IsNoWant (λ _. tt) (λ _.
    cond_both (nat_le (k + 32) number) (Refuses TooFarAhead) a3 IsNoWant (λ _ e. cc) (λ _.
    cond_both (nat_lt k number) (Sends (Ack me.stamp me.who k ∷ []) (waits_too window (number - (k + 1)) m)) a4 IsNoWant (λ _. tt) (λ _.
    cond_both (is_none (position_after_all r.start (old.moves ++ m ∷ []))) (Refuses IllegalMove) a5 IsNoWant (λ _ e. cc) (λ _. tt)))))

message_no_want : (r : Rules) (me : Identity) (old : Recorded) (window : ReorderBuffer) (message : Message) → IsNoWant (answer_to r me old window message)
unfolding answer_to
message_no_want r me old window (Move stamp sender number m) = move_no_want r me old window number m
message_no_want r me old window (Ack stamp who count) = tt
message_no_want r me old window (Verdict stamp who ply v) = tt
message_no_want r me old window (Fetch stamp who number wanted) = tt

heard_no_want : (r : Rules) (me : Identity) (old : Recorded) (window : ReorderBuffer) (stamp : Stamp) (read : Result Message MessageFault) → IsNoWant (answer_heard r me old window (in_game stamp read))
heard_no_want r me old window stamp (Ok message) =
    cond_both (bytes_eq (stamp_in message) stamp) (Ok message) (Err Stranger) (λ said. IsNoWant (answer_heard r me old window said))
    (λ _. message_no_want r me old window message) (λ _ e. cc)
heard_no_want r me old window stamp (Err fault) = λ e. cc

not_ok : (told : Told) (outputs : List Message) → told ≡ Err OutOfMemory → told ≡ Ok outputs → ⊥
not_ok told outputs e f = cc

not_other : (told : Told) (fault : DeliverFault) → told ≡ Err OutOfMemory → told ≡ Err fault → fault ≡ OutOfMemory
not_other told fault e f = cc

-- what is told for want of memory is told where memory is taken, and all is as before
want_at : (v new : View) (k kn : Memory) (a : Answer) (told : Told) → IsNoWant a → told ≡ Err OutOfMemory → RefusesOrSends v k kn new told a → PutsIfAny memory_facts v k kn new told a → AnswerTakesMemory a × (new ≡ v) × (kn ≡ k)
want_at v new k kn (Refuses fault) told w e r p = absurd (w (not_other told fault e r.answer))
want_at v new k kn (Sends outputs window) told w e (inl r) p = absurd (not_ok told outputs e r.answer)
want_at v new k kn (Sends outputs window) told w e (inr r) p = (r.0, r.1.arbiter, r.1.keeper)
want_at v new k kn (Puts next outputs window) told w e r (inl u) = (tt, u.arbiter, u.keeper)
want_at v new k kn (Puts next outputs window) told w e r (inr q) = absurd (landed q.keep q.lands)
  where
    failed : told ≡ Err KeeperFailed → ⊥
    failed f = let bad = not_other told KeeperFailed e f in cc

    landed : (o : Keep) → Lands o v next outputs window k.kept kn.kept new told → ⊥
    landed Good l = not_ok told outputs e l.0
    landed FailsOld l = failed l.0
    landed FailsNew l = failed l.0

pub starved_replica : (datagram : List ℕ) (v new : View) (k kn : Memory) (told : Told) → ReturnsAnswer memory_facts (moment v k) (answer_at v datagram) told (moment new kn) → told ≡ Err OutOfMemory → IsStarved datagram (seat (Open v) k) (seat (Open new) kn)
starved_replica datagram v new k kn told answers e me setup side stands = by_cases v.is_down refl
  where
    respond : Recorded → ReorderBuffer → Answer
    respond = answer_to_datagram (rules_at setup) me datagram

    same : new ≡ v → kn ≡ k → SeatIs me setup (seat (Open new) kn) side
    same a b = subst (λ (x : Memory). SeatIs me setup (seat (Open new) x) side) (sym b) (subst (λ (x : View). SeatIs me setup (seat (Open x) k) side) (sym a) stands)

    by_cases : (b : Bool) → v.is_down ≡ b → TakesAt side.kept side.life respond × SeatIs me setup (seat (Open new) kn) side
    by_cases true d =
        let u : Unchanged v k kn new told (Err IsDown) = subst (RefusesOrSends v k kn new told) (cond-true v.is_down (Refuses IsDown) (answer_heard (rules_at v.setup) v.me v.kept v.window (heard v.me.stamp datagram)) d) answers.answered in
        let bad = not_other told IsDown e u.answer in
        cc
    by_cases false d =
        let run = subst (λ b. MatchBool b (side.life ≡ Down) ((side.life ≡ Running v.window) × (side.kept ≡ Some v.kept))) d stands.place_is.2 in
        let is : answer_at v datagram ≡ respond v.kept v.window =
        cond-false v.is_down (Refuses IsDown) (answer_heard (rules_at v.setup) v.me v.kept v.window (heard v.me.stamp datagram)) d
        ∙ ap (λ (x : SetupView). answer_heard (rules_at x) v.me v.kept v.window (heard v.me.stamp datagram)) stands.place_is.0
        ∙ ap (λ (x : Identity). answer_heard (rules_at setup) x v.kept v.window (heard x.stamp datagram)) stands.place_is.1 in
        let w = want_at v new k kn (respond v.kept v.window) told (heard_no_want (rules_at setup) me v.kept v.window me.stamp (heard_in datagram)) e (subst (RefusesOrSends v k kn new told) is answers.answered) (subst (PutsIfAny memory_facts v k kn new told) is answers.put) in
        (rw (run.0, run.1) w.0, same w.1 w.2)

-- the outcome of the next put is set first
pub starved_first : (datagram : List ℕ) (place : PlaceView) (old k : Memory) (late : SeatView) → k.kept ≡ old.kept → IsStarved datagram (seat place k) late → IsStarved datagram (seat place old) late
starved_first datagram place old k late kept h me setup side stands =
    h me setup side (record { place_is = stands.place_is; kept = subst (λ (x : Option (List ℕ)). KeptIs me.stamp setup.delay x side.kept) (sym kept) stands.kept })
