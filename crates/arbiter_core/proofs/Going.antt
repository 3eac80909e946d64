-- The put of a new record.
use Rattle.std.proofs.Common.{◌≡◌, ◌∙◌, sym, ap, ap₂, subst, refl, ℕ, Bool, cond, ◌++◌, ◌+◌, ◌-◌, inl, inr, ◌⊎◌, List, length, Option, Some, None, Ok, Err}
use Rattle.std.specs.Prelude.{is_some}
use Rattle.std.proofs.lemmas.List.{take_at}
use Rattle.std.specs.Result.{IsErrOf}
use Rattle.board_core.specs.declared.moves.Move.{Move as Moves}
use Rattle.board_core.specs.declared.verdict.Verdict.{Verdict}
use Rattle.move_msg.specs.Records.{cut_back, gone_on}
use Rattle.move_msg.specs.declared.record_bytes.Record.{Record}
use Rattle.move_msg.specs.declared.arbiter_id.ArbiterId.{ArbiterId}
use Rattle.move_msg.specs.declared.stamp.Stamp.{Stamp}
use Rattle.move_msg.specs.declared.message.Message.{Message}
use Rattle.arbiter_core.specs.declared.keeper.Keep.{Keep}
use Rattle.arbiter_core.specs.declared.keeper.Keep.TheVariants.{Good, FailsOld, FailsNew}
use Rattle.arbiter_core.specs.declared.keeper.KeepFault.{KeepFault}
use Rattle.arbiter_core.specs.declared.keeper.KeepFault.TheVariants.{Failed}
use Rattle.arbiter_core.specs.declared.fault.DeliverFault.TheVariants.{KeeperFailed}
use Rattle.arbiter_core.specs.declared.planning.Plan.{Plan}
use Rattle.arbiter_core.specs.declared.played.Played.{Played}
use Rattle.arbiter_core.specs.Recording.{Recorded, ReorderBuffer, advance, move_count}
use Rattle.arbiter_core.specs.Answering.{still_waits, nothing_waits, told_now, puts}
use Rattle.system_io.specs.Failures.{Risen}
use Rattle.arbiter_core.specs.Keeping.{KeeperFacts, PutIs, PutLeaves}
use Rattle.arbiter_core.specs.Setups.{SetupView, rules_at}
use Rattle.arbiter_core.specs.Views.{IsNear, View}
use Rattle.arbiter_core.specs.Delivers.{ReturnsAnswer, PutsOnce, PutsIfAny, IsSpelled, IsWritten, Told, answer_to_next, moment, with_record, downed}
use Rattle.arbiter_core.specs.Inside.Playing.{IsArbiterInOrder, IsPlan, IsPlayedOn, IsPlayedRecord, played_of, recorded_in}
use Rattle.arbiter_core.specs.Inside.Starting.{recorded_by}
use Rattle.arbiter_core.proofs.Settling.{advanced}

-- a plan as a record
pub played_on : (setup : SetupView) (old : Played) (m : Moves) (window : ReorderBuffer) (plan : Plan) (r : Record) → IsArbiterInOrder setup old window → r ≡ gone_on old.record plan.moves.items plan.verdict → IsPlan (rules_at setup) (recorded_in old) m window plan → IsPlayedOn setup old m window (played_of r plan.standing)
played_on setup old m window plan r order is p =
    let a = advanced (rules_at setup) old.record.moves m window (old.record.moves ++ plan.moves.items) plan.verdict p.advanced in
    subst (λ (x : Record). IsPlayedOn setup old m window (played_of x plan.standing)) (sym is)
    (record {
      played = record { stamp_is = refl; delay_is = order.played.delay_is; at = p.at; ruled = a.ruled; reached = a.reached; short = p.short };
      advanced = p.advanced;
      more = p.more;
    })

-- a record from which the added moves are taken back is the one before
pub taken_back : (old r b : Record) (more : List Moves) (v : Option Verdict) (count : ℕ) → old.verdict ≡ None → r ≡ gone_on old more v → b ≡ cut_back r count → count ≡ length old.moves → b ≡ old
taken_back old r b more v count none on back all =
    back ∙ ap (λ (x : Record). cut_back x count) on
    ∙ ap₂ (λ (w : Option Verdict) (ms : List Moves). record { stamp = old.stamp; delay = old.delay; verdict = w; moves = ms }) (sym none) (take_at old.moves more count (sym all))

-- with the record as it was all stays in order
pub still_in_order : (setup : SetupView) (old : Played) (r : Record) (window : ReorderBuffer) → r ≡ old.record → IsArbiterInOrder setup old window → IsArbiterInOrder setup (played_of r old.standing) window
still_in_order setup old r window is order = subst (λ (x : Record). IsArbiterInOrder setup (played_of x old.standing) window) (sym is) order

-- what is in order stays so with the next record and what still waits
pub next_in_order : (setup : SetupView) (old new : Played) (m : Moves) (window later : ReorderBuffer) → IsArbiterInOrder setup old window → IsPlayedOn setup old m window new → IsNear later (length new.record.moves + 1) → IsArbiterInOrder setup new later
next_in_order setup old new m window later order on near =
    record { played = subst (λ (s : Stamp). IsPlayedRecord setup s new) (sym on.played.stamp_is) on.played; near = near; delay = order.delay }

pub new_is : (v : View) (stamp : Stamp) (n : Recorded) (w : ReorderBuffer) → stamp ≡ v.me.stamp → record { setup = v.setup; me = record { stamp = stamp; who = v.me.who }; kept = n; window = w; is_down = v.is_down } ≡ with_record v n w
new_is v stamp n w f = ap (λ (x : Stamp). record { setup = v.setup; me = record { stamp = x; who = v.me.who }; kept = n; window = w; is_down = v.is_down }) f

-- an arbiter by its setup, its record and what waits
abbrev pub seen : SetupView → ArbiterId → Record → ReorderBuffer → Bool → View
seen s who r window down = record { setup = s; me = record { stamp = r.stamp; who = who }; kept = recorded_by r; window = window; is_down = down }

pub seen_as : (s : SetupView) (who : ArbiterId) (r q : Record) (window : ReorderBuffer) (down : Bool) → r ≡ q → seen s who r window down ≡ seen s who q window down
seen_as s who r q window down f = ap (λ (x : Record). seen s who x window down) f

module _ {K : Type 0} (facts : KeeperFacts K) (old new : View) (next : Recorded) (outputs : List Message) (later : ReorderBuffer) (before now : K) (sent : List ℕ) (spelled : IsSpelled old.me.stamp old.setup.delay next (Some sent)) (written : IsWritten old.me.stamp old.setup.delay next (Some sent)) (once : facts.leaves before sent now) where
  wrote : facts.kept now ≡ Some sent → (facts.kept now ≡ facts.kept before) ⊎ IsWritten old.me.stamp old.setup.delay next (facts.kept now)
  wrote e = inr (subst (IsWritten old.me.stamp old.setup.delay next) (sym e) written)

  there : facts.kept now ≡ Some sent → IsSpelled old.me.stamp old.setup.delay next (facts.kept now)
  there e = subst (IsSpelled old.me.stamp old.setup.delay next) (sym e) spelled

  pub put_landed : {T : Type 0} (x : T) → PutLeaves {T = T} (facts.may_be before) (facts.kept before) sent (facts.kept now) (Ok x) → new ≡ with_record old next later → PutsOnce facts old next outputs later before now new (Ok outputs)
  put_landed {T = T} x o is_new = by_keep o.keep o.stated o.is
    where
      by_keep : (keep : Keep) → facts.may_be before keep → PutIs {T = T} keep (facts.kept before) sent (facts.kept now) (Ok x) → PutsOnce facts old next outputs later before now new (Ok outputs)
      by_keep Good stated is = record { keep = Good; stated = stated; lands = (refl, is_new, there is.1); written = wrote is.1; sent = sent; spells = written; once = once; cause = λ e. absurd (let f : ◌≡◌ {A = Told} (Ok outputs) (Err KeeperFailed) = e in cc) }
      by_keep FailsOld stated is = absurd (let f = is.0 in cc)
      by_keep FailsNew stated is = absurd (let f = is.0 in cc)

  pub put_failed : {T : Type 0} (f : KeepFault) → PutLeaves {T = T} (facts.may_be before) (facts.kept before) sent (facts.kept now) (Err f) → (IsErrOf {T = T} (Err f) Failed → Risen (facts.faults before) (facts.faults now)) → new ≡ downed old → PutsOnce facts old next outputs later before now new (Err KeeperFailed)
  put_failed {T = T} f o cause is_new = by_keep o.keep o.stated o.is
    where
      by_keep : (keep : Keep) → facts.may_be before keep → PutIs {T = T} keep (facts.kept before) sent (facts.kept now) (Err f) → PutsOnce facts old next outputs later before now new (Err KeeperFailed)
      by_keep Good stated is = absurd (let x = is.0 in cc)
      by_keep FailsOld stated is = record { keep = FailsOld; stated = stated; lands = (refl, is_new, is.1); written = inl is.1; sent = sent; spells = written; once = once; cause = λ _. cause is.0 }
      by_keep FailsNew stated is = record { keep = FailsNew; stated = stated; lands = (refl, is_new, there is.1); written = wrote is.1; sent = sent; spells = written; once = once; cause = λ _. cause is.0 }

abbrev later_of : Recorded → Recorded → ReorderBuffer → ReorderBuffer
later_of next old window = cond (is_some next.verdict) nothing_waits (still_waits window (move_count next - move_count old))

module _ {K : Type 0} (facts : KeeperFacts K) (v w : View) (m : Moves) (next : Recorded) (before now : K) (new : View) (sent : List ℕ) (same : v ≡ w) (is : next ≡ advance (rules_at v.setup) v.kept.moves m v.window) (spelled : IsSpelled v.me.stamp v.setup.delay next (Some sent)) (written : IsWritten v.me.stamp v.setup.delay next (Some sent)) (once : facts.leaves before sent now) where
  answers : (told : Told) → PutsIfAny facts v before now new told (puts v.me v.kept v.window next) → ReturnsAnswer facts (moment w before) (answer_to_next w m) told (moment new now)
  answers told h =
      subst (λ (u : View). ReturnsAnswer facts (moment u before) (answer_to_next u m) told (moment new now)) same
      (subst (λ (n : Recorded). ReturnsAnswer facts (moment v before) (puts v.me v.kept v.window n) told (moment new now)) is (record { answered = tt; put = h }))

  pub goes_ok : {T : Type 0} (x : T) (outputs : List Message) (later : ReorderBuffer) → PutLeaves {T = T} (facts.may_be before) (facts.kept before) sent (facts.kept now) (Ok x) → outputs ≡ told_now v.me next → later ≡ later_of next v.kept v.window → new ≡ with_record v next later → ReturnsAnswer facts (moment w before) (answer_to_next w m) (Ok outputs) (moment new now)
  goes_ok x outputs later o told lat is_new =
      answers (Ok outputs) (inr (subst (λ (os : List Message). PutsOnce facts v next (told_now v.me next) (later_of next v.kept v.window) before now new (Ok os)) (sym told)
      (put_landed facts v new next (told_now v.me next) (later_of next v.kept v.window) before now sent spelled written once x o (is_new ∙ ap (with_record v next) lat))))

  pub goes_err : {T : Type 0} (f : KeepFault) → PutLeaves {T = T} (facts.may_be before) (facts.kept before) sent (facts.kept now) (Err f) → (IsErrOf {T = T} (Err f) Failed → Risen (facts.faults before) (facts.faults now)) → new ≡ downed v → ReturnsAnswer facts (moment w before) (answer_to_next w m) (Err KeeperFailed) (moment new now)
  goes_err f o cause is_new =
      answers (Err KeeperFailed) (inr (put_failed facts v new next (told_now v.me next) (later_of next v.kept v.window) before now sent spelled written once f o cause is_new))
