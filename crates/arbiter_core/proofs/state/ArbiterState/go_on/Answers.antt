use Rattle.std.proofs.Common.{◌≡◌, ℕ, ◌+◌, ◌-◌, ◌<◌, true, List, length, length-append, Option, Some, None, cond, sym, ap, ◌∙◌, subst, arith, refl}
use Rattle.std.specs.Prelude.{is_some}
use Rattle.std.proofs.lemmas.Bool.{cond-true, cond-false}
use Rattle.board_core.specs.declared.moves.Move.{Move}
use Rattle.board_core.specs.declared.verdict.Verdict.{Verdict}
use Rattle.judge_core.specs.Tables.{Holding}
use Rattle.move_msg.specs.Records.{gone_on}
use Rattle.move_msg.specs.declared.stamp.Stamp.{Stamp}
use Rattle.move_msg.specs.declared.record_bytes.Record.{Record}
use Rattle.arbiter_core.specs.declared.played.Played.{Played}
use Rattle.arbiter_core.specs.Recording.{Recorded, ReorderBuffer, move_count}
use Rattle.arbiter_core.specs.Answering.{still_waits, nothing_waits, told_now, told_of}
use Rattle.arbiter_core.specs.Setups.{SetupView, rules_at, terms_with}
use Rattle.arbiter_core.specs.Views.{View, IsNear}
use Rattle.arbiter_core.specs.Resting.{Rest, awake, setup_with}
use Rattle.arbiter_core.specs.Inside.AtRest.{rest_of}
use Rattle.arbiter_core.specs.Inside.Playing.{IsArbiterInOrder, IsNext, played_of}
use Rattle.arbiter_core.specs.Inside.Starting.{recorded_by}
use Rattle.arbiter_core.proofs.Settling.{near_still, near_nothing}
use Rattle.arbiter_core.proofs.Opened.{kept_so, wrote_so}
use Rattle.arbiter_core.proofs.Waking.{awake_is, can_wake, in_order}
use Rattle.arbiter_core.proofs.Going.{new_is, seen_as, goes_ok, goes_err, next_in_order, played_on, still_in_order, taken_back}
use Rattle.arbiter_core.proofs.state.ArbiterState.go_on.Goals as goal
use Rattle.arbiter_core.proofs.state.ArbiterState.go_on.Goals.{then-is_some, else-is_some}

pub plan_on-requires-clause-next : goal.plan_on-requires-clause-next
plan_on-requires-clause-next g c = subst (λ (r : Rest). IsNext (rules_at (setup_with r c.args.tables.now)) r.kept c.args.m.now c.args.position.now) (sym c.self.view_is) c.requires.next

pub plan_on-requires-clause-in_order : goal.plan_on-requires-clause-in_order
plan_on-requires-clause-in_order g c = in_order c.self.inside c.args.self.now c.args.tables.now c.self.view_is c.requires.wakes

pub returns-in-Ok-put : goal.returns-in-Ok-put
returns-in-Ok-put g c =
    let set : Holding = c.args.tables.now in
    let terms : SetupView = terms_with c.self.inside.terms set in
    let v : View = awake (rest_of c.self.inside) set in
    let order : IsArbiterInOrder terms c.self.inside.played c.self.inside.window = in_order c.self.inside c.args.self.now set c.self.view_is c.requires.wakes in
    let old : Record = c.self.inside.played.record in
    let next : Recorded = recorded_by c.go_on.new.self in
    let added : List Move = c.in-Ok.plan.moves.items in
    let is : c.go_on.new.self ≡ gone_on old added c.in-Ok.plan.verdict = c.in-Ok-go_on.ensures.ok ∙ ap (λ (ms : List Move). gone_on old ms c.in-Ok.plan.verdict) c.deref.ensures.value in
    let on = played_on terms c.self.inside.played c.args.m.now c.self.inside.window c.in-Ok.plan c.go_on.new.self order is c.in-Ok.ensures.planned in
    let ruled : next.verdict ≡ c.in-Ok.plan.verdict = ap (λ (r : Record). r.verdict) is in
    let counted : c.count.result ≡ move_count next = c.count.ensures ∙ ap (λ (r : Record). length r.moves) c.as_record-record.ensures in
    let told : c.tell-outputs.result.items ≡ told_now v.me next =
    c.tell-outputs.ensures
    ∙ ap (λ (r : Record). told_of (record { stamp = r.stamp; who = c.self.inside.terms.me }) c.count.result c.in-Ok.plan.verdict) c.as_record-record.ensures
    ∙ ap (λ (s : Stamp). told_of (record { stamp = s; who = c.self.inside.terms.me }) c.count.result c.in-Ok.plan.verdict) on.played.stamp_is
    ∙ ap (λ (n : ℕ). told_of v.me n c.in-Ok.plan.verdict) counted
    ∙ ap (λ (o : Option Verdict). told_of v.me (move_count next) o) (sym ruled) in
    let grown : move_count next ≡ length old.moves + length added = ap (λ (r : Record). length r.moves) is ∙ length-append old.moves added in
    let more : c.len-more.result ≡ move_count next - move_count v.kept = omega (arith, grown, c.len-more.ensures) in
    let above : length old.moves < move_count next = on.more in
    let near : IsNear c.if-is_some.window (move_count next + 1) =
    elim c.if-is_some.branch [
      | then-is_some w ↦ subst (λ (x : ReorderBuffer). IsNear x (move_count next + 1)) (sym (w.window-is ∙ w.empty-window.ensures)) (near_nothing (move_count next + 1))
      | else-is_some w ↦ subst (λ (x : ReorderBuffer). IsNear x (move_count next + 1)) (sym (w.window-is ∙ w.after-window.ensures ∙ ap (still_waits c.self.inside.window) more))
          (near_still c.self.inside.window (length old.moves) (move_count next) (omega arith) order.near)
    ] in
    let later : c.if-is_some.window ≡ cond (is_some next.verdict) nothing_waits (still_waits v.window (move_count next - move_count v.kept)) =
    elim c.if-is_some.branch [
      | then-is_some w ↦ w.window-is ∙ w.empty-window.ensures ∙ sym (cond-true (is_some next.verdict) nothing_waits (still_waits v.window (move_count next - move_count v.kept)) (ap (λ (o : Option Verdict). is_some o) ruled ∙ sym c.is_some.ensures ∙ w.if-is_some.true))
      | else-is_some w ↦ w.window-is ∙ w.after-window.ensures ∙ ap (still_waits v.window) more ∙ sym (cond-false (is_some next.verdict) nothing_waits (still_waits v.window (move_count next - move_count v.kept)) (ap (λ (o : Option Verdict). is_some o) ruled ∙ sym c.is_some.ensures ∙ w.if-is_some.false))
    ] in
    let bytes : List ℕ = c.as_bytes.result.now in
    let p : Played = played_of c.go_on.new.self c.in-Ok.plan.standing in
    let spelled = kept_so v.me.stamp v.setup.delay p next bytes (Some bytes) on.played.stamp_is on.played.delay_is refl c.as_bytes.ensures.spelled refl in
    let written = wrote_so v.me.stamp v.setup.delay p next bytes (Some bytes) on.played.stamp_is on.played.delay_is refl c.as_bytes.ensures.written refl in
    record {
      same = c.in-Ok.ensures.same;
      wakes =
          can_wake (record { terms = c.self.inside.terms; played = p; window = c.if-is_some.window; down = c.self.inside.down }) set
          (next_in_order terms c.self.inside.played p c.args.m.now c.self.inside.window c.if-is_some.window order on near);
      answers = goes_ok g.K.Keeper.facts v (awake c.args.self.now set) c.args.m.now next c.args.keeper.now c.put.new.self _ bytes (awake_is set c.self.view_is) on.advanced spelled written c.in-Ok-put.ensures.once _ _ c.if-is_some.window c.in-Ok-put.ensures.outcome told later (new_is v _ next c.if-is_some.window on.played.stamp_is);
    }

pub returns : goal.returns
returns g c =
    let set : Holding = c.args.tables.now in
    let terms : SetupView = terms_with c.self.inside.terms set in
    let v : View = awake (rest_of c.self.inside) set in
    let order : IsArbiterInOrder terms c.self.inside.played c.self.inside.window = in_order c.self.inside c.args.self.now set c.self.view_is c.requires.wakes in
    let old : Record = c.self.inside.played.record in
    let next : Recorded = recorded_by c.go_on.new.self in
    let unruled : old.verdict ≡ None = ap (λ (r : Rest). r.kept.verdict) c.self.view_is ∙ c.requires.next.unruled in
    let is : c.go_on.new.self ≡ gone_on old c.in-Ok.plan.moves.items c.in-Ok.plan.verdict = c.in-Ok-go_on.ensures.ok ∙ ap (λ (ms : List Move). gone_on old ms c.in-Ok.plan.verdict) c.deref.ensures.value in
    let all : length c.as_slice-count.result.now ≡ length old.moves = ap length c.as_slice-count.ensures.moves ∙ ap (λ (r : Record). length r.moves) c.as_record.ensures in
    let back : c.cut_back.new.self ≡ old = taken_back old c.go_on.new.self c.cut_back.new.self c.in-Ok.plan.moves.items c.in-Ok.plan.verdict _ unruled is c.cut_back.ensures all in
    let on = played_on terms c.self.inside.played c.args.m.now c.self.inside.window c.in-Ok.plan c.go_on.new.self order is c.in-Ok.ensures.planned in
    let bytes : List ℕ = c.as_bytes.result.now in
    let p : Played = played_of c.go_on.new.self c.in-Ok.plan.standing in
    let spelled = kept_so v.me.stamp v.setup.delay p next bytes (Some bytes) on.played.stamp_is on.played.delay_is refl c.as_bytes.ensures.spelled refl in
    let written = wrote_so v.me.stamp v.setup.delay p next bytes (Some bytes) on.played.stamp_is on.played.delay_is refl c.as_bytes.ensures.written refl in
    record {
      same = c.in-Ok.ensures.same;
      wakes =
          can_wake (record { terms = c.self.inside.terms; played = played_of c.cut_back.new.self c.self.inside.played.standing; window = c.self.inside.window; down = true }) set
          (still_in_order terms c.self.inside.played c.cut_back.new.self c.self.inside.window back order);
      answers =
          goes_err g.K.Keeper.facts v (awake c.args.self.now set) c.args.m.now next c.args.keeper.now c.put.new.self _ bytes (awake_is set c.self.view_is) on.advanced spelled written c.in-Err.ensures.once _ c.in-Err.ensures.outcome c.in-Err.ensures.cause
          (seen_as terms c.self.inside.terms.me c.cut_back.new.self old c.self.inside.window true back);
    }
