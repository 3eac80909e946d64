use Rattle.std.proofs.Common.{◌≡◌, ℕ, ◌+◌, ◌-◌, ◌<◌, ◌≤◌, true, ◌||◌, None, arith, ap, sym, ◌∙◌, refl, subst}
use Rattle.std.specs.Prelude.{is_some, nat_lt}
use Rattle.move_msg.specs.Numbers.{most_moves}
use Rattle.move_msg.specs.declared.record_bytes.Record.{Record}
use Rattle.arbiter_core.specs.Recording.{ReorderBuffer, move_count}
use Rattle.arbiter_core.specs.Answering.{told_now, told_of, waits_too}
use Rattle.arbiter_core.specs.Views.{View}
use Rattle.arbiter_core.specs.Delivers.{answer_to_next, answer_to_numbered, with_window}
use Rattle.arbiter_core.specs.Inside.AtRest.{rest_of}
use Rattle.arbiter_core.specs.Resting.{CanWake, Rest, awake}
use Rattle.arbiter_core.proofs.Hearing.{answers_as, turn_is}
use Rattle.arbiter_core.proofs.PlanLaws.{none_of}
use Rattle.arbiter_core.proofs.Waking.{awake_is, can_wake_too, waiting}
use Rattle.arbiter_core.proofs.Taking.{below, count_in, counts, goes_on, illegal, is_turn, of_fields, ruled, some_in, tells, told, too_far, too_long, waits}
use Rattle.arbiter_core.proofs.state.ArbiterState.take_move.Goals as goal
use Rattle.arbiter_core.proofs.state.ArbiterState.take_move.Goals.{then-is_some-via-then-is_some, then-is_some-via-else-is_some+then-number}

pub returns-then-number-ge4096 : goal.returns-then-number-ge4096
returns-then-number-ge4096 g c =
    record { same = refl; wakes = c.requires.wakes; answers = too_long g.K.Keeper.facts (awake c.args.self.now c.args.tables.now) c.args.keeper.now c.args.number c.args.m.now c.if-number-ge4096.true }

pub returns-then-number-2 : goal.returns-then-number-2
returns-then-number-2 g c =
    record {
      same = refl;
      wakes = c.requires.wakes;
      answers = too_far g.K.Keeper.facts (awake c.args.self.now c.args.tables.now) c.args.keeper.now c.args.number c.args.m.now c.if-number-ge4096.false
          (goes_on (awake_is c.args.tables.now c.self.view_is) _ (some_in c.as_record-record.ensures _ c.is_some.ensures) c.if-is_some.false)
          (subst (λ (n : ℕ). n + 32 ≤ c.args.number) (counts (awake_is c.args.tables.now c.self.view_is) _ _ c.number-2.ensures.value (count_in c.as_record-record.ensures _ c.count-count.ensures)) c.if-number-2.true);
    }

pub returns-then-is_some : goal.returns-then-is_some
returns-then-is_some g c =
    let late : (is_some (awake c.args.self.now c.args.tables.now).kept.verdict || nat_lt c.args.number (move_count (awake c.args.self.now c.args.tables.now).kept)) ≡ true =
    elim c.then-is_some.branch [
      | then-is_some-via-then-is_some w ↦ ruled (awake_is c.args.tables.now c.self.view_is) _ c.args.number (some_in c.as_record-record.ensures _ c.is_some.ensures) w.if-is_some.true
      | then-is_some-via-else-is_some+then-number w ↦ below (awake_is c.args.tables.now c.self.view_is) c.args.number _ _ w.number.ensures.value (count_in c.as_record-record.ensures _ c.count-count.ensures) w.if-number.true
    ] in
    let is : c.tell.result.items ≡ told_now (awake (rest_of c.self.inside) c.args.tables.now).me (awake (rest_of c.self.inside) c.args.tables.now).kept =
    c.tell.ensures
    ∙ ap (λ (r : Record). told_of (record { stamp = r.stamp; who = c.self.inside.terms.me }) c.count-count.result r.verdict) c.as_record-record.ensures
    ∙ ap (λ (n : ℕ). told_of (awake (rest_of c.self.inside) c.args.tables.now).me n (awake (rest_of c.self.inside) c.args.tables.now).kept.verdict) (count_in c.as_record-record.ensures _ c.count-count.ensures) in
    record { same = refl; wakes = c.requires.wakes; answers = told g.K.Keeper.facts (awake c.args.self.now c.args.tables.now) c.args.keeper.now c.args.number c.args.m.now c.tell.result.items c.if-number-ge4096.false late (tells (awake_is c.args.tables.now c.self.view_is) _ is) }

pub returns-then-number-3 : goal.returns-then-number-3
returns-then-number-3 g c =
    let v : View = awake (rest_of c.self.inside) c.args.tables.now in
    let k : ℕ = move_count v.kept in
    let low : c.number.result ≡ k = c.number.ensures.value ∙ (count_in c.as_record-record.ensures _ c.count-count.ensures) in
    let high : c.number-2.result ≡ k = c.number-2.ensures.value ∙ (count_in c.as_record-record.ensures _ c.count-count.ensures) in
    let at : c.number-3.result ≡ k = c.number-3.ensures.value ∙ (count_in c.as_record-record.ensures _ c.count-count.ensures) in
    let from : c.number-then-number-3.result ≡ k = c.number-then-number-3.ensures.value ∙ (count_in c.as_record-record.ensures _ c.count-count.ensures) in
    let place : c.args.number - c.number-then-number-3.result - 1 ≡ c.args.number - (k + 1) = omega (arith, from) in
    let can : CanWake (rest_of c.self.inside) c.args.tables.now = subst (λ (r : Rest). CanWake r c.args.tables.now) (sym c.self.view_is) c.requires.wakes in
    let later : c.wait.new.self ≡ waits_too v.window (c.args.number - (k + 1)) c.args.m.now = c.wait.ensures ∙ ap (λ (n : ℕ). waits_too v.window n c.args.m.now) place in
    record {
      same = refl;
      wakes =
          subst (λ (w : ReorderBuffer). CanWake (waiting (rest_of c.self.inside) w) c.args.tables.now) (sym later)
          (can_wake_too (rest_of c.self.inside) c.args.tables.now c.args.number c.args.m.now (subst (λ (n : ℕ). n < c.args.number) at c.if-number-3.true) c.if-number-ge4096.false can);
      answers =
          of_fields (awake_is c.args.tables.now c.self.view_is) g.K.Keeper.facts c.args.keeper.now c.args.number c.args.m.now c.tell-then-number-3.result.items _
          (waits g.K.Keeper.facts v c.args.keeper.now c.args.number c.args.m.now c.tell-then-number-3.result.items _ c.if-number-ge4096.false
          (sym (some_in c.as_record-record.ensures _ c.is_some.ensures) ∙ c.if-is_some.false) (subst (λ (n : ℕ). n < c.args.number) at c.if-number-3.true) (subst (λ (n : ℕ). c.args.number < n + 32) high c.if-number-2.false)
          (c.tell-then-number-3.ensures
          ∙ ap (λ (r : Record). told_of (record { stamp = r.stamp; who = c.self.inside.terms.me }) c.count-count.result None) c.as_record-record.ensures
          ∙ ap (λ (n : ℕ). told_of v.me n None) (count_in c.as_record-record.ensures _ c.count-count.ensures))
          (ap (with_window v) (c.wait.ensures ∙ ap (λ (n : ℕ). waits_too v.window n c.args.m.now) place)));
    }

pub returns-in_default : goal.returns-in_default
returns-in_default g c =
    record {
      same = refl;
      wakes = c.requires.wakes;
      answers = illegal g.K.Keeper.facts (awake c.args.self.now c.args.tables.now) c.args.keeper.now c.args.number c.args.m.now c.if-number-ge4096.false
          (goes_on (awake_is c.args.tables.now c.self.view_is) _ (some_in c.as_record-record.ensures _ c.is_some.ensures) c.if-is_some.false)
          (is_turn (awake_is c.args.tables.now c.self.view_is) _ _ _ _ c.number.ensures.value c.number-3.ensures.value (count_in c.as_record-record.ensures _ c.count-count.ensures) c.if-number.false c.if-number-3.false)
          (sym c.position_after.ensures ∙ c.in_default.is);
    }

pub go_on-requires-clause-next : goal.go_on-requires-clause-next
go_on-requires-clause-next g c =
    let turn = is_turn (awake_is c.args.tables.now c.self.view_is) _ _ _ _ c.number.ensures.value c.number-3.ensures.value (count_in c.as_record-record.ensures _ c.count-count.ensures) c.if-number.false c.if-number-3.false in
    record {
      unruled = none_of _ (goes_on (awake_is c.args.tables.now c.self.view_is) _ (some_in c.as_record-record.ensures _ c.is_some.ensures) c.if-is_some.false);
      legal = sym c.position_after.ensures ∙ c.in-Some.is;
      short = subst (λ (n : ℕ). n < most_moves) turn c.if-number-ge4096.false;
    }

pub returns : goal.returns
returns g c =
    record {
      same = c.go_on.ensures.same;
      wakes = c.go_on.ensures.wakes;
      answers = answers_as g.K.Keeper.facts _ _ _ (answer_to_numbered (awake c.args.self.now c.args.tables.now) c.args.number c.args.m.now) (answer_to_next (awake c.args.self.now c.args.tables.now) c.args.m.now)
          (turn_is (awake c.args.self.now c.args.tables.now) c.in-Some.position c.args.number c.args.m.now c.if-number-ge4096.false
          (goes_on (awake_is c.args.tables.now c.self.view_is) _ (some_in c.as_record-record.ensures _ c.is_some.ensures) c.if-is_some.false)
          (is_turn (awake_is c.args.tables.now c.self.view_is) _ _ _ _ c.number.ensures.value c.number-3.ensures.value (count_in c.as_record-record.ensures _ c.count-count.ensures) c.if-number.false c.if-number-3.false)
          (sym c.position_after.ensures ∙ c.in-Some.is))
          c.go_on.ensures.answers;
    }

pub position_after-requires : goal.position_after-requires
position_after-requires g c = let at = c.requires.wakes.at in at.position
