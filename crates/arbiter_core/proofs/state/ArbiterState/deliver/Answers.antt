use Rattle.std.proofs.Common.{◌≡◌, Ok, false, ap, refl, sym, ◌∙◌}
use Rattle.arbiter_core.specs.declared.fault.DeliverFault.TheVariants.{Down, Stranger}
use Rattle.arbiter_core.specs.Resting.{Rest, awake}
use Rattle.arbiter_core.specs.Delivers.{answer_to_any, in_game}
use Rattle.arbiter_core.proofs.Hearing.{answers_as, hears_down, is_other, is_own, refuses, to_fault, to_heard}
use Rattle.arbiter_core.proofs.StillKept.{same_setup, still_kept}
use Rattle.arbiter_core.proofs.state.ArbiterState.deliver.Goals as goal

pub returns-then-self : goal.returns-then-self
returns-then-self g c =
    let v = awake c.args.self.now c.args.tables.now in
    record {
      same = refl;
      wakes = c.requires.wakes;
      answers =
          refuses g.K.Keeper.facts v c.args.keeper.now (answer_to_any v c.args.message.now) Down
          (hears_down v (in_game v.me.stamp (Ok c.args.message.now)) (ap (λ (r : Rest). r.is_down) (sym c.self.view_is) ∙ c.if-self.true));
      keeps = c.requires.kept;
      setup = refl;
    }

pub returns-then-not-is_own : goal.returns-then-not-is_own
returns-then-not-is_own g c =
    let v = awake c.args.self.now c.args.tables.now in
    record {
      same = refl;
      wakes = c.requires.wakes;
      answers =
          refuses g.K.Keeper.facts v c.args.keeper.now (answer_to_any v c.args.message.now) Stranger
          (to_fault v Stranger (in_game v.me.stamp (Ok c.args.message.now)) (ap (λ (r : Rest). r.is_down) (sym c.self.view_is) ∙ c.if-self.false)
          (is_other v.me.stamp c.args.message.now (sym c.is_own.ensures ∙ c.if-not-is_own.true)));
      keeps = c.requires.kept;
      setup = refl;
    }

pub returns : goal.returns
returns g c =
    let v = awake c.args.self.now c.args.tables.now in
    let up : v.is_down ≡ false = ap (λ (r : Rest). r.is_down) (sym c.self.view_is) ∙ c.if-self.false in
    let answers =
    answers_as g.K.Keeper.facts _ _ _ (answer_to_any v c.args.message.now) _
    (to_heard v c.args.message.now (in_game v.me.stamp (Ok c.args.message.now)) up (is_own v.me.stamp c.args.message.now (sym c.is_own.ensures ∙ c.if-not-is_own.false))) c.answer.ensures.answers in
    record {
      same = c.answer.ensures.same;
      wakes = c.answer.ensures.wakes;
      answers = answers;
      keeps = still_kept g.K.Keeper.facts v (awake c.answer.new.self c.args.tables.now) c.args.keeper.now c.answer.new.keeper _ _ answers c.requires.kept;
      setup = same_setup g.K.Keeper.facts v (awake c.answer.new.self c.args.tables.now) c.args.keeper.now c.answer.new.keeper _ _ answers;
    }
