use Rattle.std.proofs.Common.{◌∙◌, ap, false}
use Rattle.judge_core.specs.Inside.Determined.{extreme_value}
use Rattle.judge_core.specs.Tables.{Holding}
use Rattle.judge_core.proofs.Completed.{each-is, some-is}
use Rattle.judge_core.proofs.set.Set.step_value.Goals as goal

pub returns-in-EachCompletion-clause-is : goal.returns-in-EachCompletion-clause-is
returns-in-EachCompletion-clause-is c =
    let even = c.wdl_extreme-even.ensures.is ∙ ap (λ (h : Holding). extreme_value h.tables false c.args.after.now) c.wdl_extreme-odd.ensures.unchanged in
    each-is c.args.within c.args.self.now.tables c.args.value c.args.after.now _ _ _ _ c.in-EachCompletion.is c.wdl_extreme-odd.ensures.is even c.opposite.ensures c.in_both.ensures

pub returns-in-SomeCompletion-clause-is : goal.returns-in-SomeCompletion-clause-is
returns-in-SomeCompletion-clause-is c =
    let even = c.wdl_extreme-even-in-SomeCompletion.ensures.is ∙ ap (λ (h : Holding). extreme_value h.tables false c.args.after.now) c.wdl_extreme-odd-in-SomeCompletion.ensures.unchanged in
    some-is c.args.within c.args.self.now.tables c.args.value c.args.after.now _ _ _ _ c.in-SomeCompletion.is c.wdl_extreme-odd-in-SomeCompletion.ensures.is even c.opposite-in-SomeCompletion.ensures c.in_some.ensures
