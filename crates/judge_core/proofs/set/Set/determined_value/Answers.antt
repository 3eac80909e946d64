use Rattle.std.proofs.Common.{◌∙◌, ap, true, false}
use Rattle.judge_core.specs.Inside.Determined.{agreed, extreme_value, or_agreed}
use Rattle.judge_core.specs.Tables.{Holding}
use Rattle.judge_core.proofs.Told.{value_from}
use Rattle.judge_core.proofs.set.Set.determined_value.Goals as goal

pub returns-clause-is : goal.returns-clause-is
returns-clause-is c =
    let p = c.args.position.now in
    let is = c.or_agreed.ensures.is ∙ ap (λ (h : Holding). or_agreed c.wdl_of-strict.result (agreed (extreme_value h.tables true p) (extreme_value h.tables false p))) c.wdl_of-strict.ensures.unchanged in
    value_from c.args.self.now.tables p c.wdl_of-strict.result _ c.wdl_of-strict.ensures.is is
