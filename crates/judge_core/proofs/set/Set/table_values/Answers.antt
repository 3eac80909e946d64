use Rattle.std.proofs.Common.{◌∙◌, ap, map}
use Rattle.std.proofs.lemmas.Result.{IfOk-weaker}
use Rattle.judge_core.specs.declared.many.Located.{Located}
use Rattle.judge_core.proofs.Looking.{same_values}
use Rattle.judge_core.proofs.set.Set.table_values.Goals as goal

pub returns-clause-is : goal.returns-clause-is
returns-clause-is c =
    IfOk-weaker c.read_each.result _ _ (λ values h. same_values c.args.self.now c.self.inside.table_slots c.deref-2.result.now c.args.probes.now values.items c.self.view_is (ap (map (λ (it : Located). it.probe.now)) c.deref-2.ensures.value ∙ c.in_ok-located.ensures.probes) h) c.read_each.ensures.is
