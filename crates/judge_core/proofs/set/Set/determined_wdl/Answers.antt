use Rattle.std.proofs.Common.{◌∙◌, sym}
use Rattle.judge_core.proofs.Told.{wdl_outside, wdl_inside}
use Rattle.judge_core.proofs.set.Set.determined_wdl.Goals as goal

pub returns-then-is_out_of_scope-clause-answer : goal.returns-then-is_out_of_scope-clause-answer
returns-then-is_out_of_scope-clause-answer c = wdl_outside c.args.self.now.tables c.args.position.now c.is_out_of_scope.ensures.position (sym c.is_out_of_scope.ensures.is ∙ c.if-is_out_of_scope.true)

pub returns-clause-answer : goal.returns-clause-answer
returns-clause-answer c = wdl_inside c.args.self.now.tables c.args.position.now c.is_out_of_scope.ensures.position c.determined_value-reading.result _ (sym c.is_out_of_scope.ensures.is ∙ c.if-is_out_of_scope.false) c.determined_value-reading.ensures.is c.told.ensures
