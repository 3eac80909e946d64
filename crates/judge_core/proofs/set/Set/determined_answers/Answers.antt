use Rattle.std.proofs.Common.{◌∙◌, sym}
use Rattle.judge_core.proofs.ByReadings.{ruled_outside}
use Rattle.judge_core.proofs.Told.{both_outside}
use Rattle.judge_core.proofs.set.Set.determined_answers.Goals as goal

pub returns-then-is_out_of_scope-clause-told : goal.returns-then-is_out_of_scope-clause-told
returns-then-is_out_of_scope-clause-told c = both_outside c.args.self.now.tables c.args.position.now c.is_out_of_scope.ensures.position c.columns_outside.result.probed (sym c.is_out_of_scope.ensures.is ∙ c.if-is_out_of_scope.true) c.columns_outside.ensures.probed

pub returns-then-is_out_of_scope-clause-verdict : goal.returns-then-is_out_of_scope-clause-verdict
returns-then-is_out_of_scope-clause-verdict c = ruled_outside c.args.self.now.tables c.args.position.now c.columns_outside.result.verdict (sym c.is_out_of_scope.ensures.is ∙ c.if-is_out_of_scope.true) c.columns_outside.ensures.verdict
