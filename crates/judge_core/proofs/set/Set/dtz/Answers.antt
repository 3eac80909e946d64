use Rattle.std.proofs.Common.{◌∙◌, sym}
use Rattle.judge_core.proofs.ByReadings.{dtz_probe}
use Rattle.judge_core.proofs.set.Set.dtz.Goals as goal

pub returns-clause-answer : goal.returns-clause-answer
returns-clause-answer c =
    dtz_probe c.args.self.now.tables c.args.position.now c.in-Ok.reach c.signed_in.result (sym c.is_out_of_scope.ensures.is ∙ c.if-is_out_of_scope.false) (rw c.in-Ok.is at c.dtz_from.ensures.is) c.signed_in.ensures
