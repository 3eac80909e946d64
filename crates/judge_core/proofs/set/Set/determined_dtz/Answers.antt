use Rattle.std.proofs.Common.{◌∙◌, sym}
use Rattle.judge_core.proofs.AskedPawns.{lists}
use Rattle.judge_core.proofs.Told.{dtz_outside, dtz_memory, dtz_inside}
use Rattle.judge_core.proofs.set.Set.determined_dtz.Goals as goal

pub returns-then-is_out_of_scope-clause-answer : goal.returns-then-is_out_of_scope-clause-answer
returns-then-is_out_of_scope-clause-answer c = dtz_outside c.args.self.now.tables c.args.position.now c.is_out_of_scope.ensures.position (sym c.is_out_of_scope.ensures.is ∙ c.if-is_out_of_scope.true)

pub returns-in_default-clause-answer : goal.returns-in_default-clause-answer
returns-in_default-clause-answer c = dtz_memory c.args.self.now.tables c.args.position.now c.is_out_of_scope.ensures.position (sym c.is_out_of_scope.ensures.is ∙ c.if-is_out_of_scope.false)

pub returns-clause-answer : goal.returns-clause-answer
returns-clause-answer c =
    dtz_inside c.args.self.now.tables c.args.position.now c.is_out_of_scope.ensures.position c.in-Ok.readings.dtz _ (sym c.is_out_of_scope.ensures.is ∙ c.if-is_out_of_scope.false) (rw c.in-Ok.is at c.readings_as.ensures.dtz) c.signed_in.ensures

pub returns-in_default-clause-memory : goal.returns-in_default-clause-memory
returns-in_default-clause-memory c e = lists c.args.self.now.tables c.args.position.now c.is_out_of_scope.ensures.position c.in_default.ensures.memory
