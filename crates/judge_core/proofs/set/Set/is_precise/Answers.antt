use Rattle.std.proofs.Common.{◌∙◌, sym}
use Rattle.judge_core.proofs.Reaching.{if_same}
use Rattle.judge_core.proofs.Rounding.{mate_precise, none_outside, open_precise}
use Rattle.judge_core.proofs.set.Set.is_precise.Goals as goal

pub returns-then-is_checkmate-clause-is : goal.returns-then-is_checkmate-clause-is
returns-then-is_checkmate-clause-is c = mate_precise c.args.self.now.tables c.args.position.now (sym c.is_checkmate.ensures.computed ∙ c.if-is_checkmate.true)

pub returns-then-is_out_of_scope-clause-is : goal.returns-then-is_out_of_scope-clause-is
returns-then-is_out_of_scope-clause-is c =
    none_outside c.args.self.now.tables c.args.position.now (sym c.is_checkmate.ensures.computed ∙ c.if-is_checkmate.false) (sym c.is_out_of_scope.ensures.is ∙ c.if-is_out_of_scope.true)

pub returns-clause-is : goal.returns-clause-is
returns-clause-is c =
    if_same c.is_precise_open.result _ _
    (open_precise c.args.self.now.tables c.args.position.now (sym c.is_checkmate.ensures.computed ∙ c.if-is_checkmate.false) (sym c.is_out_of_scope.ensures.is ∙ c.if-is_out_of_scope.false))
    c.is_precise_open.ensures.is
