use Rattle.std.proofs.Common.{◌∙◌, sym}
use Rattle.judge_core.proofs.Rounding.{mate_next, open_next}
use Rattle.judge_core.proofs.set.Set.is_precise_next.Goals as goal

pub returns-then-is_checkmate-clause-is : goal.returns-then-is_checkmate-clause-is
returns-then-is_checkmate-clause-is c = mate_next c.args.self.now.tables c.args.after.now (sym c.is_checkmate.ensures.computed ∙ c.if-is_checkmate.true)

pub returns-clause-is : goal.returns-clause-is
returns-clause-is c =
    open_next c.args.self.now.tables c.args.after.now c.in_ok-source.source c.is_unrounded.result (sym c.is_checkmate.ensures.computed ∙ c.if-is_checkmate.false) c.in_ok-source.ensures.is c.is_unrounded.ensures
