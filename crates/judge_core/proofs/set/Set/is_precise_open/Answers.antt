use Rattle.std.proofs.Common.{◌∙◌, sym}
use Rattle.judge_core.specs.Answers.{ListsMoves}
use Rattle.judge_core.proofs.Rounding.{in_any_case, lists_moves}
use Rattle.judge_core.proofs.set.Set.is_precise_open.Goals as goal

pub returns-in-NextMoves-clause-memory : goal.returns-in-NextMoves-clause-memory
returns-in-NextMoves-clause-memory c =
    in_any_case c.is_precise_by_moves.result (ListsMoves c.args.self.now.tables c.args.position.now)
    (lists_moves c.args.self.now.tables c.args.position.now c.in-NextMoves.outcome (sym c.in_ok-source.ensures.is ∙ c.in-NextMoves.is))
