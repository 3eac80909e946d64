use Rattle.std.proofs.Common.{◌∙◌, sym, ap}
use Rattle.judge_core.specs.Inside.Precision.{precision_of_moves}
use Rattle.judge_core.specs.Precision.{is_precise_by_moves}
use Rattle.judge_core.specs.Tables.{Holding}
use Rattle.judge_core.proofs.Rounding.{in_a_row, moves_decide}
use Rattle.judge_core.proofs.set.Set.is_precise_by_moves.Goals as goal

pub returns-in_ok-found-in-Ok-clause-is : goal.returns-in_ok-found-in-Ok-clause-is
returns-in_ok-found-in-Ok-clause-is c =
    let tables = c.args.self.now.tables in
    let p = c.args.position.now in
    let found = c.in_ok-found-in-Ok.ensures.is
    ∙ ap (λ (h : Holding). precision_of_moves h.tables p c.args.outcome c.plies.result) c.dtz_from.ensures.unchanged
    ∙ ap (precision_of_moves tables p c.args.outcome) c.plies.ensures in
    moves_decide tables p c.args.outcome c.in-Ok.distance c.in_ok-found-in-Ok.found c.result.result found c.result.ensures
    ∙ ap (is_precise_by_moves tables p c.args.outcome) (sym c.in-Ok.is ∙ c.in_ok-distance.ensures.is ∙ in_a_row tables p)

pub returns-in-Err-clause-is : goal.returns-in-Err-clause-is
returns-in-Err-clause-is c =
    let tables = c.args.self.now.tables in
    let p = c.args.position.now in
    ap (is_precise_by_moves tables p c.args.outcome) (sym c.in-Err.is ∙ c.in_ok-distance.ensures.is ∙ in_a_row tables p)
