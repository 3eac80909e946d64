use Rattle.std.proofs.Common.{◌∙◌, subst}
use Rattle.std.proofs.lemmas.List.{take_all}
use Rattle.judge_core.specs.Tables.{Holding}
use Rattle.json_lines.specs.ApiTold.{IsPrecisionAfter}
use Rattle.json_lines.proofs.Precise.{one_more_holds, one_more_move}
use Rattle.json_lines.proofs.api_told.with_precision.Goals as goal

pub loop-told-preserved : goal.loop-told-preserved
loop-told-preserved c =
    let added = c.in_ok-add_with_precision.ensures.added in
    let one = subst (λ (s : Holding). IsPrecisionAfter s.tables added.0) c.loop-told.invariant.2 added.2 in (
      one_more_move c.args.moves.now c.loop-told.told-index c.told-item.result c.loop-told.found.items _ added.0 c.loop-told-test.true c.told-item.is c.loop-told.invariant.0 added.1 added.3,
      one_more_holds (IsPrecisionAfter c.args.set.now.tables) c.loop-told.found.items _ added.0 c.loop-told.invariant.1 one added.3,
      c.add_with_precision.ensures.unchanged ∙ c.loop-told.invariant.2,
    )

pub returns-clause-told : goal.returns-clause-told
returns-clause-told c = (c.loop-told.invariant.0 ∙ take_all c.loop-told.told-index c.args.moves.now c.loop-told-test.false, c.loop-told.invariant.1)
