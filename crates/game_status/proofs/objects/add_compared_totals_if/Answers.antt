use Rattle.std.proofs.lemmas.Result.{on_ok_weaker}
use Rattle.game_status.specs.StatusObjects.{compared_totals}
use Rattle.game_status.proofs.ObjectLaws.{lack_if, stand_if}
use Rattle.game_status.proofs.objects.add_compared_totals_if.Goals as goal

pub returns-then-compares : goal.returns-then-compares
returns-then-compares c = on_ok_weaker c.add_compared_totals.result (λ h. stand_if c.args.compares (compared_totals c.args.totals.now) _ _ c.if-compares.true h) c.add_compared_totals.ensures

pub returns-else-compares : goal.returns-else-compares
returns-else-compares c = lack_if c.args.compares (compared_totals c.args.totals.now) c.args.text.now c.if-compares.false
